-- The colours that a theme names, and what they are.
use Rattle.std.specs.Prelude.{ℕ, Option, Some, None}
use Rattle.base_styles.specs.declared.color.Color.{Color}
use Rattle.base_styles.specs.declared.color.Color.TheVariants.{None as NoColor, Rgb, Theme as OfTheme}
use Rattle.base_styles.specs.declared.color.ThemeColor.{ThemeColor}
use Rattle.base_styles.specs.declared.color.ThemeColor.TheVariants.{Light1, Dark1, Light2, Dark2, Accent1, Accent2, Accent3, Accent4, Accent5, Accent6, Hyperlink, FollowedHyperlink}
use Rattle.base_styles.specs.declared.theme.RgbColor.{RgbColor}
use Rattle.base_styles.specs.declared.theme.Theme.{Theme}

-- the colour with these parts
abbrev pub rgb : ℕ → ℕ → ℕ → RgbColor
rgb red green blue = record { red = red; green = green; blue = blue }

-- the theme of a new workbook
abbrev pub default_theme : Theme
default_theme = record {
  light1 = rgb 0xFF 0xFF 0xFF;
  dark1 = rgb 0x00 0x00 0x00;
  light2 = rgb 0xE7 0xE6 0xE6;
  dark2 = rgb 0x44 0x54 0x6A;
  accent1 = rgb 0x44 0x72 0xC4;
  accent2 = rgb 0xED 0x7D 0x31;
  accent3 = rgb 0xA5 0xA5 0xA5;
  accent4 = rgb 0xFF 0xC0 0x00;
  accent5 = rgb 0x5B 0x9B 0xD5;
  accent6 = rgb 0x70 0xAD 0x47;
  hyperlink = rgb 0x05 0x63 0xC1;
  followed_hyperlink = rgb 0x95 0x4F 0x72;
}

-- a colour that the theme names
abbrev pub theme_color : Theme → ThemeColor → RgbColor
theme_color theme Light1 = theme.light1
theme_color theme Dark1 = theme.dark1
theme_color theme Light2 = theme.light2
theme_color theme Dark2 = theme.dark2
theme_color theme Accent1 = theme.accent1
theme_color theme Accent2 = theme.accent2
theme_color theme Accent3 = theme.accent3
theme_color theme Accent4 = theme.accent4
theme_color theme Accent5 = theme.accent5
theme_color theme Accent6 = theme.accent6
theme_color theme Hyperlink = theme.hyperlink
theme_color theme FollowedHyperlink = theme.followed_hyperlink

-- the parts of a colour in a theme
abbrev pub resolved : Theme → Color → Option RgbColor
resolved theme NoColor = None
resolved theme (Rgb red green blue) = Some (rgb red green blue)
resolved theme (OfTheme color) = Some (theme_color theme color)
