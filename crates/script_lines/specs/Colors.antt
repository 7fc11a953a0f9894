-- Colours in words: `-` for none, `#RRGGBB`, `#RGB` with each digit doubled, and `theme:` with a number from 0 to 11.
use Rattle.std.specs.Prelude.{ℕ, ◌==◌, List, length, if◌then◌else◌, codes}
use Rattle.std.specs.Option.{option_and_then}
use Rattle.std.specs.Str.{bytes_eq}
use Rattle.std.specs.declared.option.Option.{Option}
use Rattle.std.specs.declared.option.Option.TheVariants.{Some, None}
use Rattle.base_styles.specs.declared.Color.{Color}
use Rattle.base_styles.specs.declared.Color.TheVariants.{None as NoColor, Rgb}
use Rattle.base_styles.specs.declared.RgbColor.{RgbColor}
use Rattle.style_edits.specs.Colors.{color_written}

-- the colour that the bytes name: a dash for none, or one that is written
abbrev pub color_of : List ℕ → Option Color
color_of bytes = if bytes_eq bytes (codes "-") then Some NoColor else color_written bytes

-- the parts of a colour that has some
abbrev pub parts_in : Color → Option RgbColor
parts_in (Rgb red green blue) = Some (record { red = red; green = green; blue = blue })
parts_in color = None

-- the parts of a colour in seven bytes, which are `#RRGGBB` as one of the theme has no parts
abbrev pub parts_of : List ℕ → Option RgbColor
parts_of bytes = if length bytes == 7 then option_and_then parts_in (color_written bytes) else None
