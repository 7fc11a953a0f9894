-- The bytes of themes.
use Rattle.std.specs.Prelude.{ℕ, ◌<◌, ◌^◌, List, [], ◌∷◌, ◌++◌}
use Rattle.base_styles.specs.declared.RgbColor.{RgbColor}
use Rattle.base_styles.specs.declared.Theme.{Theme}

-- ---- the parts of a colour

-- red, green and blue, a byte each
abbrev pub encode_rgb : RgbColor → List ℕ
encode_rgb color = color.red ∷ color.green ∷ color.blue ∷ []

-- its parts are bytes
pub record FitsRgb (color : RgbColor) : Type 0 where
  pub red : color.red < 2 ^ 8
  pub green : color.green < 2 ^ 8
  pub blue : color.blue < 2 ^ 8

-- ---- themes

-- its colours in their order
unfoldable pub encode_theme : Theme → List ℕ
encode_theme theme =
    encode_rgb theme.light1 ++ (encode_rgb theme.dark1 ++ (encode_rgb theme.light2 ++ (encode_rgb theme.dark2
    ++ (encode_rgb theme.accent1 ++ (encode_rgb theme.accent2 ++ (encode_rgb theme.accent3 ++ (encode_rgb theme.accent4
    ++ (encode_rgb theme.accent5 ++ (encode_rgb theme.accent6 ++ (encode_rgb theme.hyperlink ++ (encode_rgb theme.followed_hyperlink)))))))))))

-- the parts of its colours are bytes
pub record FitsTheme (theme : Theme) : Type 0 where
  pub light1 : FitsRgb theme.light1
  pub dark1 : FitsRgb theme.dark1
  pub light2 : FitsRgb theme.light2
  pub dark2 : FitsRgb theme.dark2
  pub accent1 : FitsRgb theme.accent1
  pub accent2 : FitsRgb theme.accent2
  pub accent3 : FitsRgb theme.accent3
  pub accent4 : FitsRgb theme.accent4
  pub accent5 : FitsRgb theme.accent5
  pub accent6 : FitsRgb theme.accent6
  pub hyperlink : FitsRgb theme.hyperlink
  pub followed_hyperlink : FitsRgb theme.followed_hyperlink
