-- Which of two borders on one line shows.
use Rattle.std.specs.Prelude.{ℕ, ◌+◌, ◌*◌, ◌==◌, ◌&&◌, ◌||◌, Bool, true, false, nat_lt, Option, Some, None}
use Rattle.std.specs.Option.{option_map_or}
use Rattle.base_styles.specs.declared.border.BorderItem.{BorderItem}
use Rattle.base_styles.specs.declared.color.Color.{Color}
use Rattle.base_styles.specs.declared.theme.RgbColor.{RgbColor}
use Rattle.base_styles.specs.declared.theme.Theme.{Theme}
use Rattle.base_styles.specs.Borders.{weight}
use Rattle.base_styles.specs.Themes.{resolved}

-- how light a colour is to the eye
abbrev pub lightness : RgbColor → ℕ
lightness color = 299 * color.red + 587 * color.green + 114 * color.blue

-- no colour is as dark as black
abbrev pub lightness_in : Theme → Color → ℕ
lightness_in theme color = option_map_or lightness (resolved theme color) 0

-- the second border is heavier, or equally heavy and darker
abbrev pub outweighs : Theme → BorderItem → BorderItem → Bool
outweighs theme a b =
    nat_lt (weight a.style) (weight b.style)
    || (weight a.style == weight b.style && nat_lt (lightness_in theme b.color) (lightness_in theme a.color))

-- the second border shows in place of the first: it is there, and the first is not or is outweighed
abbrev pub is_max_border : Option BorderItem → Option BorderItem → Theme → Bool
is_max_border a None theme = false
is_max_border None (Some b) theme = true
is_max_border (Some a) (Some b) theme = outweighs theme a b
