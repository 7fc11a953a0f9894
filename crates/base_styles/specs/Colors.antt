-- The colours of a theme: their numbers, and how they are written.
use Rattle.std.specs.Prelude.{ℕ, Option, List, [], ◌∷◌, codes, slice_get}
use Rattle.base_styles.specs.declared.color.ThemeColor.{ThemeColor}
use Rattle.base_styles.specs.declared.color.ThemeColor.TheVariants.{Light1, Dark1, Light2, Dark2, Accent1, Accent2, Accent3, Accent4, Accent5, Accent6, Hyperlink, FollowedHyperlink}

-- in the order of the theme
abbrev pub all_theme_colors : List ThemeColor
all_theme_colors = Light1 ∷ Dark1 ∷ Light2 ∷ Dark2 ∷ Accent1 ∷ Accent2 ∷ Accent3 ∷ Accent4 ∷ Accent5 ∷ Accent6 ∷ Hyperlink ∷ FollowedHyperlink ∷ []

-- the number in this order, from 0
abbrev pub theme_color_code : ThemeColor → ℕ
theme_color_code Light1 = 0
theme_color_code Dark1 = 1
theme_color_code Light2 = 2
theme_color_code Dark2 = 3
theme_color_code Accent1 = 4
theme_color_code Accent2 = 5
theme_color_code Accent3 = 6
theme_color_code Accent4 = 7
theme_color_code Accent5 = 8
theme_color_code Accent6 = 9
theme_color_code Hyperlink = 10
theme_color_code FollowedHyperlink = 11

abbrev pub theme_color_of_code : ℕ → Option ThemeColor
theme_color_of_code code = slice_get all_theme_colors code

-- `theme:` and the number
abbrev pub theme_color_name : ThemeColor → List ℕ
theme_color_name Light1 = codes "theme:0"
theme_color_name Dark1 = codes "theme:1"
theme_color_name Light2 = codes "theme:2"
theme_color_name Dark2 = codes "theme:3"
theme_color_name Accent1 = codes "theme:4"
theme_color_name Accent2 = codes "theme:5"
theme_color_name Accent3 = codes "theme:6"
theme_color_name Accent4 = codes "theme:7"
theme_color_name Accent5 = codes "theme:8"
theme_color_name Accent6 = codes "theme:9"
theme_color_name Hyperlink = codes "theme:10"
theme_color_name FollowedHyperlink = codes "theme:11"
