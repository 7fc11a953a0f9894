-- Colours in words: `#RRGGBB`, `#RGB` with each digit doubled, and `theme:` with a number from 0 to 11.
use Rattle.std.specs.Prelude.{ℕ, ◌==◌, ◌+◌, ◌*◌, List, [], ◌∷◌, if◌then◌else◌, Option, Some, None}
use Rattle.std.specs.Char.{is_digit, digit_value}
use Rattle.std.specs.Option.{option_and_then, option_map, option_or}
use Rattle.base_tables.specs.Tables.{entry_named}
use Rattle.base_styles.specs.declared.color.Color.{Color}
use Rattle.base_styles.specs.declared.color.Color.TheVariants.{Rgb, Theme}
use Rattle.base_styles.specs.Colors.{theme_color_name, all_theme_colors}

-- the value of a hexadecimal digit of either case
abbrev pub hex_value : ℕ → Option ℕ
hex_value b = if is_digit b 16 then Some (digit_value b) else None

-- the byte of two digits
unfoldable pub pair_value : ℕ → ℕ → Option ℕ
pair_value high low = option_and_then (λ h. option_map (λ l. h * 16 + l) (hex_value low)) (hex_value high)

-- the colour of two digits each for red, green and blue
unfoldable pub color_of_pairs : Option ℕ → Option ℕ → Option ℕ → Option Color
color_of_pairs red green blue = option_and_then (λ r. option_and_then (λ g. option_map (λ b. Rgb r g b) blue) green) red

-- the colour of three digits, or of six
abbrev pub color_of_digits : List ℕ → Option Color
color_of_digits (r ∷ g ∷ b ∷ []) = color_of_pairs (pair_value r r) (pair_value g g) (pair_value b b)
color_of_digits (r ∷ s ∷ g ∷ h ∷ b ∷ c ∷ []) = color_of_pairs (pair_value r s) (pair_value g h) (pair_value b c)
color_of_digits digits = None

-- behind a number sign
abbrev pub digit_color : List ℕ → Option Color
digit_color [] = None
digit_color (sign ∷ digits) = if sign == 35 then color_of_digits digits else None

-- the colour that a text writes
abbrev pub color_written : List ℕ → Option Color
color_written text = option_or (option_map Theme (entry_named theme_color_name all_theme_colors text)) (digit_color text)
