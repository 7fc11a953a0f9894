-- How the values of style attributes are read.
use Rattle.std.proofs.Common.{◌+ℤ◌}
use Rattle.std.specs.Prelude.{ℕ, ℤ, pos, negsuc, Bool, true, false, ◌^◌, ◌&&◌, ◌==◌, List, codes, length, nat_lt, int_le, if◌then◌else◌, Option, Some, None}
use Rattle.std.specs.Str.{bytes_eq, all_ascii_digits}
use Rattle.std.specs.Str.Parse.{without_leading_sign, signed_digits_value}
use Rattle.std.specs.Option.{option_and_then}
use Rattle.base_tables.specs.Tables.{entry_named}
use Rattle.base_styles.specs.declared.color.Color.{Color}
use Rattle.base_styles.specs.declared.color.Color.TheVariants.{None as NoColor}
use Rattle.base_styles.specs.declared.alignment.HorizontalAlignment.{HorizontalAlignment}
use Rattle.base_styles.specs.declared.alignment.VerticalAlignment.{VerticalAlignment}
use Rattle.base_styles.specs.Alignments.{all_horizontals, horizontal_name, all_verticals, vertical_name}
use Rattle.style_edits.specs.Colors.{color_written}

abbrev pub boolean_of : List ℕ → Option Bool
boolean_of text = if bytes_eq text (codes "true") then Some true else (if bytes_eq text (codes "false") then Some false else None)

-- the empty text writes that there is no colour
abbrev pub color_of : List ℕ → Option Color
color_of text = if length text == 0 then Some NoColor else color_written text

abbrev pub horizontal_of : List ℕ → Option HorizontalAlignment
horizontal_of text = entry_named horizontal_name all_horizontals text

abbrev pub vertical_of : List ℕ → Option VerticalAlignment
vertical_of text = entry_named vertical_name all_verticals text

-- one digit or more, maybe behind a plus or a minus
abbrev pub is_numeral : List ℕ → Bool
is_numeral text = nat_lt 0 (length (without_leading_sign text)) && all_ascii_digits (without_leading_sign text)

-- from -2,147,483,648 to 2,147,483,647
abbrev pub has_32_bits : ℤ → Bool
has_32_bits (pos n) = nat_lt n (2 ^ 31)
has_32_bits (negsuc n) = nat_lt n (2 ^ 31)

unfoldable pub whole_number : List ℕ → Option ℤ
whole_number text = if is_numeral text && has_32_bits (signed_digits_value 10 text) then Some (signed_digits_value 10 text) else None

-- from 1 to 2,147,483,647
abbrev pub font_size : ℤ → Option ℤ
font_size n = if int_le (pos 1) n && int_le n (pos 2147483647) then Some n else None

abbrev pub size_of : List ℕ → Option ℤ
size_of text = option_and_then font_size (whole_number text)

-- what is written is added to the size
abbrev pub grown_size : ℤ → List ℕ → Option ℤ
grown_size size text = option_and_then (λ delta. font_size (size +ℤ delta)) (whole_number text)
