-- Numbers as the texts of cells write them.
use Rattle.std.specs.Prelude.{ℕ, ◌==◌, nat_le, Bool, true, false, not, ◌&&◌, ◌||◌, ℤ, List, [], ◌∷◌, length, filter, Option, None, encode_utf8_all, if◌then◌else◌}
use Rattle.std.specs.List.{list_all}
use Rattle.std.specs.Option.{option_map}
use Rattle.std.specs.Str.{chars}
use Rattle.base_tables.specs.declared.Locale.{Locale}
use Rattle.base_tables.specs.Locale.{decimal_sign, group_sign}
use Rattle.base_tables.specs.Word.{is_digit, front, behind}
use Rattle.base_decimal.specs.declared.Decimal.{Decimal}
use Rattle.base_decimal.specs.Arithmetic.{mantissa_at, rounded}
use Rattle.base_decimal.specs.laws.Reading.{decimal_of}
use Rattle.base_decimal.specs.Printed.{printed}

-- ---- which texts are numbers, as lists of characters

abbrev pub is_empty : List ℕ → Bool
is_empty [] = true
is_empty (c ∷ text) = false

-- groups of three digits, each behind the group sign
abbrev pub are_groups : ℕ → List ℕ → Bool
are_groups sign [] = true
are_groups sign (c ∷ []) = false
are_groups sign (c ∷ x ∷ []) = false
are_groups sign (c ∷ x ∷ y ∷ []) = false
are_groups sign (c ∷ x ∷ y ∷ z ∷ text) = (c == sign && (is_digit x && (is_digit y && is_digit z))) && are_groups sign text

-- plain digits, or one to three digits and groups of three
abbrev pub is_whole_part : ℕ → List ℕ → Bool
is_whole_part sign text =
    let digits = front is_digit text in
    let groups = behind is_digit text in
    not (is_empty digits) && (is_empty groups || (nat_le (length digits) 3 && are_groups sign groups))

-- nothing, or the decimal sign and digits
abbrev pub is_fraction : ℕ → List ℕ → Bool
is_fraction mark [] = true
is_fraction mark (c ∷ digits) = c == mark && list_all is_digit digits

abbrev pub is_other : ℕ → ℕ → Bool
is_other sign c = not (c == sign)

-- a whole part and a fraction, where `mark` is the decimal sign and `sign` the group sign
abbrev pub is_unsigned : ℕ → ℕ → List ℕ → Bool
is_unsigned mark sign text =
    is_whole_part sign (front (is_other mark) text) && is_fraction mark (behind (is_other mark) text)

-- that, maybe after a minus
unfoldable pub is_number : ℕ → ℕ → List ℕ → Bool
is_number mark sign [] = false
is_number mark sign (c ∷ text) = if c == 45 then is_unsigned mark sign text else is_unsigned mark sign (c ∷ text)

-- ---- their values

-- a text without its group signs
abbrev pub ungrouped : Locale → List ℕ → List ℕ
ungrouped locale text = encode_utf8_all (filter (is_other (group_sign locale)) (chars text))

-- the number that a text writes
abbrev pub decimal_in : Locale → List ℕ → Option Decimal
decimal_in locale text =
    if is_number (decimal_sign locale) (group_sign locale) (chars text)
    then decimal_of (decimal_sign locale) (ungrouped locale text)
    else None

-- a number in units of the fifteenth place
abbrev pub units : Decimal → ℤ
units number = mantissa_at number 15

-- the same, rounded to 15 digits
unfoldable pub number_in : Locale → List ℕ → Option ℤ
number_in locale text = option_map (λ number. units (rounded number)) (decimal_in locale text)

-- so many units of the fifteenth place, rounded to 15 digits, in plain digits
abbrev pub number_text : Locale → ℤ → List ℕ
number_text locale number = printed (decimal_sign locale) (rounded (record { mantissa = number; places = 15 }))
