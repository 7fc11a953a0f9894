-- Decimal numbers.
use Rattle.std.specs.Prelude.{ℕ, ℤ, pos, neg_ℤ, ◌==◌, ◌+◌, ◌-◌, ◌*◌, ◌^◌, Bool, ◌&&◌, List, [], ◌∷◌, length, nat_lt, nat_le, if◌then◌else◌}
use Rattle.std.specs.List.{list_all}
use Rattle.std.specs.Option.{option_map}
use Rattle.std.specs.declared.option.Option.{Option}
use Rattle.std.specs.declared.option.Option.TheVariants.{Some, None}

-- a decimal digit
abbrev pub is_digit : ℕ → Bool
is_digit b = nat_le 48 b && nat_lt b 58

-- nothing but digits
abbrev pub are_digits : List ℕ → Bool
are_digits bytes = list_all is_digit bytes

-- the value of digits, each by its power of ten
abbrev pub value_of : List ℕ → ℕ
value_of [] = 0
value_of (b ∷ bytes) = (b - 48) * 10 ^ length bytes + value_of bytes

-- the value of digits, if it is below the limit
abbrev pub value_below : ℕ → List ℕ → Option ℕ
value_below limit bytes = if nat_lt (value_of bytes) limit then Some (value_of bytes) else None

-- the number that one or more digits spell, if it is below the limit
abbrev pub number_below : ℕ → List ℕ → Option ℕ
number_below limit [] = None
number_below limit (b ∷ bytes) = if are_digits (b ∷ bytes) then value_below limit (b ∷ bytes) else None

-- the number of 32 bits that digits spell, behind a minus sign or without one
abbrev pub signed_number : List ℕ → Option ℤ
signed_number [] = None
signed_number (b ∷ bytes) =
    if b == 45 then option_map (λ n. neg_ℤ (pos n)) (number_below (2 ^ 31 + 1) bytes)
    else option_map pos (number_below (2 ^ 31) (b ∷ bytes))
