-- Decimals as fractions: the mantissa over 10 to the power of the places.
use Rattle.std.specs.Prelude.{◌≡◌, ℕ, zero, suc, ◌*◌, ◌/◌, ◌%◌, ◌^◌, Bool, true, false, ◌&&◌, ◌==◌, nat_lt, ℤ, pos, neg_ℤ, ◌*ℤ◌, Option, Some, None, if◌then◌else◌}
use Rattle.base_decimal.specs.declared.decimal.Decimal.{Decimal}

-- equal fractions, by cross multiplication
abbrev pub SameValue : Decimal → Decimal → Type 0
SameValue a b = a.mantissa *ℤ pos (10 ^ b.places) ≡ b.mantissa *ℤ pos (10 ^ a.places)

-- the number, or its opposite where the flag is set
abbrev pub signed : Bool → ℕ → ℤ
signed false n = pos n
signed true n = neg_ℤ (pos n)

-- a decimal of a sign, an absolute mantissa and places
abbrev pub decimal_from : Bool → ℕ → ℕ → Decimal
decimal_from negative n places = record { mantissa = signed negative n; places = places }

-- a mantissa and places, without the zero digits at the end of the places
abbrev pub trim : ℕ → ℕ → ℕ × ℕ
trim n zero = (n, 0)
trim n (suc places) = if n % 10 == 0 then trim (n / 10) places else (n, suc places)

-- 10 ^ 15 times the fraction n over 10 ^ places, where that is a whole number below 10 ^ 30:
-- that is where the fraction has at most 15 digits on each side of the point
abbrev pub fifteen_places : ℕ → ℕ → Option ℕ
fifteen_places n places =
    if (n * 10 ^ 15) % 10 ^ places == 0 && nat_lt (n * 10 ^ 15 / 10 ^ places) (10 ^ 30)
    then Some (n * 10 ^ 15 / 10 ^ places) else None

-- the canonical decimal equal to a fraction with a sign, if there is one
abbrev pub canonical_at : Bool → Option ℕ → Option Decimal
canonical_at negative None = None
canonical_at negative (Some n) = let t = trim n 15 in Some (decimal_from negative t.0 t.1)

unfoldable pub canonical_of : Bool → ℕ → ℕ → Option Decimal
canonical_of negative n places = canonical_at negative (fifteen_places n places)
