-- Sums, products and rounding of decimals.
use Rattle.std.specs.Prelude.{ℕ, ◌+◌, ◌-◌, ◌*◌, ◌/◌, ◌^◌, ◌<◌, ◌≤◌, max, ℤ, pos, ◌+ℤ◌, ◌*ℤ◌, unsigned_abs, length, IsTrue, FitsSigned}
use Rattle.std.specs.Int.{is_negative, w128}
use Rattle.std.specs.Int.Digits.{digits_of}
use Rattle.base_decimal.specs.declared.decimal.Decimal.{Decimal}
use Rattle.base_decimal.specs.Canonical.{is_trimmed}
use Rattle.base_decimal.specs.Value.{SameValue, decimal_from, trim}

-- the mantissa that the number has with these places, of which it has no more
abbrev pub mantissa_at : Decimal → ℕ → ℤ
mantissa_at d places = d.mantissa *ℤ pos (10 ^ (places - d.places))

-- the greater of the places of two numbers
abbrev pub common_places : Decimal → Decimal → ℕ
common_places a b = max a.places b.places

-- both numbers and their sum fit 128 bits with the greater of their places
pub record SumFits (a b : Decimal) : Type 0 where
  pub first : FitsSigned w128 (mantissa_at a (common_places a b))
  pub second : FitsSigned w128 (mantissa_at b (common_places a b))
  pub sum : FitsSigned w128 (mantissa_at a (common_places a b) +ℤ mantissa_at b (common_places a b))

-- a sum of fractions, over the product of what they are over
abbrev pub sum_of : Decimal → Decimal → Decimal
sum_of a b = record {
  mantissa = (a.mantissa *ℤ pos (10 ^ b.places)) +ℤ (b.mantissa *ℤ pos (10 ^ a.places));
  places = a.places + b.places;
}

-- how many digits a number has beyond 15
abbrev pub excess : ℕ → ℕ
excess n = length (digits_of 10 n) - 15

-- n over a unit, rounded to the nearest whole number, a half up
abbrev pub nearest : ℕ → ℕ → ℕ
nearest n unit = (n + unit / 2) / unit

-- the number with 15 significant digits, a half away from zero
unfoldable pub rounded : Decimal → Decimal
rounded d =
    let n = unsigned_abs d.mantissa in
    let unit = 10 ^ excess n in
    let t = trim (nearest n unit * unit) d.places in
    decimal_from (is_negative d.mantissa) t.0 t.1

-- the same in other words: r counts units of 10 ^ dropped, which leave 15 digits of the mantissa of d, or all where it
-- has no more; the count is the nearest, and the greater one in the middle between two; the sign is that of d
pub record IsRounded (d r : Decimal) : Type 0 where
  pub count : ℕ
  pub dropped : ℕ
  pub at_most : unsigned_abs d.mantissa < 10 ^ (15 + dropped)
  pub at_least : 0 < dropped → 10 ^ (14 + dropped) ≤ unsigned_abs d.mantissa
  pub fifteen : count ≤ 10 ^ 15
  pub not_above : 2 * count * 10 ^ dropped ≤ 2 * unsigned_abs d.mantissa + 10 ^ dropped
  pub not_below : 2 * unsigned_abs d.mantissa < 2 * count * 10 ^ dropped + 10 ^ dropped
  pub value : SameValue r (decimal_from (is_negative d.mantissa) (count * 10 ^ dropped) d.places)
  pub trimmed : IsTrue (is_trimmed r)
