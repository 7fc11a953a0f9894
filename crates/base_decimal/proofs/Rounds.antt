-- Rounding to 15 digits: it is nearest, and it fits.
use Rattle.std.proofs.Common.{◌≡◌, ℕ, ◌+◌, ◌*◌, ◌/◌, ◌^◌, ◌<◌, ◌≤◌, Bool, true, length, inl, inr, sym, ap, subst, ◌∙◌, arith}
use Rattle.std.specs.Prelude.{unsigned_abs}
use Rattle.std.specs.Int.{is_negative}
use Rattle.std.specs.Int.Digits.{digits_of}
use Rattle.std.proofs.Math.Nat.{pow-le-pow_right}
use Rattle.std.proofs.lemmas.Bool.{cases_lt}
use Rattle.std.proofs.lemmas.Int.Digits.{length-digits_of_step, length-digits_of-le, number_digits_of, number_lt, all_below_base_digits_of}
use Rattle.std.proofs.lemmas.Nat.{pow-add, div-add-mod', mod_below, mul-le}
use Rattle.base_decimal.specs.declared.decimal.Decimal.{Decimal}
use Rattle.base_decimal.specs.Arithmetic.{excess, nearest, rounded, IsRounded}
use Rattle.base_decimal.specs.Canonical.{is_trimmed}
use Rattle.base_decimal.specs.Value.{decimal_from, trim}
use Rattle.base_decimal.proofs.Trims.{ends, trim_same, trim_ends}
use Rattle.base_decimal.proofs.Values.{abs_signed, same_from, ten_pow}

-- ---- how many digits

pub digits_above : (n : ℕ) → n < 10 ^ length (digits_of 10 n)
digits_above n =
    subst (λ (x : ℕ). x < 10 ^ length (digits_of 10 n)) (number_digits_of 10 n (omega arith)) (number_lt 10 (digits_of 10 n) (all_below_base_digits_of 10 n (omega arith)))

pub digits_most : (n k : ℕ) → n < 10 ^ k → length (digits_of 10 n) ≤ k
digits_most n k h = length-digits_of-le 10 k n (omega arith) h

-- a number of at least 10 ^ k has more than k digits
pub digits_least : (n k : ℕ) → 10 ^ k ≤ n → k < length (digits_of 10 n)
digits_least n k h = elim (cases_lt k (length (digits_of 10 n))) [
  | inl l ↦ l
  | inr low ↦ absurd (
      let most : 10 ^ length (digits_of 10 n) ≤ 10 ^ k = pow-le-pow_right {n = 10} (omega arith) low in
      let above = digits_above n in omega arith)
]

pub excess_most : (n : ℕ) → n < 10 ^ (15 + excess n)
excess_most n =
    let above = digits_above n in
    let more : 10 ^ length (digits_of 10 n) ≤ 10 ^ (15 + excess n) = pow-le-pow_right {n = 10} (omega arith) (let l : length (digits_of 10 n) ≤ 15 + excess n = omega arith in l) in
    omega arith

pub excess_least : (n : ℕ) → 0 < excess n → 10 ^ (14 + excess n) ≤ n
excess_least n h = elim (cases_lt n (10 ^ (14 + excess n))) [
  | inr l ↦ l
  | inl below ↦ absurd (let most = digits_most n (14 + excess n) below in omega arith)
]

pub excess_step : (n d : ℕ) → 10 ^ 15 ≤ n → d + length (digits_of 10 n) ≡ d + 1 + length (digits_of 10 (n / 10))
excess_step n d h = let step = length-digits_of_step 10 n (omega arith) (omega arith) in omega arith

pub excess_ends : (n d rest : ℕ) → length (digits_of 10 n) ≡ d + length (digits_of 10 rest) → (0 < d → 10 ^ 14 ≤ rest) → rest < 10 ^ 15 → d ≡ excess n
excess_ends n d rest e large small =
    let most = digits_most rest 15 small in
    elim (cases_lt 0 d) [
      | inl some ↦ let least = digits_least rest 14 (large some) in omega arith
      | inr none ↦ omega arith
    ]

-- ---- the nearest

pub nearest_not_above : (n unit : ℕ) → 0 < unit → 2 * nearest n unit * unit ≤ 2 * n + unit
nearest_not_above n unit h =
    let parts = div-add-mod' (n + unit / 2) unit in
    let half = div-add-mod' unit 2 in
    let product : nearest n unit * unit ≤ n + unit / 2 = omega arith in
    omega arith

pub nearest_not_below : (n unit : ℕ) → 0 < unit → 2 * n < 2 * nearest n unit * unit + unit
nearest_not_below n unit h =
    let parts = div-add-mod' (n + unit / 2) unit in
    let low = mod_below (n + unit / 2) unit h in
    let half = div-add-mod' unit 2 in
    let bit = mod_below unit 2 (omega arith) in
    omega arith

-- no more than 15 digits are left, or the next power of ten
pub nearest_most : (n : ℕ) → nearest n (10 ^ excess n) ≤ 10 ^ 15
nearest_most n =
    let size = excess_most n in
    let parts : 10 ^ (15 + excess n) ≡ 10 ^ 15 * 10 ^ excess n = pow-add 10 15 (excess n) in
    let above = nearest_not_above n (10 ^ excess n) (ten_pow (excess n)) in
    let positive = ten_pow (excess n) in
    elim (cases_lt (10 ^ 15) (nearest n (10 ^ excess n))) [
      | inr low ↦ low
      | inl high ↦ absurd (let product = mul-le (10 ^ 15 + 1) (10 ^ excess n) (nearest n (10 ^ excess n)) (10 ^ excess n) (omega arith) (omega arith) in omega arith)
    ]

-- ---- the decimal

pub trim_trimmed : (s : Bool) (n p : ℕ) → is_trimmed (decimal_from s (trim n p).0 (trim n p).1) ≡ true
trim_trimmed s n p = ap (λ (x : ℕ). ends x (trim n p).1) (abs_signed s (trim n p).0) ∙ trim_ends n p

pub rounded_is : (d : Decimal) → IsRounded d (rounded d)
unfolding rounded
rounded_is d =
    let n = unsigned_abs d.mantissa in
    let unit = 10 ^ excess n in
    let kept = nearest n unit * unit in
    record {
      count = nearest n unit;
      dropped = excess n;
      at_most = excess_most n;
      at_least = excess_least n;
      fifteen = nearest_most n;
      not_above = nearest_not_above n unit (ten_pow (excess n));
      not_below = nearest_not_below n unit (ten_pow (excess n));
      value = same_from (is_negative d.mantissa) (trim kept d.places).0 (trim kept d.places).1 kept d.places (sym (trim_same kept d.places));
      trimmed = trim_trimmed (is_negative d.mantissa) kept d.places;
    }

-- ---- 128 bits

pub excess_small : (n : ℕ) → n ≤ 2 ^ 127 → excess n ≤ 24
excess_small n h = let most = digits_most n 39 (omega arith) in omega arith

-- the number that is kept, where it has at most 38 digits
kept_common : (n : ℕ) → n < 10 ^ 38 → nearest n (10 ^ excess n) * 10 ^ excess n ≤ 10 ^ 38
kept_common n h =
    let most = digits_most n 38 h in
    let parts : 10 ^ (15 + excess n) ≡ 10 ^ 15 * 10 ^ excess n = pow-add 10 15 (excess n) in
    let power : 10 ^ (15 + excess n) ≤ 10 ^ 38 = pow-le-pow_right {n = 10} (omega arith) (let k : 15 + excess n ≤ 38 = omega arith in k) in
    let product = mul-le (nearest n (10 ^ excess n)) (10 ^ excess n) (10 ^ 15) (10 ^ excess n) (nearest_most n) (omega arith) in
    omega arith

-- and where it has 39
kept_large : (n : ℕ) → 10 ^ 38 ≤ n → n ≤ 2 ^ 127 → nearest n (10 ^ excess n) * 10 ^ excess n < 2 ^ 127
kept_large n l h =
    let most = digits_most n 39 (omega arith) in
    let least = digits_least n 38 l in
    let dropped : excess n ≡ 24 = omega arith in
    let unit : 10 ^ excess n ≡ 10 ^ 24 = ap (λ (x : ℕ). 10 ^ x) dropped in
    let low : nearest n (10 ^ 24) * 10 ^ 24 < 2 ^ 127 = omega arith in
    subst (λ (x : ℕ). nearest n x * x < 2 ^ 127) (sym unit) low

pub canonical_fits : (n : ℕ) → n ≤ 2 ^ 127 → nearest n (10 ^ excess n) * 10 ^ excess n < 2 ^ 127
canonical_fits n h = elim (cases_lt n (10 ^ 38)) [
  | inl small ↦ let common = kept_common n small in omega arith
  | inr large ↦ kept_large n large h
]

pub ruleset roundings = (excess_small, canonical_fits, rounded_is, ten_pow)
