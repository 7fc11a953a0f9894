-- A kept number that is rounded has at most 15 places, and at most the first 16-digit number before them.
use Rattle.std.proofs.Common.{◌≡◌, ℕ, zero, suc, ◌+◌, ◌-◌, ◌*◌, ◌/◌, ◌%◌, ◌^◌, ◌<◌, ◌≤◌, Bool, true, false, cond, inl, inr, sym, ap, subst, ◌∙◌, arith, to_z, of_z}
use Rattle.std.specs.Prelude.{ℤ, pos, ◌*ℤ◌, unsigned_abs, FitsSigned, ◌==◌, ◌&&◌, nat_le, nat_lt}
use Rattle.std.specs.Int.{w128, is_negative}
use Rattle.std.proofs.Math.Nat.{pow-le-pow_right, one-le-pow, mul_assoc}
use Rattle.std.proofs.lemmas.Bool.{cases_lt}
use Rattle.std.proofs.lemmas.Bool.Decides.{nat_tests}
use Rattle.std.proofs.lemmas.Int.{to_z-of_z, unsigned_abs-mul, fits_signed_from_abs}
use Rattle.std.proofs.lemmas.Nat.{pow-add, mul-le}
use Rattle.base_tables.specs.laws.Tables.{both_parts}
use Rattle.base_decimal.specs.declared.Decimal.{Decimal}
use Rattle.base_decimal.specs.Arithmetic.{IsRounded, mantissa_at, rounded}
use Rattle.base_decimal.specs.Canonical.{IsCanonical, is_canonical, is_trimmed}
use Rattle.base_decimal.specs.Value.{signed, trim}

trim_by : ℕ → ℕ → ℕ × ℕ → Bool → ℕ × ℕ
trim_by n p t b = cond b t (n, suc p)

-- trimming adds no places
trim_places : (n p : ℕ) → (trim n p).1 ≤ p
unfolding trim_by
trim_places n zero = omega arith
trim_places n (suc p) = places_by n p (trim (n / 10) p) (trim_places (n / 10) p) (n % 10 == 0)
  where
    places_by : (n p : ℕ) (t : ℕ × ℕ) → t.1 ≤ p → (b : Bool) → (trim_by n p t b).1 ≤ suc p
    places_by n p t h true = omega arith
    places_by n p t h false = omega arith

-- the digits and places of a kept number
kept_places : (d : Decimal) → IsCanonical d → d.places ≤ 15
unfolding is_canonical
kept_places d k =
    let e : nat_le d.places 15 && nat_lt (unsigned_abs d.mantissa) (10 ^ (15 + d.places)) ≡ true = (both_parts (nat_le d.places 15 && nat_lt (unsigned_abs d.mantissa) (10 ^ (15 + d.places))) (is_trimmed d) k).0 in
    let f : nat_le d.places 15 ≡ true = (both_parts (nat_le d.places 15) (nat_lt (unsigned_abs d.mantissa) (10 ^ (15 + d.places))) e).0 in
    grind (arith, nat_tests)

kept_digits : (d : Decimal) → IsCanonical d → unsigned_abs d.mantissa < 10 ^ (15 + d.places)
unfolding is_canonical
kept_digits d k =
    let e : nat_le d.places 15 && nat_lt (unsigned_abs d.mantissa) (10 ^ (15 + d.places)) ≡ true = (both_parts (nat_le d.places 15 && nat_lt (unsigned_abs d.mantissa) (10 ^ (15 + d.places))) (is_trimmed d) k).0 in
    let f : nat_lt (unsigned_abs d.mantissa) (10 ^ (15 + d.places)) ≡ true = (both_parts (nat_le d.places 15) (nat_lt (unsigned_abs d.mantissa) (10 ^ (15 + d.places))) e).1 in
    grind (arith, nat_tests)

pub rounded_places : (d r : Decimal) → IsCanonical d → r ≡ rounded d → r.places ≤ 15
unfolding rounded
rounded_places d r k e =
    let same : r.places ≡ (rounded d).places = ap (λ (x : Decimal). x.places) e in
    let less : (rounded d).places ≤ d.places = trim_places _ d.places in
    let most = kept_places d k in
    omega arith

cancel : (a b k : ℕ) → 0 < k → a * k ≤ b * k → a ≤ b
cancel a b k h e = elim (cases_lt b a) [
  | inr low ↦ low
  | inl high ↦ absurd (let product = mul-le (b + 1) k a k (omega arith) (omega arith) in omega arith)
]

ten_pow : (k : ℕ) → 0 < 10 ^ k
ten_pow k = one-le-pow k 10 (omega arith)

-- a count of at most 15 digits and a bit, with so many zeros that the number had at most 15 before the point
counted : (n p count dropped : ℕ) → n < 10 ^ (15 + p) → (0 < dropped → 10 ^ (14 + dropped) ≤ n) → count ≤ 10 ^ 15 → count * 10 ^ dropped ≤ 10 ^ 15 * 10 ^ p
counted n p count dropped small least most =
    let fits : dropped ≤ p = elim (cases_lt p dropped) [
      | inr low ↦ low
      | inl high ↦ absurd (
          let large = least (omega arith) in
          let more : 10 ^ (15 + p) ≤ 10 ^ (14 + dropped) = pow-le-pow_right {n = 10} (omega arith) (let l : 15 + p ≤ 14 + dropped = omega arith in l) in
          omega arith)
    ] in
    mul-le count (10 ^ dropped) (10 ^ 15) (10 ^ p) most (pow-le-pow_right {n = 10} (omega arith) fits)

abs_signed : (s : Bool) (n : ℕ) → unsigned_abs (signed s n) ≡ n
abs_signed true zero = omega arith
abs_signed true (suc n) = omega arith
abs_signed false n = omega arith

rounded_digits : (d r : Decimal) → IsCanonical d → IsRounded d r → unsigned_abs r.mantissa ≤ 10 ^ 15 * 10 ^ r.places
rounded_digits d r k is =
    let total = is.count * 10 ^ is.dropped in
    let most : total ≤ 10 ^ 15 * 10 ^ d.places = counted (unsigned_abs d.mantissa) d.places is.count is.dropped (kept_digits d k) is.at_least is.fifteen in
    let left = unsigned_abs-mul r.mantissa (pos (10 ^ d.places)) in
    let right = unsigned_abs-mul (signed (is_negative d.mantissa) total) (pos (10 ^ r.places)) in
    let abs = abs_signed (is_negative d.mantissa) total in
    let same : unsigned_abs r.mantissa * 10 ^ d.places ≡ total * 10 ^ r.places =
    sym left ∙ ap unsigned_abs is.value ∙ right ∙ ap (λ (x : ℕ). x * 10 ^ r.places) abs in
    let product : total * 10 ^ r.places ≤ 10 ^ 15 * 10 ^ d.places * 10 ^ r.places = mul-le total (10 ^ r.places) (10 ^ 15 * 10 ^ d.places) (10 ^ r.places) most (omega arith) in
    cancel (unsigned_abs r.mantissa) (10 ^ 15 * 10 ^ r.places) (10 ^ d.places) (ten_pow d.places) (omega arith)

-- at most 10 ^ 30 units of the fifteenth place
pub rounded_within : (d r : Decimal) → IsCanonical d → r ≡ rounded d → IsRounded d r → unsigned_abs (mantissa_at r 15) ≤ 10 ^ 30
rounded_within d r k e is =
    let places = rounded_places d r k e in
    let digits = rounded_digits d r k is in
    let product = unsigned_abs-mul r.mantissa (pos (10 ^ (15 - r.places))) in
    let most = mul-le (unsigned_abs r.mantissa) (10 ^ (15 - r.places)) (10 ^ 15 * 10 ^ r.places) (10 ^ (15 - r.places)) digits (omega arith) in
    let total : r.places + (15 - r.places) ≡ 15 = omega arith in
    let power : 10 ^ r.places * 10 ^ (15 - r.places) ≡ 10 ^ 15 = sym (pow-add 10 r.places (15 - r.places)) ∙ ap (λ (x : ℕ). 10 ^ x) total in
    let parts : 10 ^ 15 * 10 ^ r.places * 10 ^ (15 - r.places) ≡ 10 ^ 15 * 10 ^ 15 = mul_assoc (10 ^ 15) (10 ^ r.places) (10 ^ (15 - r.places)) ∙ ap (λ (x : ℕ). 10 ^ 15 * x) power in
    omega arith

-- ---- as it is computed

abbrev seen : ℤ → ℤ
seen z = to_z w128 (of_z w128 z)

small_fits : (z : ℤ) → unsigned_abs z ≤ 10 ^ 30 → FitsSigned w128 z
small_fits z h = fits_signed_from_abs w128 z (omega arith)

pub units_are : (m t : ℤ) (k : ℕ) → FitsSigned w128 m → t ≡ pos (10 ^ k) → k ≤ 15 → unsigned_abs (m *ℤ pos (10 ^ k)) ≤ 10 ^ 30
    → FitsSigned w128 (seen m *ℤ seen t) × (seen (seen m *ℤ seen t) ≡ m *ℤ pos (10 ^ k))
units_are m t k fits e low within =
    let power : 10 ^ k ≤ 10 ^ 15 = pow-le-pow_right {n = 10} (omega arith) low in
    let ten_is : seen t ≡ pos (10 ^ k) = ap seen e ∙ to_z-of_z w128 (pos (10 ^ k)) (small_fits (pos (10 ^ k)) (omega arith)) in
    let is : seen m *ℤ seen t ≡ m *ℤ pos (10 ^ k) = ap (λ (z : ℤ). z *ℤ seen t) (to_z-of_z w128 m fits) ∙ ap (λ (z : ℤ). m *ℤ z) ten_is in
    let whole = small_fits (m *ℤ pos (10 ^ k)) within in
    (subst (FitsSigned w128) (sym is) whole, ap seen is ∙ to_z-of_z w128 _ whole)
