-- Mantissas with more places, and their sums.
use Rattle.std.proofs.Common.{◌≡◌, ℕ, zero, suc, ◌+◌, ◌-◌, ◌*◌, ◌^◌, ◌<◌, ◌≤◌, inl, inr, refl, sym, ap, ◌∙◌, arith}
use Rattle.std.specs.Prelude.{ℤ, pos, negsuc, ◌+ℤ◌, ◌*ℤ◌, unsigned_abs, FitsSigned}
use Rattle.std.specs.Int.{is_negative, w128, cast_signed, cast_unsigned}
use Rattle.std.proofs.Math.IntN.{*ℤ_comm, *ℤ-zero, suc_ℤ-*ℤ}
use Rattle.std.proofs.Math.Nat.{mul_assoc, pow-le-pow_right}
use Rattle.std.proofs.lemmas.Bool.{cases_lt}
use Rattle.std.proofs.lemmas.Int.{ints, unsigned_abs-mul, to_z-of_z, to_z_pos}
use Rattle.std.proofs.lemmas.Nat.{pow-add, mul-le}
use Rattle.base_decimal.specs.declared.decimal.Decimal.{Decimal}
use Rattle.base_decimal.specs.Arithmetic.{mantissa_at, sum_of}
use Rattle.base_decimal.specs.Value.{SameValue, signed}
use Rattle.base_decimal.proofs.Values.{signed_self, signed_times}

times_suc : (x : ℤ) (c : ℕ) → x *ℤ pos (suc c) ≡ (x *ℤ pos c) +ℤ x
times_suc x c = *ℤ_comm x (pos (suc c)) ∙ suc_ℤ-*ℤ (pos c) x ∙ ap (λ (y : ℤ). y +ℤ x) (*ℤ_comm (pos c) x)

distributes : (x y : ℤ) (c : ℕ) → (x +ℤ y) *ℤ pos c ≡ (x *ℤ pos c) +ℤ (y *ℤ pos c)
distributes x y zero =
    let a : (x +ℤ y) *ℤ pos 0 ≡ pos 0 = *ℤ-zero (x +ℤ y) in
    let b : x *ℤ pos 0 ≡ pos 0 = *ℤ-zero x in
    let d : y *ℤ pos 0 ≡ pos 0 = *ℤ-zero y in
    omega (arith, ints)
distributes x y (suc c) =
    let a = times_suc (x +ℤ y) c in
    let b = times_suc x c in
    let d = times_suc y c in
    let e = distributes x y c in
    omega (arith, ints)

times_times : (x : ℤ) (a b : ℕ) → (x *ℤ pos a) *ℤ pos b ≡ x *ℤ pos (a * b)
times_times x a b =
    let s = is_negative x in
    let n = unsigned_abs x in
    let is = signed_self x in
    ap (λ (z : ℤ). (z *ℤ pos a) *ℤ pos b) is ∙ ap (λ (z : ℤ). z *ℤ pos b) (signed_times s n a) ∙ signed_times s (n * a) b
    ∙ ap (signed s) (mul_assoc n a b) ∙ sym (signed_times s n (a * b)) ∙ ap (λ (z : ℤ). z *ℤ pos (a * b)) (sym is)

-- a part of the sum
part : (x : ℤ) (i j p : ℕ) → i ≤ p → (x *ℤ pos (10 ^ (p - i))) *ℤ pos (10 ^ (i + j)) ≡ (x *ℤ pos (10 ^ j)) *ℤ pos (10 ^ p)
part x i j p h =
    let total : p - i + (i + j) ≡ j + p = omega arith in
    let power : 10 ^ (p - i) * 10 ^ (i + j) ≡ 10 ^ j * 10 ^ p = sym (pow-add 10 (p - i) (i + j)) ∙ ap (λ (y : ℕ). 10 ^ y) total ∙ pow-add 10 j p in
    times_times x (10 ^ (p - i)) (10 ^ (i + j)) ∙ ap (λ (y : ℕ). x *ℤ pos y) power ∙ sym (times_times x (10 ^ j) (10 ^ p))

pub sum_value : (a b : Decimal) (p : ℕ) → a.places ≤ p → b.places ≤ p → let sum : Decimal = record { mantissa = mantissa_at a p +ℤ mantissa_at b p; places = p } in SameValue sum (sum_of a b)
sum_value a b p ha hb =
    let turned : a.places + b.places ≡ b.places + a.places = omega arith in
    distributes (mantissa_at a p) (mantissa_at b p) (10 ^ (a.places + b.places))
    ∙ ap (λ (z : ℤ). z +ℤ (mantissa_at b p *ℤ pos (10 ^ (a.places + b.places)))) (part a.mantissa a.places b.places p ha)
    ∙ ap (λ (y : ℕ). ((a.mantissa *ℤ pos (10 ^ b.places)) *ℤ pos (10 ^ p)) +ℤ (mantissa_at b p *ℤ pos (10 ^ y))) turned
    ∙ ap (λ (z : ℤ). ((a.mantissa *ℤ pos (10 ^ b.places)) *ℤ pos (10 ^ p)) +ℤ z) (part b.mantissa b.places a.places p hb)
    ∙ sym (distributes (a.mantissa *ℤ pos (10 ^ b.places)) (b.mantissa *ℤ pos (10 ^ a.places)) (10 ^ p))

-- ---- 128 bits

abs_bound : (z : ℤ) → FitsSigned w128 z → unsigned_abs z ≤ 2 ^ 127
abs_bound (pos n) f = let b = f.sfits in omega arith
abs_bound (negsuc n) f = let b = f.sfits in omega arith

some_abs : (z : ℤ) → (cast_unsigned w128 z ≡ 0 → ⊥) → 0 < unsigned_abs z
some_abs (pos zero) f = absurd (f refl)
some_abs (pos (suc n)) f = omega arith
some_abs (negsuc n) f = omega arith

-- a power of ten that a number other than 0 may be multiplied by
pub power_room : (z : ℤ) (k : ℕ) → (cast_unsigned w128 z ≡ 0 → ⊥) → FitsSigned w128 (z *ℤ pos (10 ^ k)) → k ≤ 38
power_room z k some fits = elim (cases_lt 38 k) [
  | inr low ↦ low
  | inl high ↦ absurd (
      let most : 10 ^ 39 ≤ 10 ^ k = pow-le-pow_right {n = 10} (omega arith) (let l : 39 ≤ k = omega arith in l) in
      let product = unsigned_abs-mul z (pos (10 ^ k)) in
      let bound = abs_bound (z *ℤ pos (10 ^ k)) fits in
      let least = mul-le 1 (10 ^ k) (unsigned_abs z) (10 ^ k) (some_abs z some) (omega arith) in
      omega arith)
]

pub power_fits : (t k : ℕ) → t ≡ 10 ^ k → k ≤ 38 → t < 2 ^ 127
power_fits t k e h = let most : 10 ^ k ≤ 10 ^ 38 = pow-le-pow_right {n = 10} (omega arith) h in omega arith

pub product_is : (z : ℤ) (t k : ℕ) → FitsSigned w128 z → t ≡ 10 ^ k → k ≤ 38 → cast_signed w128 (cast_unsigned w128 z) *ℤ cast_signed w128 t ≡ z *ℤ pos (10 ^ k)
product_is z t k f e h =
    ap (λ (x : ℤ). x *ℤ cast_signed w128 t) (to_z-of_z w128 z f) ∙ ap (λ (x : ℤ). z *ℤ x) (to_z_pos w128 t (power_fits t k e h))
    ∙ ap (λ (x : ℕ). z *ℤ pos x) e

pub sum_is : (x y a b : ℤ) → x ≡ a → y ≡ b → FitsSigned w128 a → FitsSigned w128 b → FitsSigned w128 (a +ℤ b)
    → cast_signed w128 (cast_unsigned w128 (cast_signed w128 (cast_unsigned w128 x) +ℤ cast_signed w128 (cast_unsigned w128 y))) ≡ a +ℤ b
sum_is x y a b ex ey fa fb fs =
    let ix : cast_signed w128 (cast_unsigned w128 x) ≡ a = ap (λ (z : ℤ). cast_signed w128 (cast_unsigned w128 z)) ex ∙ to_z-of_z w128 a fa in
    let iy : cast_signed w128 (cast_unsigned w128 y) ≡ b = ap (λ (z : ℤ). cast_signed w128 (cast_unsigned w128 z)) ey ∙ to_z-of_z w128 b fb in
    ap (λ (z : ℤ). cast_signed w128 (cast_unsigned w128 (z +ℤ cast_signed w128 (cast_unsigned w128 y)))) ix
    ∙ ap (λ (z : ℤ). cast_signed w128 (cast_unsigned w128 (a +ℤ z))) iy ∙ to_z-of_z w128 (a +ℤ b) fs
