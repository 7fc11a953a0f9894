-- The canonical decimal of a fraction: it is equal to the fraction, and no other canonical decimal is.
use Rattle.std.proofs.Common.{◌≡◌, ℕ, zero, suc, ◌+◌, ◌-◌, ◌*◌, ◌/◌, ◌%◌, ◌^◌, ◌<◌, ◌≤◌, Bool, true, false, cond, refl, sym, ap, subst, ◌∙◌, arith, Option, Some, None}
use Rattle.std.proofs.Math.Nat.{one-le-pow, mul-div_cancel}
use Rattle.std.specs.Prelude.{ℤ, pos, negsuc, neg_ℤ, ◌*ℤ◌, unsigned_abs, not, ◌&&◌, ◌==◌, nat_lt, nat_le}
use Rattle.std.specs.Int.{is_negative}
use Rattle.std.proofs.lemmas.Bool.Decides.{nat_tests}
use Rattle.std.proofs.lemmas.Int.{unsigned_abs-mul, ints}
use Rattle.std.proofs.lemmas.Nat.{div-add-mod', div-mul-add, mod-mul-add, pow-add}
use Rattle.base_decimal.specs.declared.decimal.Decimal.{Decimal}
use Rattle.base_decimal.specs.Canonical.{is_canonical, IsCanonical}
use Rattle.base_decimal.specs.Value.{SameValue, signed, decimal_from, trim, fifteen_places, canonical_at, canonical_of}
use Rattle.base_decimal.proofs.Spans.{and_both, both_and}
use Rattle.base_decimal.proofs.Trims.{ends, trim_same, trim_ends, trim_places, trim_raised}

-- ---- numbers with a sign

pub abs_signed : (s : Bool) (n : ℕ) → unsigned_abs (signed s n) ≡ n
abs_signed false n = refl
abs_signed true zero = refl
abs_signed true (suc n) = refl

pub signed_times : (s : Bool) (a b : ℕ) → signed s a *ℤ pos b ≡ signed s (a * b)
signed_times false a b = refl
signed_times true zero b = let none : 0 * b ≡ 0 = omega arith in ap pos none ∙ ap (λ (x : ℕ). neg_ℤ (pos x)) (sym none)
signed_times true (suc a) b = refl

pub same_from : (s : Bool) (t q n p : ℕ) → t * 10 ^ p ≡ n * 10 ^ q → SameValue (decimal_from s t q) (decimal_from s n p)
same_from s t q n p e = signed_times s t (10 ^ p) ∙ ap (signed s) e ∙ sym (signed_times s n (10 ^ q))

pub ten_pow : (p : ℕ) → 0 < 10 ^ p
ten_pow p = omega (arith, one-le-pow p 10 (omega arith))

-- the absolute values
pub same_abs : (d : Decimal) (s : Bool) (n p : ℕ) → SameValue d (decimal_from s n p) → unsigned_abs d.mantissa * 10 ^ p ≡ n * 10 ^ d.places
same_abs d s n p e =
    sym (unsigned_abs-mul d.mantissa (pos (10 ^ p))) ∙ ap unsigned_abs e ∙ unsigned_abs-mul (signed s n) (pos (10 ^ d.places))
    ∙ ap (λ (x : ℕ). x * 10 ^ d.places) (abs_signed s n)

pos_apart : (y x : ℕ) → 0 < y → pos y ≡ neg_ℤ (pos x) → ⊥
pos_apart zero x h e = omega arith
pos_apart (suc y) zero h e = cc
pos_apart (suc y) (suc x) h e = cc

pos_apart_turned : (y x : ℕ) → 0 < y → neg_ℤ (pos y) ≡ pos x → ⊥
pos_apart_turned zero x h e = omega arith
pos_apart_turned (suc y) x h e = cc

-- the sign
sign_by : (m : ℤ) (s : Bool) (x b : ℕ) → 0 < b → m *ℤ pos b ≡ signed s x → m ≡ signed s (unsigned_abs m)
sign_by (pos a) false x b h e = refl
sign_by (pos zero) true x b h e = refl
sign_by (pos (suc a)) true x b h e = absurd (pos_apart (suc a * b) x (omega arith) e)
sign_by (negsuc a) false x b h e = absurd (pos_apart_turned (suc a * b) x (omega arith) e)
sign_by (negsuc a) true x b h e = refl

pub same_sign : (d : Decimal) (s : Bool) (n p : ℕ) → SameValue d (decimal_from s n p) → d ≡ decimal_from s (unsigned_abs d.mantissa) d.places
same_sign d s n p e =
    let m : d.mantissa ≡ signed s (unsigned_abs d.mantissa) = sign_by d.mantissa s (n * 10 ^ d.places) (10 ^ p) (ten_pow p) (e ∙ signed_times s n (10 ^ d.places)) in
    ap (λ (x : ℤ). let y : Decimal = record { mantissa = x; places = d.places } in y) m

-- ---- the number at fifteen places

fifteen_by : (x w : ℕ) (b : Bool) (k : ℕ) → 0 < w → (x % w == 0) && nat_lt (x / w) (10 ^ 30) ≡ b → cond b (Some (x / w)) None ≡ Some k → (k * w ≡ x) × (k < 10 ^ 30)
fifteen_by x w true k h e f =
    let t = and_both (x % w == 0) (nat_lt (x / w) (10 ^ 30)) e in
    let k_is : x / w ≡ k = cc in
    let rest : x % w ≡ 0 = grind (arith, nat_tests, t.0) in
    let small : x / w < 10 ^ 30 = grind (arith, nat_tests, t.1) in
    (ap (λ (z : ℕ). z * w) (sym k_is) ∙ omega (arith, div-add-mod' x w, rest), subst (λ (z : ℕ). z < 10 ^ 30) k_is small)
fifteen_by x w false k h e f = absurd cc

pub fifteen_found : (n p k : ℕ) → fifteen_places n p ≡ Some k → (k * 10 ^ p ≡ n * 10 ^ 15) × (k < 10 ^ 30)
fifteen_found n p k e = fifteen_by (n * 10 ^ 15) (10 ^ p) ((n * 10 ^ 15) % 10 ^ p == 0 && nat_lt (n * 10 ^ 15 / 10 ^ p) (10 ^ 30)) k (ten_pow p) refl e

pub fifteen_only : (n p k : ℕ) → k * 10 ^ p ≡ n * 10 ^ 15 → k < 10 ^ 30 → fifteen_places n p ≡ Some k
fifteen_only n p k e h =
    let w = 10 ^ p in
    let is : n * 10 ^ 15 ≡ k * 10 ^ p + 0 = omega (arith, e) in
    let rest : (n * 10 ^ 15) % 10 ^ p ≡ 0 = ap (λ (x : ℕ). x % 10 ^ p) is ∙ mod-mul-add k (10 ^ p) 0 (ten_pow p) in
    let whole : n * 10 ^ 15 / 10 ^ p ≡ k = ap (λ (x : ℕ). x / 10 ^ p) is ∙ div-mul-add k (10 ^ p) 0 (ten_pow p) in
    let small : nat_lt k (10 ^ 30) ≡ true = grind (arith, nat_tests, h) in
    let test : ((n * 10 ^ 15) % 10 ^ p == 0 && nat_lt (n * 10 ^ 15 / 10 ^ p) (10 ^ 30)) ≡ true =
    both_and _ _ (ap (λ (x : ℕ). x == 0) rest) (ap (λ (x : ℕ). nat_lt x (10 ^ 30)) whole ∙ small) in
    ap (λ (b : Bool). cond b (Some (n * 10 ^ 15 / 10 ^ p)) None) test ∙ ap (λ (x : ℕ). Some x) whole

pub signed_self : (m : ℤ) → m ≡ signed (is_negative m) (unsigned_abs m)
signed_self (pos zero) = refl
signed_self (pos (suc n)) = let no : is_negative (pos (suc n)) ≡ false = grind (arith, nat_tests, ints) in ap (λ (b : Bool). signed b (suc n)) (sym no)
signed_self (negsuc n) = refl

pub decimal_self : (d : Decimal) → d ≡ decimal_from (is_negative d.mantissa) (unsigned_abs d.mantissa) d.places
decimal_self d = ap (λ (x : ℤ). let y : Decimal = record { mantissa = x; places = d.places } in y) (signed_self d.mantissa)

-- ---- the canonical decimal

pub cancel : (a b c : ℕ) → 0 < c → a * c ≡ b * c → a ≡ b
cancel a b c h e = sym (mul-div_cancel a h) ∙ ap (λ (x : ℕ). x / c) e ∙ mul-div_cancel b h

cross : (t n k a b : ℕ) → k * a ≡ n * 10 ^ 15 → k * b ≡ t * 10 ^ 15 → t * a ≡ n * b
cross t n k a b e f =
    let x : k * a * b ≡ n * 10 ^ 15 * b = ap (λ (z : ℕ). z * b) e in
    let y : k * b * a ≡ t * 10 ^ 15 * a = ap (λ (z : ℕ). z * a) f in
    omega arith

pub times_below : (a b c : ℕ) → 0 < c → a < b → a * c < b * c
times_below a b c h l = grind arith

canonical_tests : (q t : ℕ) → q ≤ 15 → t < 10 ^ (15 + q) → ends t q ≡ true → (m : ℕ) → m ≡ t → (nat_le q 15 && nat_lt m (10 ^ (15 + q)) && not (nat_lt 0 q && (m % 10 == 0))) ≡ true
canonical_tests q t h l e m is =
    let low : nat_le q 15 ≡ true = grind (arith, nat_tests) in
    let small : nat_lt m (10 ^ (15 + q)) ≡ true = grind (arith, nat_tests) in
    both_and _ _ (both_and _ _ low small) (ap (λ (x : ℕ). ends x q) is ∙ e)

-- from the number at fifteen places
kept_from_fifteen : (s : Bool) (n p k : ℕ) → k * 10 ^ p ≡ n * 10 ^ 15 → k < 10 ^ 30 → (t : ℕ × ℕ) → k * 10 ^ t.1 ≡ t.0 * 10 ^ 15 → ends t.0 t.1 ≡ true → t.1 ≤ 15
    → IsCanonical (decimal_from s t.0 t.1) × SameValue (decimal_from s t.0 t.1) (decimal_from s n p)
unfolding is_canonical
kept_from_fifteen s n p k e small t f last low = (
  canonical_tests t.1 t.0 low
      (let wide : k * 10 ^ t.1 < 10 ^ 30 * 10 ^ t.1 = times_below k (10 ^ 30) (10 ^ t.1) (ten_pow t.1) small in
      let parts : 10 ^ (15 + t.1) ≡ 10 ^ 15 * 10 ^ t.1 = pow-add 10 15 t.1 in
      omega arith)
      last (unsigned_abs (signed s t.0)) (abs_signed s t.0),
  same_from s t.0 t.1 n p (cross t.0 n k (10 ^ p) (10 ^ t.1) e f),
)

pub canonical_found : (s : Bool) (n p : ℕ) (d : Decimal) → canonical_of s n p ≡ Some d → IsCanonical d × SameValue d (decimal_from s n p)
unfolding canonical_of
canonical_found s n p d e = by (fifteen_places n p) refl e
  where
    by : (o : Option ℕ) → fifteen_places n p ≡ o → canonical_at s o ≡ Some d → IsCanonical d × SameValue d (decimal_from s n p)
    by None f g = absurd cc
    by (Some k) f g =
        let h = fifteen_found n p k f in
        let is : decimal_from s (trim k 15).0 (trim k 15).1 ≡ d = cc in
        subst (λ (x : Decimal). IsCanonical x × SameValue x (decimal_from s n p)) is
        (kept_from_fifteen s n p k h.0 h.1 (trim k 15) (trim_same k 15) (trim_ends k 15) (trim_places k 15))

pub canonical_only : (s : Bool) (n p : ℕ) (d : Decimal) → IsCanonical d → SameValue d (decimal_from s n p) → canonical_of s n p ≡ Some d
unfolding canonical_of is_canonical
canonical_only s n p d kept same =
    let t = unsigned_abs d.mantissa in
    let q = d.places in
    let j = 15 - d.places in
    let tests = and_both (nat_le d.places 15 && nat_lt t (10 ^ (15 + d.places))) (ends t d.places) kept in
    let sizes = and_both (nat_le d.places 15) (nat_lt t (10 ^ (15 + d.places))) tests.0 in
    let low : d.places ≤ 15 = grind (arith, nat_tests, sizes.0) in
    let small : t < 10 ^ (15 + d.places) = grind (arith, nat_tests, sizes.1) in
    let all : j + d.places ≡ 15 = omega arith in
    let fits : t * 10 ^ j < 10 ^ (15 + d.places) * 10 ^ j = times_below t (10 ^ (15 + d.places)) (10 ^ j) (ten_pow j) small in
    let total : 15 + d.places + j ≡ 30 = omega arith in
    let most : 10 ^ (15 + d.places) * 10 ^ j ≡ 10 ^ 30 = sym (pow-add 10 (15 + d.places) j) ∙ ap (λ (x : ℕ). 10 ^ x) total in
    let equal : t * 10 ^ p ≡ n * 10 ^ d.places = same_abs d s n p same in
    let fifteen : 10 ^ 15 ≡ 10 ^ j * 10 ^ d.places = ap (λ (x : ℕ). 10 ^ x) (sym all) ∙ pow-add 10 j d.places in
    let turned : t * 10 ^ p * 10 ^ j ≡ n * 10 ^ d.places * 10 ^ j = ap (λ (x : ℕ). x * 10 ^ j) equal in
    let n_is : n * 10 ^ 15 ≡ n * (10 ^ j * 10 ^ d.places) = ap (λ (x : ℕ). n * x) fifteen in
    let whole : t * 10 ^ j * 10 ^ p ≡ n * 10 ^ 15 = omega arith in
    let found : fifteen_places n p ≡ Some (t * 10 ^ j) = fifteen_only n p (t * 10 ^ j) whole (omega arith) in
    let last : trim (t * 10 ^ j) 15 ≡ (t, d.places) = ap (trim (t * 10 ^ j)) (sym all) ∙ trim_raised t d.places j tests.1 in
    ap (canonical_at s) found ∙ ap (λ (x : ℕ × ℕ). Some (decimal_from s x.0 x.1)) last ∙ ap (λ (x : Decimal). Some x) (sym (same_sign d s n p same))

-- two canonical decimals of one value are one
pub same_canonical : (a b : Decimal) → IsCanonical a → IsCanonical b → SameValue a b → a ≡ b
same_canonical a b ka kb e =
    let s = is_negative b.mantissa in
    let n = unsigned_abs b.mantissa in
    let is = decimal_self b in
    let first : canonical_of s n b.places ≡ Some a = canonical_only s n b.places a ka (subst (λ (x : Decimal). SameValue a x) is e) in
    let second : canonical_of s n b.places ≡ Some b = canonical_only s n b.places b kb (subst (λ (x : Decimal). SameValue b x) is refl) in
    cc
