-- What trimming does to the fraction, and where the fraction is trimmed already.
use Rattle.std.proofs.Common.{◌≡◌, ℕ, zero, suc, ◌+◌, ◌*◌, ◌/◌, ◌%◌, ◌^◌, ◌≤◌, Bool, true, false, cond, refl, sym, ap, ◌∙◌, arith}
use Rattle.std.proofs.Math.Nat.{pow-suc, mul_assoc, mul_right_comm}
use Rattle.std.specs.Prelude.{not, ◌&&◌, ◌==◌, nat_lt}
use Rattle.std.proofs.lemmas.Bool.Decides.{nat_tests}
use Rattle.std.proofs.lemmas.Nat.{div-add-mod'}
use Rattle.base_decimal.specs.Value.{trim}

-- no zero digit stands at the end of these places
abbrev pub ends : ℕ → ℕ → Bool
ends n places = not (nat_lt 0 places && (n % 10 == 0))

trim_by : ℕ → ℕ → ℕ × ℕ → Bool → ℕ × ℕ
trim_by n p t b = cond b t (n, suc p)

same_by : (n p : ℕ) (t : ℕ × ℕ) → n / 10 * 10 ^ t.1 ≡ t.0 * 10 ^ p → (b : Bool) → (n % 10 == 0) ≡ b → n * 10 ^ (trim_by n p t b).1 ≡ (trim_by n p t b).0 * 10 ^ suc p
unfolding trim_by
same_by n p t h true e =
    let z : n % 10 ≡ 0 = grind (arith, nat_tests) in
    let n_is : n ≡ n / 10 * 10 = omega (arith, div-add-mod' n 10) in
    ap (λ (x : ℕ). x * 10 ^ t.1) n_is ∙ mul_right_comm (n / 10) 10 (10 ^ t.1) ∙ ap (λ (x : ℕ). x * 10) h
    ∙ mul_assoc t.0 (10 ^ p) 10 ∙ ap (λ (x : ℕ). t.0 * x) (sym (pow-suc 10 p))
same_by n p t h false e = refl

pub trim_same : (n p : ℕ) → n * 10 ^ (trim n p).1 ≡ (trim n p).0 * 10 ^ p
unfolding trim_by
trim_same n zero = refl
trim_same n (suc p) = same_by n p (trim (n / 10) p) (trim_same (n / 10) p) (n % 10 == 0) refl

and_false : (a : Bool) → (a && false) ≡ false
and_false true = refl
and_false false = refl

some_places : (p : ℕ) → nat_lt 0 (suc p) ≡ true
some_places p = grind (arith, nat_tests)

ends_by : (n p : ℕ) (t : ℕ × ℕ) → ends t.0 t.1 ≡ true → (b : Bool) → (n % 10 == 0) ≡ b → ends (trim_by n p t b).0 (trim_by n p t b).1 ≡ true
unfolding trim_by
ends_by n p t h true e = h
ends_by n p t h false e = ap (λ (x : Bool). not (nat_lt 0 (suc p) && x)) e ∙ ap not (and_false (nat_lt 0 (suc p)))

pub trim_ends : (n p : ℕ) → ends (trim n p).0 (trim n p).1 ≡ true
unfolding trim_by
trim_ends n zero = refl
trim_ends n (suc p) = ends_by n p (trim (n / 10) p) (trim_ends (n / 10) p) (n % 10 == 0) refl

pub trim_places : (n p : ℕ) → (trim n p).1 ≤ p
unfolding trim_by
trim_places n zero = omega arith
trim_places n (suc p) = places_by n p (trim (n / 10) p) (trim_places (n / 10) p) (n % 10 == 0)
  where
    places_by : (n p : ℕ) (t : ℕ × ℕ) → t.1 ≤ p → (b : Bool) → (trim_by n p t b).1 ≤ suc p
    places_by n p t h true = omega arith
    places_by n p t h false = omega arith

-- ---- a fraction that is trimmed already

pub trim_ended : (n p : ℕ) → ends n p ≡ true → trim n p ≡ (n, p)
unfolding trim_by
trim_ended n zero e = refl
trim_ended n (suc p) e = ended_by (n % 10 == 0) refl e
  where
    ended_by : (b : Bool) → (n % 10 == 0) ≡ b → not (nat_lt 0 (suc p) && (n % 10 == 0)) ≡ true → trim_by n p (trim (n / 10) p) (n % 10 == 0) ≡ (n, suc p)
    ended_by true e h = absurd (let x : true ≡ false = sym h ∙ ap (λ (x : Bool). not (nat_lt 0 (suc p) && x)) e ∙ ap (λ (x : Bool). not (x && true)) (some_places p) in cc)
    ended_by false e h = ap (trim_by n p (trim (n / 10) p)) e

pub trim_raised : (n q j : ℕ) → ends n q ≡ true → trim (n * 10 ^ j) (j + q) ≡ (n, q)
unfolding trim_by
trim_raised n q zero e =
    let one : n * 10 ^ 0 ≡ n = omega arith in
    let none : 0 + q ≡ q = omega arith in
    ap (λ (x : ℕ). trim x (0 + q)) one ∙ ap (trim n) none ∙ trim_ended n q e
trim_raised n q (suc j) e =
    let more : n * 10 ^ suc j ≡ n * 10 ^ j * 10 = ap (λ (x : ℕ). n * x) (pow-suc 10 j) ∙ sym (mul_assoc n (10 ^ j) 10) in
    let ten : (n * 10 ^ suc j) % 10 ≡ 0 = omega (arith, more) in
    let tenth : n * 10 ^ suc j / 10 ≡ n * 10 ^ j = omega (arith, more) in
    let test : ((n * 10 ^ suc j) % 10 == 0) ≡ true = ap (λ (x : ℕ). x == 0) ten in
    let places : suc j + q ≡ suc (j + q) = omega arith in
    ap (trim (n * 10 ^ suc j)) places
    ∙ ap (trim_by (n * 10 ^ suc j) (j + q) (trim (n * 10 ^ suc j / 10) (j + q))) test
    ∙ ap (λ (x : ℕ). trim x (j + q)) tenth ∙ trim_raised n q j e
