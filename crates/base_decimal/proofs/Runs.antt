-- What the functions on runs of digits need.
use Rattle.std.proofs.Common.{◌≡◌, ℕ, suc, ◌+◌, ◌*◌, ◌-◌, ◌^◌, ◌<◌, ◌≤◌, min, Bool, true, false, cond, List, [], ◌∷◌, take, drop, length, get_or, refl, sym, ap, ◌∙◌, drop-cons, add-one, arith}
use Rattle.std.specs.Prelude.{◌==◌, ◌↔◌}
use Rattle.std.specs.List.{prefix_len, list_all}
use Rattle.std.proofs.Math.Nat.{pow-le-pow_right, one-le-pow}
use Rattle.std.proofs.lemmas.Bool.Decides.{nat_tests}
use Rattle.std.proofs.lemmas.Nat.{pow-add, mul-le}
use Rattle.base_decimal.proofs.Values.{ten_pow, times_below}
use Rattle.base_decimal.specs.Digits.{is_digit, span, number_of, number_after}
use Rattle.base_decimal.proofs.Spans.{span_all, and_both, both_and}

by_test : (b k : ℕ) (z : List ℕ) (s : List ℕ × List ℕ) → s ≡ (take k z, drop k z) → (c : Bool)
    → (let yes : List ℕ × List ℕ = (b ∷ s.0, s.1) in let no : List ℕ × List ℕ = ([], b ∷ z) in cond c yes no) ≡ (take (cond c (1 + k) 0) (b ∷ z), drop (cond c (1 + k) 0) (b ∷ z))
by_test b k z s e true = let more : 1 + k ≡ suc k = omega arith in rw more (ap (λ (x : List ℕ × List ℕ). let y : List ℕ × List ℕ = (b ∷ x.0, x.1) in y) e)
by_test b k z s e false = refl

-- a span by its length
pub span_prefix : (p : ℕ → Bool) (z : List ℕ) → span p z ≡ (take (prefix_len p z) z, drop (prefix_len p z) z)
span_prefix p [] = refl
span_prefix p (b ∷ z) = by_test b (prefix_len p z) z (span p z) (span_prefix p z) (p b)

pub prefix_all : (p : ℕ → Bool) (z : List ℕ) → list_all p (take (prefix_len p z) z) ≡ true
prefix_all p z = ap (λ (x : List ℕ × List ℕ). list_all p x.0) (sym (span_prefix p z)) ∙ span_all p z

pub ruleset spans = (span_prefix, prefix_all)

-- ---- powers of ten

pub ten_fits : (n : ℕ) → n ≤ 38 → (10 ^ n < 2 ^ 128) × (0 < 10 ^ n)
ten_fits n h =
    let most : 10 ^ n ≤ 10 ^ 38 = pow-le-pow_right {n = 10} (omega arith) h in
    (omega arith, omega (arith, one-le-pow n 10 (omega arith)))

-- a number times a power of ten, beside the limit
pub raised_small : (n r : ℕ) → r < 30 → n < 10 ^ (30 - r) → n * 10 ^ r < 10 ^ 30
raised_small n r h l =
    let parts : 10 ^ (30 - r) * 10 ^ r ≡ 10 ^ 30 = sym (pow-add 10 (30 - r) r) ∙ ap (λ (x : ℕ). 10 ^ x) (let total : 30 - r + r ≡ 30 = omega arith in total) in
    let below = times_below n (10 ^ (30 - r)) (10 ^ r) (ten_pow r) l in
    omega arith

pub raised_large : (n r : ℕ) → r < 30 → 10 ^ (30 - r) ≤ n → 10 ^ 30 ≤ n * 10 ^ r
raised_large n r h l =
    let parts : 10 ^ (30 - r) * 10 ^ r ≡ 10 ^ 30 = sym (pow-add 10 (30 - r) r) ∙ ap (λ (x : ℕ). 10 ^ x) (let total : 30 - r + r ≡ 30 = omega arith in total) in
    let above = mul-le (10 ^ (30 - r)) (10 ^ r) n (10 ^ r) l (omega arith) in
    omega arith

pub raised_far : (n r : ℕ) → 0 < n → 30 ≤ r → 10 ^ 30 ≤ n * 10 ^ r
raised_far n r h l =
    let most : 10 ^ 30 ≤ 10 ^ r = pow-le-pow_right {n = 10} (omega arith) l in
    let above = mul-le 1 (10 ^ r) n (10 ^ r) (omega arith) (omega arith) in
    omega arith

-- ---- zeros

pub zero_start : (digits : List ℕ) → list_all (λ b. b == 48) digits ≡ true → number_of digits ≡ 0
zero_start [] e = refl
zero_start (b ∷ digits) e =
    let h = and_both (b == 48) (list_all (λ b. b == 48) digits) e in
    let is : 0 * 10 + (b - 48) ≡ 0 = let t = h.0 in grind (arith, nat_tests, t) in
    ap (λ (x : ℕ). number_after x digits) is ∙ zero_start digits h.1

after_grows : (n : ℕ) (digits : List ℕ) → n ≤ number_after n digits
after_grows n [] = omega arith
after_grows n (b ∷ digits) = let h = after_grows (n * 10 + (b - 48)) digits in omega arith

zero_digits : (digits : List ℕ) → list_all is_digit digits ≡ true → number_of digits ≡ 0 → list_all (λ b. b == 48) digits ≡ true
zero_digits [] a e = refl
zero_digits (b ∷ digits) a e =
    let h = and_both (is_digit b) (list_all is_digit digits) a in
    let grows = after_grows (0 * 10 + (b - 48)) digits in
    let is : 0 * 10 + (b - 48) ≡ 0 = omega arith in
    let zero_test : (b == 48) ≡ true = let t = h.0 in grind (arith, nat_tests, t, is) in
    both_and _ _ zero_test (zero_digits digits h.1 (ap (λ (x : ℕ). number_after x digits) (sym is) ∙ e))

pub all_zero : (digits : List ℕ) → list_all is_digit digits ≡ true → (number_of digits ≡ 0) ↔ (list_all (λ b. b == 48) digits ≡ true)
all_zero digits a = (zero_digits digits a, zero_start digits)
