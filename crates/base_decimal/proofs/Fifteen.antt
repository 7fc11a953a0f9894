-- The number at fifteen places, from the digits that stand before the place where they are cut.
use Rattle.std.proofs.Common.{◌≡◌, ℕ, suc, ◌+◌, ◌*◌, ◌-◌, ◌%◌, ◌^◌, ◌<◌, ◌≤◌, min, Bool, true, false, cond, ◌⊎◌, List, [], ◌∷◌, ◌++◌, take, drop, length, refl, sym, ap, subst, ◌∙◌, arith, inl, inr, Option, Some, None, append_assoc, append-nil, length-append, length-drop}
use Rattle.std.specs.Prelude.{◌&&◌, ◌==◌, nat_lt}
use Rattle.std.specs.List.{list_all}
use Rattle.std.proofs.Math.Nat.{mul_assoc, pow-suc, pow-le-pow_right}
use Rattle.std.proofs.lemmas.Bool.{cases_lt}
use Rattle.std.proofs.lemmas.Bool.Decides.{nat_tests}
use Rattle.std.proofs.lemmas.List.{take_all, drop_all, take-append-drop}
use Rattle.std.proofs.lemmas.List.Folds.{list_all-append}
use Rattle.std.proofs.lemmas.Nat.{pow-add, mod-mul-add, mul-le}
use Rattle.base_decimal.specs.Digits.{is_digit, number_of, number_after}
use Rattle.base_decimal.specs.Value.{fifteen_places}
use Rattle.base_decimal.proofs.Prints.{number_after-append}
use Rattle.base_tables.specs.laws.Counting.{capped}
use Rattle.base_decimal.proofs.Runs.{zero_start, all_zero}
use Rattle.base_decimal.proofs.Spans.{and_both, both_and}
use Rattle.base_decimal.proofs.Values.{ten_pow, cancel, fifteen_found, fifteen_only}

-- ---- numbers of lists of digits

pub after_parts : (n : ℕ) (digits : List ℕ) → number_after n digits ≡ n * 10 ^ length digits + number_of digits
after_parts n [] = omega arith
after_parts n (b ∷ digits) =
    let power : n * 10 ^ suc (length digits) ≡ n * (10 ^ length digits * 10) = ap (λ (x : ℕ). n * x) (pow-suc 10 (length digits)) in
    after_parts (n * 10 + (b - 48)) digits
    ∙ joined n (b - 48) (10 ^ length digits) (number_of digits) (n * 10 ^ suc (length digits)) power
    ∙ ap (λ (x : ℕ). n * 10 ^ suc (length digits) + x) (sym (after_parts (0 * 10 + (b - 48)) digits ∙ ap (λ (x : ℕ). x * 10 ^ length digits + number_of digits) (let none : 0 * 10 + (b - 48) ≡ b - 48 = omega arith in none)))
  where
    joined : (n d w r p : ℕ) → p ≡ n * (w * 10) → (n * 10 + d) * w + r ≡ p + (d * w + r)
    joined n d w r p e = omega arith

pub number_below : (digits : List ℕ) → list_all is_digit digits ≡ true → number_of digits < 10 ^ length digits
number_below [] e = omega arith
number_below (b ∷ digits) e =
    let h = and_both (is_digit b) (list_all is_digit digits) e in
    let low : b - 48 < 10 = let t = h.0 in grind (arith, nat_tests, t) in
    let start : 0 * 10 + (b - 48) ≡ b - 48 = omega arith in
    let parts : number_of (b ∷ digits) ≡ (b - 48) * 10 ^ length digits + number_of digits = ap (λ (x : ℕ). number_after x digits) start ∙ after_parts (b - 48) digits in
    let below = number_below digits h.1 in
    let more : (b - 48) * 10 ^ length digits ≤ 9 * 10 ^ length digits = mul-le (b - 48) (10 ^ length digits) 9 (10 ^ length digits) (omega arith) (omega arith) in
    let power : 10 ^ suc (length digits) ≡ 10 ^ length digits * 10 = pow-suc 10 (length digits) in
    omega arith

-- ---- the two parts

-- all but the last so many
abbrev pub front_of : ℕ → List ℕ → List ℕ
front_of cut digits = take (length digits - cut) digits

abbrev pub back_of : ℕ → List ℕ → List ℕ
back_of cut digits = drop (length digits - cut) digits

-- digits cut at the end, where the number before the cut is counted by 10 ^ cut
record IsCut (digits : List ℕ) (cut front back : ℕ) : Type 0 where
  total : number_of digits ≡ front * 10 ^ cut + back
  below : back < 10 ^ cut

joins : (cut : ℕ) (digits : List ℕ) → front_of cut digits ++ back_of cut digits ≡ digits
joins cut digits = take-append-drop (length digits - cut) digits

-- one list, cut where it has that many
cut_one : (cut : ℕ) (w f : List ℕ) → list_all is_digit f ≡ true → (length f ≡ cut) ⊎ ((length f ≤ cut) × (w ≡ [])) → IsCut (w ++ f) cut (number_of w) (number_of f)
cut_one cut w f a (inl e) = record {
  total = number_after-append 0 w f ∙ after_parts (number_of w) f ∙ ap (λ (x : ℕ). number_of w * 10 ^ x + number_of f) e;
  below = subst (λ (x : ℕ). number_of f < 10 ^ x) e (number_below f a);
}
cut_one cut w f a (inr (h, e)) = record {
  total = ap (λ (x : List ℕ). number_of (x ++ f)) e ∙ (let none : number_of f ≡ 0 * 10 ^ cut + number_of f = omega arith in none) ∙ ap (λ (x : List ℕ). number_of x * 10 ^ cut + number_of f) (sym e);
  below = let l = number_below f a in let m : 10 ^ length f ≤ 10 ^ cut = pow-le-pow_right {n = 10} (omega arith) h in omega arith;
}

both_cut : (cut : ℕ) (w f wf wb ff fb : List ℕ) → (wf ++ wb) ≡ w → (ff ++ fb) ≡ f → list_all is_digit w ≡ true → list_all is_digit f ≡ true
    → (wf ++ ff) ++ (wb ++ fb) ≡ w ++ f → (length (wb ++ fb) ≡ cut) ⊎ ((length (wb ++ fb) ≤ cut) × (wf ++ ff ≡ []))
    → IsCut (w ++ f) cut (number_of (wf ++ ff)) (number_of (wb ++ fb))
both_cut cut w f wf wb ff fb ew ef aw af whole sizes =
    let back_w = (and_both (list_all is_digit wf) (list_all is_digit wb) (sym (list_all-append is_digit wf wb) ∙ ap (list_all is_digit) ew ∙ aw)).1 in
    let back_f = (and_both (list_all is_digit ff) (list_all is_digit fb) (sym (list_all-append is_digit ff fb) ∙ ap (list_all is_digit) ef ∙ af)).1 in
    let all : list_all is_digit (wb ++ fb) ≡ true = list_all-append is_digit wb fb ∙ both_and _ _ back_w back_f in
    subst (λ (x : List ℕ). IsCut x cut (number_of (wf ++ ff)) (number_of (wb ++ fb))) whole (cut_one cut (wf ++ ff) (wb ++ fb) all sizes)

-- where the second list is long enough
cut_second : (cut : ℕ) (w f : List ℕ) → cut ≤ length f → list_all is_digit w ≡ true → list_all is_digit f ≡ true
    → IsCut (w ++ f) cut (number_of (front_of (cut - length f) w ++ front_of cut f)) (number_of (back_of (cut - length f) w ++ back_of cut f))
cut_second cut w f h aw af =
    let none : cut - length f ≡ 0 = omega arith in
    let at : length w - (cut - length f) ≡ length w = omega arith in
    let first : front_of (cut - length f) w ≡ w = take_all (length w - (cut - length f)) w (omega arith) in
    let last : back_of (cut - length f) w ≡ [] = ap (λ (x : ℕ). drop x w) at ∙ drop_all (length w) w (omega arith) in
    let long : length (back_of cut f) ≡ cut = omega (arith, length-drop (length f - cut) f) in
    both_cut cut w f (front_of (cut - length f) w) (back_of (cut - length f) w) (front_of cut f) (back_of cut f)
    (joins (cut - length f) w) (joins cut f) aw af
    (ap (λ (x : List ℕ). (x ++ front_of cut f) ++ (back_of (cut - length f) w ++ back_of cut f)) first
    ∙ ap (λ (x : List ℕ). (w ++ front_of cut f) ++ (x ++ back_of cut f)) last
    ∙ append_assoc w (front_of cut f) (back_of cut f) ∙ ap (λ (x : List ℕ). w ++ x) (joins cut f))
    (inl (ap (λ (x : List ℕ). length (x ++ back_of cut f)) last ∙ long))

-- where it is shorter
cut_first : (cut : ℕ) (w f : List ℕ) → length f < cut → list_all is_digit w ≡ true → list_all is_digit f ≡ true
    → IsCut (w ++ f) cut (number_of (front_of (cut - length f) w ++ front_of cut f)) (number_of (back_of (cut - length f) w ++ back_of cut f))
cut_first cut w f h aw af =
    let none : length f - cut ≡ 0 = omega arith in
    let first : front_of cut f ≡ [] = ap (λ (x : ℕ). take x f) none in
    let last : back_of cut f ≡ f = ap (λ (x : ℕ). drop x f) none in
    let wf = front_of (cut - length f) w in
    let wb = back_of (cut - length f) w in
    let long : length wb ≡ length w - (length w - (cut - length f)) = omega (arith, length-drop (length w - (cut - length f)) w) in
    let total : length (wb ++ back_of cut f) ≡ length wb + length f = ap (λ (x : List ℕ). length (wb ++ x)) last ∙ length-append wb f in
    both_cut cut w f wf wb (front_of cut f) (back_of cut f)
    (joins (cut - length f) w) (joins cut f) aw af
    (ap (λ (x : List ℕ). (wf ++ x) ++ (wb ++ back_of cut f)) first ∙ ap (λ (x : List ℕ). x ++ (wb ++ back_of cut f)) (append-nil wf)
    ∙ ap (λ (x : List ℕ). wf ++ (wb ++ x)) last ∙ sym (append_assoc wf wb f) ∙ ap (λ (x : List ℕ). x ++ f) (joins (cut - length f) w))
    (elim (cases_lt (length w) (cut - length f)) [
      | inl short ↦ inr (
        omega arith,
        (let start : length w - (cut - length f) ≡ 0 = omega arith in
            ap (λ (x : List ℕ). wf ++ x) first ∙ append-nil wf ∙ ap (λ (x : ℕ). take x w) start),
      )
      | inr enough ↦ inl (omega arith)
    ])

cut_two : (cut : ℕ) (w f : List ℕ) → list_all is_digit w ≡ true → list_all is_digit f ≡ true
    → IsCut (w ++ f) cut (number_of (front_of (cut - length f) w ++ front_of cut f)) (number_of (back_of (cut - length f) w ++ back_of cut f))
cut_two cut w f aw af = elim (cases_lt (length f) cut) [ inl short ↦ cut_first cut w f short aw af | inr enough ↦ cut_second cut w f enough aw af ]

-- ---- at fifteen places

fifteen_is : (n p k : ℕ) → k * 10 ^ p ≡ n * 10 ^ 15 → fifteen_places n p ≡ cond (nat_lt k (10 ^ 30)) (Some k) None
fifteen_is n p k e = by (nat_lt k (10 ^ 30)) refl
  where
    by : (t : Bool) → nat_lt k (10 ^ 30) ≡ t → fifteen_places n p ≡ cond t (Some k) None
    by true l = fifteen_only n p k e (let t = l in grind (arith, nat_tests, t))
    by false l = none_by (fifteen_places n p) refl
      where
        none_by : (o : Option ℕ) → fifteen_places n p ≡ o → fifteen_places n p ≡ None
        none_by None f = f
        none_by (Some m) f =
            let h = fifteen_found n p m f in
            let same : m ≡ k = cancel m k (10 ^ p) (ten_pow p) (h.0 ∙ sym e) in
            absurd (let above : 10 ^ 30 ≤ k = (let t = l in grind (arith, nat_tests, t)) in omega (arith, h.1))

-- a number cut where the cut digits are zeros
zeros_cut : (n front up p : ℕ) → n ≡ front * 10 ^ (p - (up + 15)) → front * 10 ^ (up + 15 - p) * 10 ^ p ≡ n * 10 ^ up * 10 ^ 15
zeros_cut n front up p e =
    let sum : up + 15 - p + p ≡ p - (up + 15) + (up + 15) = omega arith in
    let left : 10 ^ (up + 15 - p) * 10 ^ p ≡ 10 ^ (p - (up + 15)) * 10 ^ (up + 15) =
    sym (pow-add 10 (up + 15 - p) p) ∙ ap (λ (x : ℕ). 10 ^ x) sum ∙ pow-add 10 (p - (up + 15)) (up + 15) in
    let right : 10 ^ (up + 15) ≡ 10 ^ up * 10 ^ 15 = pow-add 10 up 15 in
    mul_assoc front (10 ^ (up + 15 - p)) (10 ^ p) ∙ ap (λ (x : ℕ). front * x) left ∙ sym (mul_assoc front (10 ^ (p - (up + 15))) (10 ^ (up + 15)))
    ∙ ap (λ (x : ℕ). x * 10 ^ (up + 15)) (sym e) ∙ ap (λ (x : ℕ). n * x) right ∙ sym (mul_assoc n (10 ^ up) (10 ^ 15))

-- and where they are not
digits_cut : (n front back up p k : ℕ) → n ≡ front * 10 ^ (p - (up + 15)) + back → back < 10 ^ (p - (up + 15)) → 0 < back → k * 10 ^ p ≡ n * 10 ^ up * 10 ^ 15 → ⊥
digits_cut n front back up p k e l h f =
    elim (cases_lt (up + 15) p) [
      | inr near ↦ let none : p - (up + 15) ≡ 0 = omega arith in let one : 10 ^ (p - (up + 15)) ≡ 1 = ap (λ (x : ℕ). 10 ^ x) none in omega arith
      | inl far ↦
          let sum : p ≡ p - (up + 15) + (up + 15) = omega arith in
          let power : 10 ^ p ≡ 10 ^ (p - (up + 15)) * 10 ^ (up + 15) = ap (λ (x : ℕ). 10 ^ x) sum ∙ pow-add 10 (p - (up + 15)) (up + 15) in
          let right : 10 ^ (up + 15) ≡ 10 ^ up * 10 ^ 15 = pow-add 10 up 15 in
          let same : k * 10 ^ (p - (up + 15)) * 10 ^ (up + 15) ≡ n * 10 ^ (up + 15) =
          mul_assoc k (10 ^ (p - (up + 15))) (10 ^ (up + 15)) ∙ ap (λ (x : ℕ). k * x) (sym power) ∙ f ∙ mul_assoc n (10 ^ up) (10 ^ 15) ∙ ap (λ (x : ℕ). n * x) (sym right) in
          let is : k * 10 ^ (p - (up + 15)) ≡ n = cancel (k * 10 ^ (p - (up + 15))) n (10 ^ (up + 15)) (ten_pow (up + 15)) same in
          let first : n % 10 ^ (p - (up + 15)) ≡ 0 = ap (λ (x : ℕ). x % 10 ^ (p - (up + 15))) (sym is ∙ (let z : k * 10 ^ (p - (up + 15)) ≡ k * 10 ^ (p - (up + 15)) + 0 = omega arith in z)) ∙ mod-mul-add k (10 ^ (p - (up + 15))) 0 (ten_pow (p - (up + 15))) in
          let second : n % 10 ^ (p - (up + 15)) ≡ back = ap (λ (x : ℕ). x % 10 ^ (p - (up + 15))) e ∙ mod-mul-add front (10 ^ (p - (up + 15))) back l in
          omega arith
    ]

-- a number that was capped is as good
capped_choice : (n r : ℕ) → cond (nat_lt (min n (10 ^ 30) * 10 ^ r) (10 ^ 30)) (Some (min n (10 ^ 30) * 10 ^ r)) None ≡ cond (nat_lt (n * 10 ^ r) (10 ^ 30)) (Some (n * 10 ^ r)) None
capped_choice n r =
    elim (cases_lt (10 ^ 30) n) [
      | inr small ↦ let same : min n (10 ^ 30) ≡ n = omega arith in ap (λ (x : ℕ). cond (nat_lt (x * 10 ^ r) (10 ^ 30)) (Some (x * 10 ^ r)) None) same
      | inl large ↦
          let same : min n (10 ^ 30) ≡ 10 ^ 30 = omega arith in
          let one : 1 ≤ 10 ^ r = ten_pow r in
          let a : 10 ^ 30 * 1 ≤ 10 ^ 30 * 10 ^ r = mul-le (10 ^ 30) 1 (10 ^ 30) (10 ^ r) (omega arith) one in
          let b : 10 ^ 30 * 1 ≤ n * 10 ^ r = mul-le (10 ^ 30) 1 n (10 ^ r) (omega arith) one in
          let first : nat_lt (10 ^ 30 * 10 ^ r) (10 ^ 30) ≡ false = grind (arith, nat_tests) in
          let second : nat_lt (n * 10 ^ r) (10 ^ 30) ≡ false = grind (arith, nat_tests) in
          ap (λ (x : ℕ). cond (nat_lt (x * 10 ^ r) (10 ^ 30)) (Some (x * 10 ^ r)) None) same
          ∙ ap (λ (t : Bool). cond t (Some (10 ^ 30 * 10 ^ r)) None) first
          ∙ sym (ap (λ (t : Bool). cond t (Some (n * 10 ^ r)) None) second)
    ]

abbrev pub are_zeros : List ℕ → Bool
are_zeros = list_all (λ b. b == 48)

-- the capped number of the digits before the cut
abbrev pub capped_front : ℕ → List ℕ → List ℕ → ℕ
capped_front cut w f = min (number_after (min (number_after 0 (front_of (cut - length f) w)) (10 ^ 30)) (front_of cut f)) (10 ^ 30)

capped_front_is : (cut : ℕ) (w f : List ℕ) → capped_front cut w f ≡ min (number_of (front_of (cut - length f) w ++ front_of cut f)) (10 ^ 30)
capped_front_is cut w f =
    let wf = front_of (cut - length f) w in
    capped (10 ^ 30) (min (number_of wf) (10 ^ 30)) (number_of wf) (front_of cut f) (omega arith)
    ∙ ap (λ (x : ℕ). min x (10 ^ 30)) (sym (number_after-append 0 wf (front_of cut f)))

pub cut_zeros : (w f : List ℕ) (up down : ℕ) → list_all is_digit w ≡ true → list_all is_digit f ≡ true
    → are_zeros (back_of (length f + down - (up + 15) - length f) w) ≡ true → are_zeros (back_of (length f + down - (up + 15)) f) ≡ true
    → (let n = capped_front (length f + down - (up + 15)) w f in let r = up + 15 - (length f + down) in cond (nat_lt (n * 10 ^ r) (10 ^ 30)) (Some (n * 10 ^ r)) None)
    ≡ fifteen_places (number_of (w ++ f) * 10 ^ up) (length f + down)
cut_zeros w f up down aw af zw zf =
    let p = length f + down in
    let cut = length f + down - (up + 15) in
    let r = up + 15 - (length f + down) in
    let front = front_of (cut - length f) w ++ front_of cut f in
    let back = back_of (cut - length f) w ++ back_of cut f in
    let parts = cut_two cut w f aw af in
    let none : number_of back ≡ 0 = zero_start back (list_all-append (λ x. x == 48) (back_of (cut - length f) w) (back_of cut f) ∙ both_and _ _ zw zf) in
    let is : number_of (w ++ f) ≡ number_of front * 10 ^ cut = parts.total ∙ ap (λ (x : ℕ). number_of front * 10 ^ cut + x) none ∙ (let z : number_of front * 10 ^ cut + 0 ≡ number_of front * 10 ^ cut = omega arith in z) in
    ap (λ (n : ℕ). cond (nat_lt (n * 10 ^ r) (10 ^ 30)) (Some (n * 10 ^ r)) None) (capped_front_is cut w f)
    ∙ capped_choice (number_of front) r
    ∙ sym (fifteen_is (number_of (w ++ f) * 10 ^ up) p (number_of front * 10 ^ r) (zeros_cut (number_of (w ++ f)) (number_of front) up p is))

pub cut_digits : (w f : List ℕ) (up down : ℕ) → list_all is_digit w ≡ true → list_all is_digit f ≡ true
    → are_zeros (back_of (length f + down - (up + 15) - length f) w) && are_zeros (back_of (length f + down - (up + 15)) f) ≡ false
    → fifteen_places (number_of (w ++ f) * 10 ^ up) (length f + down) ≡ None
cut_digits w f up down aw af some = by (fifteen_places (number_of (w ++ f) * 10 ^ up) (length f + down)) refl
  where
    cut : ℕ
    cut = length f + down - (up + 15)

    wb : List ℕ
    wb = back_of (cut - length f) w

    fb : List ℕ
    fb = back_of cut f

    all_back : list_all is_digit (wb ++ fb) ≡ true
    all_back =
        let a = (and_both (list_all is_digit (front_of (cut - length f) w)) (list_all is_digit wb) (sym (list_all-append is_digit (front_of (cut - length f) w) wb) ∙ ap (list_all is_digit) (joins (cut - length f) w) ∙ aw)).1 in
        let b = (and_both (list_all is_digit (front_of cut f)) (list_all is_digit fb) (sym (list_all-append is_digit (front_of cut f) fb) ∙ ap (list_all is_digit) (joins cut f) ∙ af)).1 in
        list_all-append is_digit wb fb ∙ both_and (list_all is_digit wb) (list_all is_digit fb) a b

    positive : 0 < number_of (wb ++ fb)
    positive = elim (cases_lt 0 (number_of (wb ++ fb))) [
      | inl h ↦ h
      | inr h ↦ absurd (let zero_back : number_of (wb ++ fb) ≡ 0 = omega arith in
          let yes : are_zeros (wb ++ fb) ≡ true = (all_zero (wb ++ fb) all_back).0 zero_back in
          let no : are_zeros (wb ++ fb) ≡ false = list_all-append (λ x. x == 48) wb fb ∙ some in cc)
    ]

    by : (o : Option ℕ) → fifteen_places (number_of (w ++ f) * 10 ^ up) (length f + down) ≡ o → fifteen_places (number_of (w ++ f) * 10 ^ up) (length f + down) ≡ None
    by None e = e
    by (Some k) e =
        let found = fifteen_found (number_of (w ++ f) * 10 ^ up) (length f + down) k e in
        let parts = cut_two cut w f aw af in
        absurd (digits_cut (number_of (w ++ f)) (number_of (front_of (cut - length f) w ++ front_of cut f)) (number_of (wb ++ fb)) up (length f + down) k parts.total parts.below positive found.0)

-- digits before and behind a cut are digits
pub front_all : (cut : ℕ) (digits : List ℕ) → list_all is_digit digits ≡ true → list_all is_digit (front_of cut digits) ≡ true
front_all cut digits a = (and_both (list_all is_digit (front_of cut digits)) (list_all is_digit (back_of cut digits)) (sym (list_all-append is_digit (front_of cut digits) (back_of cut digits)) ∙ ap (list_all is_digit) (joins cut digits) ∙ a)).0
