-- Items put into a list, taken out and taken to another place; and where the first one that passes a test stands then.
use Rattle.std.proofs.Common.{◌≡◌, ℕ, zero, suc, ◌+◌, ◌≤◌, ◌<◌, Bool, true, false, cond, List, [], ◌∷◌, length, Some, None, refl, ap, sym, ◌∙◌, arith}
use Rattle.std.specs.Prelude.{slice_get}
use Rattle.std.specs.List.{insert, remove, position_from}
use Rattle.std.proofs.lemmas.Option.{same_Some}

-- what was put in is taken out
pub remove_inserted : {X : Type 0} (xs : List X) (i : ℕ) (x : X) → i ≤ length xs → remove (insert xs i x) i ≡ xs
remove_inserted xs zero x h = refl
remove_inserted [] (suc i) x h = absurd (omega arith)
remove_inserted (y ∷ ys) (suc i) x h = ap (λ zs. y ∷ zs) (remove_inserted ys i x (omega arith))

-- what was taken out is put in
pub insert_removed : {X : Type 0} (xs : List X) (i : ℕ) (x : X) → slice_get xs i ≡ Some x → insert (remove xs i) i x ≡ xs
insert_removed [] i x h = absurd (cc)
insert_removed (y ∷ ys) zero x h = ap (λ z. z ∷ ys) (sym (same_Some y x h))
insert_removed (y ∷ ys) (suc i) x h = ap (λ zs. y ∷ zs) (insert_removed ys i x h)

-- it stands where it was put
pub get_inserted : {X : Type 0} (xs : List X) (i : ℕ) (x : X) → i ≤ length xs → slice_get (insert xs i x) i ≡ Some x
get_inserted xs zero x h = refl
get_inserted [] (suc i) x h = absurd (omega arith)
get_inserted (y ∷ ys) (suc i) x h = get_inserted ys i x (omega arith)

-- an item that is there is inside the list
pub got_within : {X : Type 0} (xs : List X) (i : ℕ) (x : X) → slice_get xs i ≡ Some x → i < length xs
got_within [] i x h = absurd (cc)
got_within (y ∷ ys) zero x h = omega arith
got_within (y ∷ ys) (suc i) x h = let rest : i < length ys = got_within ys i x h in omega (arith, rest)

pub length_inserted : {X : Type 0} (xs : List X) (i : ℕ) (x : X) → i ≤ length xs → length (insert xs i x) ≡ suc (length xs)
length_inserted xs zero x h = refl
length_inserted [] (suc i) x h = absurd (omega arith)
length_inserted (y ∷ ys) (suc i) x h = ap suc (length_inserted ys i x (omega arith))

pub length_removed : {X : Type 0} (xs : List X) (i : ℕ) (x : X) → slice_get xs i ≡ Some x → suc (length (remove xs i)) ≡ length xs
length_removed [] i x h = absurd (cc)
length_removed (y ∷ ys) zero x h = refl
length_removed (y ∷ ys) (suc i) x h = ap suc (length_removed ys i x h)

-- ---- the first item that passes a test

module _ {X : Type 0} (p : X → Bool) where
  pub not_first : (n : ℕ) (y : X) (ys : List X) → position_from p n (y ∷ ys) ≡ None → (p y ≡ false) × (position_from p (n + 1) ys ≡ None)
  not_first n y ys h = go (p y) refl h
    where
      go : (b : Bool) → p y ≡ b → cond b (Some n) (position_from p (n + 1) ys) ≡ None → (p y ≡ false) × (position_from p (n + 1) ys ≡ None)
      go true is e = absurd (cc)
      go false is e = (is, e)

  -- where none passes, one that does is found where it is put
  pub found_inserted : (n : ℕ) (xs : List X) (i : ℕ) (x : X) → i ≤ length xs → position_from p n xs ≡ None → p x ≡ true → position_from p n (insert xs i x) ≡ Some (n + i)
  found_inserted n xs zero x h none is = let here : n ≡ n + 0 = omega arith in ap (λ b. cond b (Some n) (position_from p (n + 1) xs)) is ∙ ap Some here
  found_inserted n [] (suc i) x h none is = absurd (omega arith)
  found_inserted n (y ∷ ys) (suc i) x h none is =
      let apart = not_first n y ys none in
      let on : (n + 1) + i ≡ n + suc i = omega arith in
      ap (λ b. cond b (Some n) (position_from p (n + 1) (insert ys i x))) apart.0 ∙ found_inserted (n + 1) ys i x (omega arith) apart.1 is ∙ ap Some on
