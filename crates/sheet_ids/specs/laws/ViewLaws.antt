-- What is selected after an edit, in the words of the sheets; and that a view names a sheet that is there, and a rectangle inside it.
use Rattle.std.proofs.Common.{◌≡◌, ℕ, zero, suc, ◌+◌, ◌-◌, ◌<◌, ◌≤◌, Bool, true, false, cond, List, [], ◌∷◌, length, Option, Some, None, refl, ap, sym, ◌∙◌, arith}
use Rattle.std.specs.Prelude.{◌==◌, nat_eq, nat_le, nat_lt, slice_get}
use Rattle.std.specs.List.{insert, remove}
use Rattle.std.specs.Option.{option_eq}
use Rattle.std.proofs.lemmas.Bool.Decides.{nat_tests}
use Rattle.sheet_grid.specs.Sheet.{Sheet}
use Rattle.sheet_ids.specs.declared.view.View.{View}
use Rattle.sheet_ids.specs.Chosen.{id_at, selected_after_delete, viewed}
use Rattle.sheet_ids.specs.Moved.{selected_sheet_after_move, without}
use Rattle.sheet_ids.specs.Views.{IsViewOf, first_range, is_rectangle}

module _ {X : Type 0} where
  -- ---- items of a list where one goes or comes

  removed_behind : (xs : List X) (i j : ℕ) → i ≤ j → slice_get (remove xs i) j ≡ slice_get xs (suc j)
  removed_behind [] zero j h = refl
  removed_behind [] (suc i) j h = refl
  removed_behind (x ∷ xs) zero j h = refl
  removed_behind (x ∷ xs) (suc i) zero h = absurd (omega (arith, h))
  removed_behind (x ∷ xs) (suc i) (suc j) h = removed_behind xs i j (omega (arith, h))

  removed_before : (xs : List X) (i j : ℕ) → j < i → slice_get (remove xs i) j ≡ slice_get xs j
  removed_before [] zero j h = refl
  removed_before [] (suc i) j h = refl
  removed_before (x ∷ xs) zero j h = absurd (omega (arith, h))
  removed_before (x ∷ xs) (suc i) zero h = refl
  removed_before (x ∷ xs) (suc i) (suc j) h = removed_before xs i j (omega (arith, h))

  inserted_behind : (xs : List X) (i j : ℕ) (x : X) → i ≤ j → i ≤ length xs → slice_get (insert xs i x) (suc j) ≡ slice_get xs j
  inserted_behind xs zero j x h within = refl
  inserted_behind [] (suc i) j x h within = absurd (omega (arith, within))
  inserted_behind (y ∷ xs) (suc i) zero x h within = absurd (omega (arith, h))
  inserted_behind (y ∷ xs) (suc i) (suc j) x h within = inserted_behind xs i j x (omega (arith, h)) (omega (arith, within))

  inserted_before : (xs : List X) (i j : ℕ) (x : X) → j < i → i ≤ length xs → slice_get (insert xs i x) j ≡ slice_get xs j
  inserted_before xs zero j x h within = absurd (omega (arith, h))
  inserted_before [] (suc i) j x h within = absurd (omega (arith, within))
  inserted_before (y ∷ xs) (suc i) zero x h within = refl
  inserted_before (y ∷ xs) (suc i) (suc j) x h within = inserted_before xs i j x (omega (arith, h)) (omega (arith, within))

  inserted_here : (xs : List X) (i : ℕ) (x : X) → i ≤ length xs → slice_get (insert xs i x) i ≡ Some x
  inserted_here xs zero x h = refl
  inserted_here [] (suc i) x h = absurd (omega (arith, h))
  inserted_here (y ∷ ys) (suc i) x h = inserted_here ys i x (omega (arith, h))

  one_less : (xs : List X) (i : ℕ) → i < length xs → suc (length (remove xs i)) ≡ length xs
  one_less [] i h = absurd (omega (arith, h))
  one_less (y ∷ ys) zero h = refl
  one_less (y ∷ ys) (suc i) h = ap suc (one_less ys i (omega (arith, h)))

  -- ---- moved sheets

  -- an item that is not the one taken out, by its index afterwards
  left_over : (xs : List X) (selected from : ℕ) → (selected == from) ≡ false → slice_get (remove xs from) (without selected from) ≡ slice_get xs selected
  left_over xs selected from other = go (nat_lt from selected) refl
    where
      go : (b : Bool) → nat_lt from selected ≡ b → slice_get (remove xs from) (cond b (selected - 1) selected) ≡ slice_get xs selected
      go true behind =
          let less : from < selected = grind (arith, nat_tests, behind) in
          let next : suc (selected - 1) ≡ selected = omega (arith, less) in
          removed_behind xs from (selected - 1) (omega (arith, less)) ∙ ap (slice_get xs) next
      go false before =
          let less : selected < from = grind (arith, nat_tests, before, other) in
          removed_before xs from selected less

  -- the selected sheet stays selected where one is moved: it is the one at the index that is selected afterwards
  pub stays_selected : (xs : List X) (selected from to : ℕ) (x : X) → slice_get xs from ≡ Some x → from < length xs → to < length xs
      → slice_get (insert (remove xs from) to x) (selected_sheet_after_move selected from to) ≡ slice_get xs selected
  stays_selected xs selected from to x there within target = either (selected == from) refl
    where
      room : to ≤ length (remove xs from)
      room = let one = one_less xs from within in omega (arith, one, target)

      other_index : (b : Bool) → nat_le to (without selected from) ≡ b → (selected == from) ≡ false
          → slice_get (insert (remove xs from) to x) (cond b (without selected from + 1) (without selected from)) ≡ slice_get xs selected
      other_index true behind other =
          let at : to ≤ without selected from = grind (arith, nat_tests, behind) in
          let next : without selected from + 1 ≡ suc (without selected from) = omega arith in
          ap (slice_get (insert (remove xs from) to x)) next ∙ inserted_behind (remove xs from) to (without selected from) x at room ∙ left_over xs selected from other
      other_index false before other =
          let less : without selected from < to = grind (arith, nat_tests, before) in
          inserted_before (remove xs from) to (without selected from) x less room ∙ left_over xs selected from other

      either : (b : Bool) → (selected == from) ≡ b
          → slice_get (insert (remove xs from) to x) (cond b to (cond (nat_le to (without selected from)) (without selected from + 1) (without selected from))) ≡ slice_get xs selected
      either true same =
          let is : from ≡ selected = grind (arith, nat_tests, same) in
          inserted_here (remove xs from) to x room ∙ sym there ∙ ap (slice_get xs) is
      either false other = other_index (nat_le to (without selected from)) refl other

  -- ---- deleted sheets

  -- where the selected sheet is deleted, the one behind it is selected
  pub next_selected : (xs : List X) (index : ℕ) → index + 1 < length xs → slice_get (remove xs index) (selected_after_delete (length xs) index index) ≡ slice_get xs (index + 1)
  next_selected xs index further =
      let not_last : (index + 1 == length xs) ≡ false = grind (arith, nat_tests, further) in
      let next : suc index ≡ index + 1 = omega arith in
      rw not_last (removed_behind xs index index (omega arith) ∙ ap (slice_get xs) next)

  -- and the one before it where it was the last one
  pub last_selected : (xs : List X) (index : ℕ) → index + 1 ≡ length xs → 0 < index → slice_get (remove xs index) (selected_after_delete (length xs) index index) ≡ slice_get xs (index - 1)
  last_selected xs index last some =
      let is_last : (index + 1 == length xs) ≡ true = grind (arith, nat_tests, last) in
      let is_some : nat_lt 0 index ≡ true = grind (arith, nat_tests, some) in
      rw (is_last, is_some) (removed_before xs index (index - 1) (omega (arith, some)))

-- ---- views

-- the view after an edit names a sheet that is there, and a rectangle inside it, where the one that was asked for is
pub viewed_there : (was : Option ℕ) (sheets : List Sheet) (index : ℕ) (view : View) → 0 < length sheets → is_rectangle view.range ≡ true → IsViewOf (length sheets) (viewed was sheets index view)
viewed_there was sheets index view some inside = record {
  there = omega (arith, some);
  inside = kept (option_eq nat_eq was (id_at sheets (viewed was sheets index view).sheet));
}
  where
    kept : (b : Bool) → is_rectangle (cond b view.range first_range) ≡ true
    kept true = inside
    kept false = refl
