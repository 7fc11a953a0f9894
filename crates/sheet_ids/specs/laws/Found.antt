-- The sheet of an id stands at its index.
use Rattle.std.proofs.Common.{◌≡◌, ℕ, ◌+◌, Bool, true, false, cond, ltb, List, [], ◌∷◌, length, Some, None, refl, sym, ap, ◌∙◌}
use Rattle.std.specs.Prelude.{◌==◌, slice_get}
use Rattle.std.specs.List.{find, position_from, position_or_len}
use Rattle.std.proofs.lemmas.Iterator.Adapters.{position_from-zero}
use Rattle.std.proofs.lemmas.List.Folds.{find_at}
use Rattle.sheet_grid.specs.Sheet.{Sheet}
use Rattle.sheet_grid.specs.Book.{Book, index_of}
use Rattle.sheet_ids.specs.Ids.{sheet_of}

none_found : (p : Sheet → Bool) (n : ℕ) (ss : List Sheet) → position_from p n ss ≡ None → find p ss ≡ None
none_found p n [] none = refl
none_found p n (s ∷ ss) none = go (p s) (none_found p (n + 1) ss) none
  where
    go : (b : Bool) → (position_from p (n + 1) ss ≡ None → find p ss ≡ None) → cond b (Some n) (position_from p (n + 1) ss) ≡ None → cond b (Some s) (find p ss) ≡ None
    go true rest none = absurd (cc)
    go false rest none = rest none

-- where no sheet has an id, none is found by it
pub not_found : (w : Book) (id : ℕ) → index_of w id ≡ None → sheet_of w id ≡ None
not_found w id none = none_found (λ (s : Sheet). s.id == id) 0 w.worksheets (sym (position_from-zero (λ (s : Sheet). s.id == id) w.worksheets) ∙ none)

-- and where one has it, that one is found
pub found_at : (w : Book) (id i : ℕ) → index_of w id ≡ Some i → sheet_of w id ≡ slice_get w.worksheets i
found_at w id i is = find_at has w.worksheets ∙ ap (slice_get w.worksheets) (go (ltb (position_or_len has w.worksheets) (length w.worksheets)) is)
  where
    has : Sheet → Bool
    has = λ (s : Sheet). s.id == id

    go : (b : Bool) → cond b (Some (position_or_len (λ (s : Sheet). s.id == id) w.worksheets)) None ≡ Some i → position_or_len (λ (s : Sheet). s.id == id) w.worksheets ≡ i
    go true same = cc
    go false same = absurd (cc)
