-- An edit of one sheet, as an edit of the workbook.
use Rattle.std.proofs.Common.{◌≡◌, ℕ, zero, suc, List, [], ◌∷◌, Option, Some, None, Result, Ok, Err, refl, ap, sym, subst, ◌∙◌}
use Rattle.std.specs.Prelude.{IsOk, slice_get, slice_set}
use Rattle.std.proofs.lemmas.Option.{same_Some}
use Rattle.base_values.specs.declared.EditError.{EditError}
use Rattle.base_values.specs.Answers.{Changes, and_then, map_ok, ok_or}
use Rattle.sheet_grid.specs.Sheet.{Sheet}
use Rattle.sheet_grid.specs.Book.{Book, sheet_at, sheet_edit, with_sheet}

-- an item put where it stands changes nothing
pub set_found : {X : Type 0} (xs : List X) (i : ℕ) (x : X) → slice_get xs i ≡ Some x → slice_set xs i x ≡ xs
set_found [] i x h = refl
set_found (y ∷ ys) zero x h = ap (λ z. z ∷ ys) (sym (same_Some y x h))
set_found (y ∷ ys) (suc i) x h = ap (λ zs. y ∷ zs) (set_found ys i x h)

-- the answer was the value of the list
ok_or-some : {A E : Type 0} (e : E) (o : Option A) (x : A) → ok_or e o ≡ Ok x → o ≡ Some x
ok_or-some e None x h = cc
ok_or-some e (Some y) x h = cc

value_stays : {A B E : Type 0} (f : A → B) (r : Result A E) → IsOk r → IsOk (map_ok f r)
value_stays f (Ok value) h = h
value_stays f (Err error) h = h

pub changes-sheet_edit : (book : Book) (index : ℕ) (edit : Sheet → Result Sheet EditError) (old new : Sheet) (result : Result (Unit {0}) EditError)
    → sheet_at book index ≡ Ok old → Changes result old new (edit old) → Changes result book (with_sheet book index new) (sheet_edit book index edit)
changes-sheet_edit book index edit old new (Ok u) found h = record {
  done = ap (λ r. and_then r (λ sheet. map_ok (with_sheet book index) (edit sheet))) found ∙ ap (map_ok (with_sheet book index)) h.done;
  refused = tt;
  memory = tt;
}
changes-sheet_edit book index edit old new (Err e) found h =
    let here : sheet_edit book index edit ≡ map_ok (with_sheet book index) (edit old) = ap (λ r. and_then r (λ sheet. map_ok (with_sheet book index) (edit sheet))) found in record {
      done = tt;
      refused = (
        ap (with_sheet book index) h.refused.0 ∙ (λ i. record book { worksheets = set_found book.worksheets index old (ok_or-some _ _ _ found) i }),
        λ other. here ∙ ap (map_ok (with_sheet book index)) (h.refused.1 other),
      );
      memory = λ short. subst IsOk (sym here) (value_stays (with_sheet book index) (edit old) (h.memory short));
    }
