-- An edit whose plan is made and recorded.
use Rattle.std.proofs.Common.{◌≡◌, ℕ, false, cond, List, Result, Ok, Err, refl, ap, sym, subst, ◌∙◌}
use Rattle.std.specs.Prelude.{IsOk, IsOkAnd}
use Rattle.base_values.specs.declared.EditError.{EditError}
use Rattle.base_values.specs.Answers.{map_ok}
use Rattle.sheet_grid.specs.Book.{Book}
use Rattle.sheet_ids.specs.declared.View.{View}
use Rattle.sheet_history.specs.declared.Diff.{Diff}
use Rattle.sheet_history.specs.Diffs.{IsCanonicalList, book_after}
use Rattle.edit_plans.specs.Edits.{Edit, changed, is_silent}
use Rattle.open_book.specs.Document.{Document, document_edit, edited_to, list_recorded, recorded}
use Rattle.open_book.specs.Sound.{IsSoundChange}
use Rattle.open_book.specs.Stands.{IsSeenPlan, IsStepBy}

module _ (edit : Edit) (doc : Document) where
  abbrev after_edit : Result Book EditError → Result Document EditError
  after_edit r = map_ok (edited_to edit doc) r

  module _ (loud : is_silent edit doc.book ≡ false) where
    -- it is no silent one
    heard : (r : Result Book EditError) → after_edit r ≡ cond (is_silent edit doc.book) (Ok doc) (after_edit r)
    heard r = ap (λ b. cond b (Ok doc) (after_edit r)) (sym loud)

    -- a refused one is refused
    refused : (error : EditError) → changed edit doc.book ≡ Err error → document_edit edit doc ≡ Err error
    refused error is = sym (heard (changed edit doc.book)) ∙ ap after_edit is

    -- and one that is not is accepted
    accepted : IsOk (changed edit doc.book) → IsOk (document_edit edit doc)
    accepted is = subst IsOk (heard (changed edit doc.book)) (mapped (changed edit doc.book) is)
      where
        mapped : (r : Result Book EditError) → IsOk r → IsOk (after_edit r)
        mapped (Ok later) h = refl
        mapped (Err error) h = h

  module _ (list : List Diff) where
    -- the list leads to the later workbook
    leads : (later : Book) → IsStepBy edit doc.book list later → book_after doc.book list ≡ Ok later
    leads later by = subst (λ l. book_after doc.book l ≡ Ok later) (sym by.recorded) by.step.forth

    kept_by : (r : Result Book EditError) → IsOkAnd r (IsStepBy edit doc.book list) → IsCanonicalList list
    kept_by (Ok later) by = by.canonical
    kept_by (Err error) by = absurd by

    ok_by : (r : Result Book EditError) → IsOkAnd r (IsStepBy edit doc.book list) → IsOk r
    ok_by (Ok later) by = refl
    ok_by (Err error) by = absurd by

    works_by : (r : Result Book EditError) → IsOkAnd r (IsStepBy edit doc.book list) → IsOk (book_after doc.book list)
    works_by (Ok later) by = subst IsOk (sym (leads later by)) refl
    works_by (Err error) by = absurd by

  module _ (selected : ℕ) (seen : View) where
    module _ (list : List Diff) (it : IsSeenPlan edit (Ok list) selected seen doc) where
      pub plan_kept : IsCanonicalList list
      plan_kept = kept_by list (changed edit doc.book) it.planned

      pub plan_works : IsOk (book_after doc.book list)
      plan_works = works_by list (changed edit doc.book) it.planned

      changes : IsOk (changed edit doc.book)
      changes = ok_by list (changed edit doc.book) it.planned

      recorded_by : (r : Result Book EditError) → IsOkAnd r (IsStepBy edit doc.book list) → list_recorded list selected seen doc ≡ after_edit r
      recorded_by (Ok later) by = ap (map_ok (recorded list selected seen doc)) (leads list later by) ∙ (λ i. Ok (recorded (by.recorded i) (sym (it.selects changes) i) (sym (it.asks changes) i) doc later))
      recorded_by (Err error) by = absurd by

      -- to make the list and to record it is the edit
      pub plan_document : list_recorded list selected seen doc ≡ document_edit edit doc
      plan_document = recorded_by (changed edit doc.book) it.planned ∙ heard it.loud (changed edit doc.book)

      pub plan_accepted : IsOk (document_edit edit doc)
      plan_accepted = accepted it.loud changes

      pub plan_sound : IsSoundChange edit doc.book
      plan_sound loud later how = let by : IsStepBy edit doc.book list later = subst (λ r. IsOkAnd r (IsStepBy edit doc.book list)) how it.planned in by.step

    module _ (error : EditError) (it : IsSeenPlan edit (Err error) selected seen doc) where
      pub plan_refused : changed edit doc.book ≡ Err error → document_edit edit doc ≡ Err error
      plan_refused = refused it.loud error

      pub plan_asked : IsOk (changed edit doc.book) → IsOk (document_edit edit doc)
      plan_asked = accepted it.loud
