-- Documents go along with the states of the machine.
use Rattle.std.proofs.Common.{◌≡◌, ℕ, Bool, true, false, cond, List, [], ◌∷◌, ◌++◌, map, length, Result, Ok, Err, refl, ap, sym, ◌∙◌, arith}
use Rattle.std.proofs.lemmas.Bool.{lt-ltb, le-ltb}
use Rattle.std.proofs.lemmas.List.{length-append}
use Rattle.std.specs.Prelude.{nat_lt}
use Rattle.base_values.specs.declared.EditError.{EditError}
use Rattle.base_values.specs.Answers.{map_ok}
use Rattle.sheet_grid.specs.Book.{Book}
use Rattle.sheet_history.specs.declared.Diff.{Diff}
use Rattle.sheet_history.specs.declared.DiffType.TheVariants.{Undo, Redo}
use Rattle.sheet_history.specs.declared.QueueDiffs.{QueueDiffs}
use Rattle.sheet_history.specs.Diffs.{book_after, book_before, follow, in_entry}
use Rattle.edit_plans.specs.Edits.{Edit, changed, is_silent}
use Rattle.open_book.specs.Document.{Document, document, document_edit, edited_to, document_undo, undone, document_redo, redone, beside, document_received, can_undo_step, can_redo_step, stale_after}
use Rattle.open_book.specs.Machine.{Step, State, step_record, undo_list, redo_list, edited, edit_of, undo_stale, undo_of, redo_stale, redo_of, seen_along, outside, received, moved}
use Rattle.open_book.specs.Sound.{Leads, Follows, IsSound}

-- ---- edits

pub document_edited : (edit : Edit) (s : State) → document_edit edit (document s) ≡ map_ok document (edit_of edit s)
document_edited edit s = either (is_silent edit s.present)
  where
    go : (r : Result Book EditError) → map_ok (edited_to edit (document s)) r ≡ map_ok document (map_ok (edited edit s) r)
    go (Err error) = refl
    go (Ok later) = refl

    either : (b : Bool) → ◌≡◌ {A = Result Document EditError} (cond b (Ok (document s)) (map_ok (edited_to edit (document s)) (changed edit s.present)))
        (map_ok document (cond b (Ok s) (map_ok (edited edit s) (changed edit s.present))))
    either true = refl
    either false = go (changed edit s.present)

-- ---- how many records are stale

-- as many as there are, where no step is left
none_more : (stale : List (List Diff)) → nat_lt (length stale) (length stale) ≡ false
none_more stale = le-ltb (length stale) (length stale) (omega arith)

some_more : (steps : List Step) (step : Step) (stale : List (List Diff)) → nat_lt (length stale) (length (map step_record (step ∷ steps) ++ stale)) ≡ true
some_more steps step stale = lt-ltb (length stale) (length (map step_record (step ∷ steps) ++ stale)) (omega (arith, length-append (map step_record steps) stale))

-- ---- undo

module _ (s : State) where
  -- a stale record is the next one to undo, and what taking it back leads to
  module _ (list : List Diff) (stale : List (List Diff)) where
    abbrev stale_to_undo : State
    stale_to_undo = record s { past = []; stale_undo = list ∷ stale }

    abbrev stale_undone : Book → State
    stale_undone earlier = moved Undo list earlier (seen_along Undo list earlier stale_to_undo) [] [] stale (list ∷ redo_list stale_to_undo) stale_to_undo

    no_undo_step : can_undo_step (document stale_to_undo) ≡ false
    no_undo_step = none_more (list ∷ stale)

    undone_stale : (r : Result Book EditError) → map_ok (undone list stale (document stale_to_undo)) r ≡ map_ok document (map_ok stale_undone r)
    undone_stale (Err error) = refl
    undone_stale (Ok earlier) = λ i.
        Ok (record (document (stale_undone earlier)) {
          stale_undo = stale_after (no_undo_step i) (length (list ∷ stale)) (length stale);
          stale_redo = stale_after (no_undo_step i) (length s.stale_redo) (length (list ∷ redo_list stale_to_undo));
        })

  undo_stale_along : (stale : List (List Diff)) → document_undo (document (record s { past = []; stale_undo = stale })) ≡ map_ok document (undo_stale stale (record s { past = []; stale_undo = stale }))
  undo_stale_along [] = refl
  undo_stale_along (list ∷ stale) = undone_stale list stale (book_before s.present list)

  -- a step is the next one to undo
  module _ (step : Step) (past : List Step) where
    abbrev step_to_undo : State
    step_to_undo = record s { past = step ∷ past }

    abbrev step_undone : State
    step_undone = moved Undo (step_record step) step.before (seen_along Undo (step_record step) step.before step_to_undo) past (step ∷ s.undone) s.stale_undo s.stale_redo step_to_undo

    an_undo_step : can_undo_step (document step_to_undo) ≡ true
    an_undo_step = some_more past step s.stale_undo

    undone_step : book_before s.present (step_record step) ≡ Ok step.before → document_undo (document step_to_undo) ≡ Ok (document step_undone)
    undone_step back =
        ap (map_ok (undone (step_record step) (map step_record past ++ s.stale_undo) (document step_to_undo))) back
        ∙ (λ i.
        Ok (record (document step_undone) {
          stale_undo = stale_after (an_undo_step i) (length s.stale_undo) (length (map step_record past ++ s.stale_undo));
          stale_redo = stale_after (an_undo_step i) (length s.stale_redo) (length (step_record step ∷ redo_list step_to_undo));
        }))

  undo_along : (past : List Step) → Leads past s.present → document_undo (document (record s { past = past })) ≡ map_ok document (undo_of (record s { past = past }))
  undo_along [] leads = undo_stale_along s.stale_undo
  undo_along (step ∷ past) leads = undone_step step past (ap (λ book. book_before book (step_record step)) (sym leads.0) ∙ leads.1.back)

-- a document goes along with an undo
pub document_undone : (s : State) → IsSound s → document_undo (document s) ≡ map_ok document (undo_of s)
document_undone s sound = undo_along s s.past sound.past

-- ---- redo

module _ (s : State) where
  -- a stale record is the next one to redo, and what making it again leads to
  module _ (list : List Diff) (stale : List (List Diff)) where
    abbrev stale_to_redo : State
    stale_to_redo = record s { undone = []; stale_redo = list ∷ stale }

    abbrev stale_redone : Book → State
    stale_redone later = moved Redo list later (seen_along Redo list later stale_to_redo) [] [] (list ∷ undo_list stale_to_redo) stale stale_to_redo

    no_redo_step : can_redo_step (document stale_to_redo) ≡ false
    no_redo_step = none_more (list ∷ stale)

    redone_stale : (r : Result Book EditError) → map_ok (redone list stale (document stale_to_redo)) r ≡ map_ok document (map_ok stale_redone r)
    redone_stale (Err error) = refl
    redone_stale (Ok later) = λ i.
        Ok (record (document (stale_redone later)) {
          stale_undo = stale_after (no_redo_step i) (length s.stale_undo) (length (list ∷ undo_list stale_to_redo));
          stale_redo = stale_after (no_redo_step i) (length (list ∷ stale)) (length stale);
        })

  redo_stale_along : (stale : List (List Diff)) → document_redo (document (record s { undone = []; stale_redo = stale })) ≡ map_ok document (redo_stale stale (record s { undone = []; stale_redo = stale }))
  redo_stale_along [] = refl
  redo_stale_along (list ∷ stale) = redone_stale list stale (book_after s.present list)

  -- a step is the next one to redo
  module _ (step : Step) (undone : List Step) where
    abbrev step_to_redo : State
    step_to_redo = record s { undone = step ∷ undone }

    abbrev step_redone : State
    step_redone = moved Redo (step_record step) step.after (seen_along Redo (step_record step) step.after step_to_redo) (step ∷ s.past) undone s.stale_undo s.stale_redo step_to_redo

    a_redo_step : can_redo_step (document step_to_redo) ≡ true
    a_redo_step = some_more undone step s.stale_redo

    redone_step : book_after s.present (step_record step) ≡ Ok step.after → document_redo (document step_to_redo) ≡ Ok (document step_redone)
    redone_step forth =
        ap (map_ok (redone (step_record step) (map step_record undone ++ s.stale_redo) (document step_to_redo))) forth
        ∙ (λ i.
        Ok (record (document step_redone) {
          stale_undo = stale_after (a_redo_step i) (length s.stale_undo) (length (step_record step ∷ undo_list step_to_redo));
          stale_redo = stale_after (a_redo_step i) (length s.stale_redo) (length (map step_record undone ++ s.stale_redo));
        }))

  redo_along : (undone : List Step) → Follows undone s.present → document_redo (document (record s { undone = undone })) ≡ map_ok document (redo_of (record s { undone = undone }))
  redo_along [] follows = redo_stale_along s.stale_redo
  redo_along (step ∷ undone) follows = redone_step step undone (ap (λ book. book_after book (step_record step)) (sym follows.0) ∙ follows.1.forth)

-- a document goes along with a redo
pub document_redone : (s : State) → IsSound s → document_redo (document s) ≡ map_ok document (redo_of s)
document_redone s sound = redo_along s s.undone sound.undone

-- ---- entries of other copies

pub document_taken : (at : ℕ) (one : QueueDiffs) (s : State) → document_received at one (document s) ≡ map_ok document (received at one s)
document_taken at one s = go (in_entry at (follow one.kind s.present one.list))
  where
    go : (r : Result Book EditError) → map_ok (beside one (document s)) r ≡ map_ok document (map_ok (outside one s) r)
    go (Ok later) = refl
    go (Err error) = refl
