-- The machine that keeps whole earlier and later workbooks, and that takes lists of other copies too.
use Rattle.std.proofs.Common.{ℕ, ℤ, ◌+◌, List, [], ◌∷◌, ◌++◌, map, Option, Some, None, Result, Ok, Err}
use Rattle.std.specs.Prelude.{if◌then◌else◌}
use Rattle.base_values.specs.declared.EditError.{EditError}
use Rattle.base_values.specs.Answers.{map_ok}
use Rattle.base_tables.specs.declared.Language.{Language}
use Rattle.sheet_grid.specs.Book.{Book}
use Rattle.sheet_ids.specs.declared.View.{View}
use Rattle.sheet_ids.specs.Views.{first_view, range_chosen}
use Rattle.sheet_history.specs.declared.Diff.{Diff}
use Rattle.sheet_history.specs.declared.DiffType.{DiffType}
use Rattle.sheet_history.specs.declared.DiffType.TheVariants.{Undo, Redo}
use Rattle.sheet_history.specs.declared.QueueDiffs.{QueueDiffs}
use Rattle.sheet_history.specs.Diffs.{book_before, book_after, follow, in_entry}
use Rattle.sheet_wire.specs.QueueBytes.{encode_queue}
use Rattle.edit_plans.specs.Edits.{Edit, changed, is_silent, record_of}
use Rattle.edit_plans.specs.ViewSteps.{view_after}
use Rattle.open_book.specs.Views.{sheet_chosen, view_followed}
use Rattle.base_styles.specs.declared.Style.{Style}
use Rattle.edit_plans.specs.Edits.Edit.{PasteStyles}
use Rattle.edit_plans.specs.RangeEdits.{pasted_by}

-- an accepted edit, with the whole workbook before it and the whole workbook after it
pub record Step : Type 0 where
  pub edit : Edit
  pub before : Book
  pub after : Book

abbrev pub step_record : Step → List Diff
step_record step = record_of step.edit step.before step.after

pub record State : Type 0 where
  pub present : Book
  -- the steps that can be undone, the newest first
  pub past : List Step
  -- the steps that were undone, the newest first
  pub undone : List Step
  -- records of steps that are no longer kept, which can be undone and redone, the next one first
  pub stale_undo : List (List Diff)
  pub stale_redo : List (List Diff)
  -- the workbook at the last sync. None is known after an entry of another copy, until the next sync
  pub synced : Option Book
  -- what was done since the last sync, the oldest first
  pub sent : List QueueDiffs
  -- the language in which texts are shown and read
  pub language : Language
  -- what the user has selected of the workbook
  pub view : View

-- the state of a workbook that was just opened, seen at A1 of its first sheet
abbrev pub begun : Language → Book → State
begun language book = record {
  present = book;
  past = [];
  undone = [];
  stale_undo = [];
  stale_redo = [];
  synced = Some book;
  sent = [];
  language = language;
  view = first_view;
}

-- all records that can be undone, the next one first
abbrev pub undo_list : State → List (List Diff)
undo_list s = map step_record s.past ++ s.stale_undo

-- all records that can be redone, the next one first
abbrev pub redo_list : State → List (List Diff)
redo_list s = map step_record s.undone ++ s.stale_redo

abbrev pub entry : DiffType → List Diff → QueueDiffs
entry kind list = record { kind = kind; list = list }

-- after a list was followed to a workbook and sent, with this view of it, and with these steps and records left
abbrev pub moved : DiffType → List Diff → Book → View → List Step → List Step → List (List Diff) → List (List Diff) → State → State
moved kind list later view past undone stale_undo stale_redo s =
    record {
      present = later;
      past = past;
      undone = undone;
      stale_undo = stale_undo;
      stale_redo = stale_redo;
      synced = s.synced;
      sent = s.sent ++ entry kind list ∷ [];
      language = s.language;
      view = view;
    }

-- after an accepted edit. What was undone cannot be redone any more
abbrev pub edited : Edit → State → Book → State
edited edit s later =
    let step : Step = record { edit = edit; before = s.present; after = later } in
    moved Redo (step_record step) later (view_after edit s.present later s.view) (step ∷ s.past) [] s.stale_undo [] s

-- an edit makes its change, or is refused. A silent one does nothing
abbrev pub edit_of : Edit → State → Result State EditError
edit_of edit s = if is_silent edit s.present then Ok s else map_ok (edited edit s) (changed edit s.present)

-- styles are pasted over the rectangle that is viewed, grown to their size
abbrev pub pasted_edit : List (List Style) → State → Result State EditError
pasted_edit styles s = edit_of (PasteStyles s.view.sheet (pasted_by styles s.view.range) styles) s

-- what is seen of a workbook to which a list was followed from the present one
abbrev pub seen_along : DiffType → List Diff → Book → State → View
seen_along kind list later s = view_followed kind list s.present later s.view

-- the next stale record is taken back, or refused. The steps that are left become stale first
abbrev pub undo_stale : List (List Diff) → State → Result State EditError
undo_stale [] s = Ok s
undo_stale (list ∷ stale) s = map_ok (λ earlier. moved Undo list earlier (seen_along Undo list earlier s) [] [] stale (list ∷ redo_list s) s) (book_before s.present list)

abbrev pub undo_from : List Step → State → Result State EditError
undo_from [] s = undo_stale s.stale_undo s
undo_from (step ∷ past) s =
    Ok (moved Undo (step_record step) step.before (seen_along Undo (step_record step) step.before s) past (step ∷ s.undone) s.stale_undo s.stale_redo s)

-- the newest step of the past is taken back: its earlier workbook is the present one. Without one a stale record is, and without any of
-- these nothing is done
abbrev pub undo_of : State → Result State EditError
undo_of s = undo_from s.past s

-- the next stale record is made again, or refused
abbrev pub redo_stale : List (List Diff) → State → Result State EditError
redo_stale [] s = Ok s
redo_stale (list ∷ stale) s = map_ok (λ later. moved Redo list later (seen_along Redo list later s) [] [] (list ∷ undo_list s) stale s) (book_after s.present list)

abbrev pub redo_from : List Step → State → Result State EditError
redo_from [] s = redo_stale s.stale_redo s
redo_from (step ∷ undone) s =
    Ok (moved Redo (step_record step) step.after (seen_along Redo (step_record step) step.after s) (step ∷ s.past) undone s.stale_undo s.stale_redo s)

-- the newest undone step is made again: its later workbook is the present one. Without one a stale record is, and without any of these
-- nothing is done
abbrev pub redo_of : State → Result State EditError
redo_of s = redo_from s.undone s

-- with another view, or with the refusal of one
abbrev pub looking : Result View EditError → State → Result State EditError
looking view s = map_ok (λ seen. record s { view = seen }) view

-- shown in another language, or with the refusal of one
abbrev pub speaking_in : Result Language EditError → State → Result State EditError
speaking_in language s = map_ok (λ spoken. record s { language = spoken }) language

-- the sheet at an index is selected
abbrev pub sheet_selected : ℕ → State → Result State EditError
sheet_selected index s = looking (sheet_chosen index s.present s.view) s

-- a rectangle of the selected sheet is, by its first row, its first column, its last row and its last column
abbrev pub range_selected : ℤ → ℤ → ℤ → ℤ → State → Result State EditError
range_selected first_row first_column last_row last_column s = looking (range_chosen s.view first_row first_column last_row last_column) s

-- the bytes of a sync
abbrev pub sync_bytes : State → List ℕ
sync_bytes s = encode_queue s.sent

-- after a sync
abbrev pub synced_of : State → State
synced_of s = record s { synced = Some s.present; sent = [] }

-- after an entry of another copy led to a workbook: the steps become stale
abbrev pub outside : QueueDiffs → State → Book → State
outside entry s later =
    record {
      present = later;
      past = [];
      undone = [];
      stale_undo = undo_list s;
      stale_redo = redo_list s;
      synced = None;
      sent = s.sent;
      language = s.language;
      view = seen_along entry.kind entry.list later s;
    }

-- the entry of a number of another copy's queue is followed, or refused
abbrev pub received : ℕ → QueueDiffs → State → Result State EditError
received at entry s = map_ok (outside entry s) (in_entry at (follow entry.kind s.present entry.list))

-- the first refusal ends it, and what was before it stands
abbrev pub go_on : State → Result State EditError → (State → State × Result (Unit {0}) EditError) → State × Result (Unit {0}) EditError
go_on s (Ok next) rest = rest next
go_on s (Err error) rest = (s, Err error)

-- the entries of another copy's queue one after another, where the first has the number at
abbrev pub applied_from : ℕ → List QueueDiffs → State → State × Result (Unit {0}) EditError
applied_from at [] s = (s, Ok tt)
applied_from at (entry ∷ entries) s = go_on s (received at entry s) (applied_from (at + 1) entries)

-- the whole queue, from the first entry on
abbrev pub applied : List QueueDiffs → State → State × Result (Unit {0}) EditError
applied entries s = applied_from 0 entries s
