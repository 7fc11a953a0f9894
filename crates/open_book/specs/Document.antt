-- What a user model keeps of a state: the workbook, and diffs of what was there before.
use Rattle.std.proofs.Common.{ℕ, Bool, List, [], ◌∷◌, ◌++◌, length, Result, Ok}
use Rattle.std.specs.Prelude.{if◌then◌else◌, nat_lt}
use Rattle.base_values.specs.declared.EditError.{EditError}
use Rattle.base_values.specs.Answers.{map_ok}
use Rattle.base_tables.specs.declared.Language.{Language}
use Rattle.line_edits.specs.declared.EditKind.{EditKind}
use Rattle.sheet_grid.specs.Book.{Book}
use Rattle.sheet_lines.specs.Followed.{book_followed}
use Rattle.sheet_ids.specs.declared.View.{View}
use Rattle.sheet_history.specs.declared.Diff.{Diff}
use Rattle.sheet_history.specs.declared.DiffType.{DiffType}
use Rattle.sheet_history.specs.declared.DiffType.TheVariants.{Undo, Redo}
use Rattle.sheet_history.specs.declared.LineAxis.{LineAxis}
use Rattle.sheet_history.specs.declared.QueueDiffs.{QueueDiffs}
use Rattle.sheet_history.specs.Diffs.{book_after, book_before, follow, in_entry}
use Rattle.sheet_history.specs.LineDiffs.{along_of}
use Rattle.sheet_history.specs.Records.{line_record}
use Rattle.edit_plans.specs.Edits.{Edit, changed, is_silent, record_of}
use Rattle.edit_plans.specs.ViewSteps.{selected_by, view_asked}
use Rattle.open_book.specs.Machine.{State, undo_list, redo_list, entry}
use Rattle.open_book.specs.Views.{view_at, view_followed}

pub record Document : Type 0 where
  pub book : Book
  -- the records that can be undone, and those that were undone, the newest first
  pub undo : List (List Diff)
  pub redo : List (List Diff)
  -- how many of these, the oldest, are stale
  pub stale_undo : ℕ
  pub stale_redo : ℕ
  -- what was not sent yet, the oldest first
  pub queue : List QueueDiffs
  -- the language in which texts are shown and read
  pub language : Language
  -- what the user has selected of the workbook
  pub view : View

-- the document of a state has of each step its record alone
abbrev pub document : State → Document
document s =
    record {
      book = s.present;
      undo = undo_list s;
      redo = redo_list s;
      stale_undo = length s.stale_undo;
      stale_redo = length s.stale_redo;
      queue = s.sent;
      language = s.language;
      view = s.view;
    }

-- a queue with one entry more to send
abbrev pub sending : DiffType → List Diff → List QueueDiffs → List QueueDiffs
sending kind list queue = queue ++ entry kind list ∷ []

-- a document after an accepted edit, which selects the sheet at an index; this view is what it asks for of the sheet that was viewed
abbrev pub recorded : List Diff → ℕ → View → Document → Book → Document
recorded list selected seen doc later =
    record doc {
      book = later;
      undo = list ∷ doc.undo;
      redo = [];
      stale_redo = 0;
      queue = sending Redo list doc.queue;
      view = view_at selected doc.book later seen;
    }

-- the changes of a list made, and recorded
abbrev pub list_recorded : List Diff → ℕ → View → Document → Result Document EditError
list_recorded list selected seen doc = map_ok (recorded list selected seen doc) (book_after doc.book list)

-- lines of the sheet of an id inserted, deleted or moved, and their record
abbrev pub lines_recorded : LineAxis → EditKind → ℕ → Document → Document
lines_recorded axis kind id doc = recorded (line_record axis kind id doc.book) doc.view.sheet doc.view doc (book_followed (along_of axis) kind id doc.book)

-- a document after an edit led to a workbook
abbrev pub edited_to : Edit → Document → Book → Document
edited_to edit doc later = recorded (record_of edit doc.book later) (selected_by edit doc.book doc.view.sheet) (view_asked edit doc.book doc.view) doc later

-- an edit of a document. A silent one does nothing
abbrev pub document_edit : Edit → Document → Result Document EditError
document_edit edit doc = if is_silent edit doc.book then Ok doc else map_ok (edited_to edit doc) (changed edit doc.book)

-- how many records are stale after an undo or a redo: once a stale one was used, all are
abbrev pub stale_after : Bool → ℕ → ℕ → ℕ
stale_after is_recorded before count = if is_recorded then before else count

-- whether the next record to undo is one of a step
abbrev pub can_undo_step : Document → Bool
can_undo_step doc = nat_lt doc.stale_undo (length doc.undo)

-- whether the next record to redo is one of a step
abbrev pub can_redo_step : Document → Bool
can_redo_step doc = nat_lt doc.stale_redo (length doc.redo)

-- a document after the newest list to undo was taken back
abbrev pub undone : List Diff → List (List Diff) → Document → Book → Document
undone list rest doc earlier =
    record doc {
      book = earlier;
      undo = rest;
      redo = list ∷ doc.redo;
      stale_undo = stale_after (can_undo_step doc) doc.stale_undo (length rest);
      stale_redo = stale_after (can_undo_step doc) doc.stale_redo (length (list ∷ doc.redo));
      queue = sending Undo list doc.queue;
      view = view_followed Undo list doc.book earlier doc.view;
    }

abbrev pub undo_at : List (List Diff) → Document → Result Document EditError
undo_at [] doc = Ok doc
undo_at (list ∷ rest) doc = map_ok (undone list rest doc) (book_before doc.book list)

abbrev pub document_undo : Document → Result Document EditError
document_undo doc = undo_at doc.undo doc

-- a document after the newest list to redo was made again
abbrev pub redone : List Diff → List (List Diff) → Document → Book → Document
redone list rest doc later =
    record doc {
      book = later;
      undo = list ∷ doc.undo;
      redo = rest;
      stale_undo = stale_after (can_redo_step doc) doc.stale_undo (length (list ∷ doc.undo));
      stale_redo = stale_after (can_redo_step doc) doc.stale_redo (length rest);
      queue = sending Redo list doc.queue;
      view = view_followed Redo list doc.book later doc.view;
    }

abbrev pub redo_at : List (List Diff) → Document → Result Document EditError
redo_at [] doc = Ok doc
redo_at (list ∷ rest) doc = map_ok (redone list rest doc) (book_after doc.book list)

abbrev pub document_redo : Document → Result Document EditError
document_redo doc = redo_at doc.redo doc

-- a document after an entry of another copy led to a workbook
abbrev pub beside : QueueDiffs → Document → Book → Document
beside entry doc later =
    record doc {
      book = later;
      stale_undo = length doc.undo;
      stale_redo = length doc.redo;
      view = view_followed entry.kind entry.list doc.book later doc.view;
    }

-- the entry of a number of another copy's queue is followed, or refused
abbrev pub document_received : ℕ → QueueDiffs → Document → Result Document EditError
document_received at entry doc = map_ok (beside entry doc) (in_entry at (follow entry.kind doc.book entry.list))
