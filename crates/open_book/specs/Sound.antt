-- What holds of every state that the machine reaches.
use Rattle.std.proofs.Common.{◌≡◌, ℕ, false, List, [], ◌∷◌, length, Result, Ok}
use Rattle.std.specs.Prelude.{IfSome, IsOkAnd}
use Rattle.std.specs.List.{AllByRecursion}
use Rattle.base_values.specs.declared.EditError.{EditError}
use Rattle.base_values.specs.Answers.{and_then, map_ok}
use Rattle.line_edits.specs.declared.EditKind.{EditKind}
use Rattle.sheet_grid.specs.Sheet.{Sheet}
use Rattle.sheet_grid.specs.Book.{Book, ids_of, sheet_at}
use Rattle.sheet_naming.specs.NextIds.{next_id}
use Rattle.sheet_rules.specs.WellFormed.{IsWellFormed}
use Rattle.sheet_lines.specs.Followed.{book_followed}
use Rattle.sheet_ids.specs.Views.{IsViewOf}
use Rattle.sheet_history.specs.declared.Diff.{Diff}
use Rattle.sheet_history.specs.declared.LineAxis.{LineAxis}
use Rattle.sheet_history.specs.declared.QueueDiffs.{QueueDiffs}
use Rattle.sheet_history.specs.LineDiffs.{along_of}
use Rattle.sheet_history.specs.Diffs.{book_after, book_before, replayed}
use Rattle.sheet_history.specs.Records.{IsRecord, line_record}
use Rattle.sheet_wire.specs.QueueBytes.{FitsQueue, IsKnownQueue, IsQueue, encode_queue}
use Rattle.open_book.specs.Encodable.{AreEncodable}
use Rattle.edit_plans.specs.Edits.{Edit, changed, grown_move, is_silent}
use Rattle.edit_plans.specs.Edits.Edit.{Lines, MoveLines, AddSheet, CopySheet, DeleteSheet, MoveSheet, RenameSheet, ChangeNames, EditRules}
use Rattle.name_edits.specs.NameEdits.{name_change}
use Rattle.edit_plans.specs.NamedEdits.{name_diff}
use Rattle.edit_plans.specs.RuleEdits.{rule_diffs}
use Rattle.edit_plans.specs.SheetEdits.{new_diff, copy_diff, deletion_diff, move_diff, rename_diff}
use Rattle.open_book.specs.Machine.{Step, State, step_record, sync_bytes}

-- every sheet follows an edit of lines of the sheet at an index, and a list has that edit, with what taking it back does not give
pub record IsLinesRecord (index : ℕ) (axis : LineAxis) (kind : Sheet → EditKind) (earlier later : Book) (list : List Diff) : Type 0 where
  pub sheet : Sheet
  pub there : sheet_at earlier index ≡ Ok sheet
  pub followed : book_followed (along_of axis) (kind sheet) sheet.id earlier ≡ later
  pub recorded : list ≡ line_record axis (kind sheet) sheet.id earlier

-- a list is a diff that is there, and nothing else
abbrev pub IsOneDiff : Result Diff EditError → List Diff → Type 0
IsOneDiff found list = IsOkAnd found (λ diff. list ≡ diff ∷ [])

-- the record of an edit of lines is the edit itself, that of an edit of the list of the sheets its one diff, that of an edit of conditional
-- rules one diff for each rule that comes, goes or changes, by index, and that of any other, of a setting too, has exactly the entries that
-- changed
abbrev pub IsExact : Edit → Book → Book → List Diff → Type 0
IsExact (Lines index axis kind) earlier later list = IsLinesRecord index axis (λ sheet. kind) earlier later list
IsExact (MoveLines index axis first count delta) earlier later list = IsLinesRecord index axis (grown_move (along_of axis) first count delta) earlier later list
IsExact AddSheet earlier later list = IsOneDiff (map_ok (new_diff earlier) (next_id (ids_of earlier.worksheets))) list
IsExact (CopySheet index) earlier later list =
    IsOneDiff (and_then (sheet_at earlier index) (λ sheet. map_ok (copy_diff index earlier sheet) (next_id (ids_of earlier.worksheets)))) list
IsExact (DeleteSheet index) earlier later list = IsOneDiff (map_ok (deletion_diff index earlier) (sheet_at earlier index)) list
IsExact (MoveSheet from to) earlier later list = IsOneDiff (map_ok (move_diff from to) (sheet_at earlier from)) list
IsExact (RenameSheet index name) earlier later list = IsOneDiff (map_ok (rename_diff name earlier) (sheet_at earlier index)) list
IsExact (ChangeNames edit) earlier later list = IsOneDiff (map_ok (name_diff earlier) (name_change edit earlier)) list
IsExact (EditRules edit) earlier later list = rule_diffs edit earlier ≡ Ok list
IsExact edit earlier later list = IsRecord earlier later list

-- the record of a step takes its earlier workbook to its later one and back, and both are well-formed
pub record IsSoundStep (step : Step) : Type 0 where
  pub before : IsWellFormed step.before
  pub after : IsWellFormed step.after
  pub forth : book_after step.before (step_record step) ≡ Ok step.after
  pub back : book_before step.after (step_record step) ≡ Ok step.before
  pub exact : IsExact step.edit step.before step.after (step_record step)
  pub encodable : AreEncodable (step_record step)

-- an edit of a workbook is a sound step, if it is accepted and does something
abbrev pub IsSoundChange : Edit → Book → Type 0
IsSoundChange edit book = is_silent edit book ≡ false → (later : Book) → changed edit book ≡ Ok later → IsSoundStep (record { edit = edit; before = book; after = later })

-- each step, the newest first, ends where the one after it begins, and the newest one at the present workbook
abbrev pub Leads : List Step → Book → Type 0
Leads [] book = Unit {0}
Leads (step ∷ past) book = (step.after ≡ book) × IsSoundStep step × Leads past step.before

-- each undone step begins where the one before it ends, and the first one at the present workbook
abbrev pub Follows : List Step → Book → Type 0
Follows [] book = Unit {0}
Follows (step ∷ undone) book = (step.before ≡ book) × IsSoundStep step × Follows undone step.after

-- bytes carry a workbook to a later one: they encode entries, and following these leads there
pub record Carries (entries : List QueueDiffs) (bytes : List ℕ) (earlier later : Book) : Type 0 where
  pub encoded : bytes ≡ encode_queue entries
  pub led : replayed earlier entries ≡ Ok later

-- bytes carry the workbook of the last sync, where it is known, to the present one
abbrev pub CarriesOn : List ℕ → State → Type 0
CarriesOn bytes s = IfSome s.synced (λ book. Carries s.sent bytes book s.present)

-- what is said of the entries that bytes encode
abbrev pub WhereEncoded : List ℕ → (List QueueDiffs → Type 0) → Type 0
WhereEncoded bytes Said = (entries : List QueueDiffs) → IsQueue bytes entries → Said entries

-- what is said of each later workbook to which bytes carry an earlier one
abbrev pub WhereCarried : List ℕ → Book → (Book → Type 0) → Type 0
WhereCarried bytes earlier Said = (entries : List QueueDiffs) (later : Book) → FitsQueue entries → Carries entries bytes earlier later → Said later

-- the present workbook is well-formed, the steps that can be undone lead to it and those that were undone lead on from it, and the bytes
-- of a sync carry the workbook of the last one, where that is known, to it; each list that is kept can be encoded; and the view names a
-- sheet of the present workbook, and a rectangle inside it
pub record IsSound (s : State) : Type 0 where
  pub present : IsWellFormed s.present
  pub seen : IsViewOf (length s.present.worksheets) s.view
  pub past : Leads s.past s.present
  pub undone : Follows s.undone s.present
  pub carries : CarriesOn (sync_bytes s) s
  pub encodable : IsKnownQueue s.sent
  pub stale_undo : AllByRecursion AreEncodable s.stale_undo
  pub stale_redo : AllByRecursion AreEncodable s.stale_redo
