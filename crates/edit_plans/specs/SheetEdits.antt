-- Edits of the list of a workbook's sheets, and of the name and the fields of a sheet: what each changes, when it is refused, and its diff.
use Rattle.std.specs.Prelude.{ℕ, ◌+◌, ◌==◌, ◌&&◌, nat_lt, slice_get, Bool, false, List, [], ◌∷◌, length, Result, Ok, Err, if◌then◌else◌}
use Rattle.std.specs.Option.{option_map_or}
use Rattle.base_values.specs.declared.EditError.{EditError}
use Rattle.base_values.specs.declared.EditError.TheVariants.{FrozenCount, OnlySheet, SheetName}
use Rattle.base_values.specs.Answers.{and_then, map_ok}
use Rattle.base_tables.specs.Tables.{same_text}
use Rattle.defined_names.specs.Names.{names_left, names_copied}
use Rattle.sheet_grid.specs.Sheet.{Sheet, new_sheet}
use Rattle.sheet_grid.specs.Book.{Book, ids_of, names_of, sheet_at, sheet_edit, sheet_moved}
use Rattle.sheet_naming.specs.FreeNames.{new_name, copy_name}
use Rattle.sheet_naming.specs.NextIds.{next_id}
use Rattle.book_sheets.specs.SheetDiffs.{with_sheet_at, without_sheet_at, sheet_as, kept_of}
use Rattle.book_names.specs.Renaming.{book_renamed, trees_kept}
use Rattle.book_names.specs.RenameDiffs.{may_be_named}
use Rattle.sheet_history.specs.declared.SheetField.{SheetField}
use Rattle.sheet_history.specs.declared.Diff.{Diff}
use Rattle.sheet_history.specs.declared.Diff.TheVariants.{NewSheet as NewDiff, DuplicateSheet as CopyDiff, DeleteSheet as DeletionDiff, MoveSheet as MoveDiff, RenameSheet as RenameDiff}
use Rattle.sheet_history.specs.Fields.{field_of, may_have, with_field}

-- ---- the list of the sheets

-- a new sheet, with an id, stands at the end
abbrev pub with_new_sheet : Book → ℕ → Book
with_new_sheet book id = with_sheet_at (length book.worksheets) (new_sheet id (new_name (names_of book.worksheets))) book.names book

-- a sheet is added: there is no further id
unfoldable pub sheet_added : Book → Result Book EditError
sheet_added book = map_ok (with_new_sheet book) (next_id (ids_of book.worksheets))

-- the copy of the sheet at an index, with an id, stands behind it, and the names that are known in that sheet alone are copied
abbrev pub with_copy : ℕ → Book → Sheet → ℕ → Book
with_copy index book sheet id =
    with_sheet_at (index + 1) (sheet_as id (copy_name (names_of book.worksheets) sheet.name) sheet) (names_copied sheet.id id book.names) book

-- a sheet is copied: there is no such sheet, or no further id
unfoldable pub sheet_copied : ℕ → Book → Result Book EditError
sheet_copied index book = and_then (sheet_at book index) (λ sheet. map_ok (with_copy index book sheet) (next_id (ids_of book.worksheets)))

-- a sheet goes, with the names that are known in it alone: there is no such sheet, or it is the only one
unfoldable pub sheet_deleted : ℕ → Book → Result Book EditError
sheet_deleted index book =
    and_then (sheet_at book index) (λ sheet. if length book.worksheets == 1 then Err OnlySheet else Ok (without_sheet_at index (names_left sheet.id book.names) book))

-- a sheet is taken to exactly that other index: one of the two is not there
unfoldable pub sheet_taken : ℕ → ℕ → Book → Result Book EditError
sheet_taken from to book = sheet_moved book from to

-- a sheet that is taken to its own index: nothing is done. One that is not there is refused
abbrev pub stays_there : ℕ → ℕ → Book → Bool
stays_there from to book = (from == to) && nat_lt from (length book.worksheets)

-- the workbook with a name for one of its sheets, if that sheet may have it
abbrev pub with_name : List ℕ → Book → Sheet → Result Book EditError
with_name name book sheet = if may_be_named sheet.id name book.worksheets then Ok (book_renamed sheet.id sheet.name name book) else Err SheetName

-- the sheet at an index gets another name, in all formulas and defined names too: there is no such sheet, or it may not have that name
unfoldable pub sheet_named : ℕ → List ℕ → Book → Result Book EditError
sheet_named index name book = and_then (sheet_at book index) (with_name name book)

-- a sheet that has exactly that name already: nothing is done. One that is not there is refused
unfoldable pub is_named : ℕ → List ℕ → Book → Bool
is_named index name book = option_map_or (λ (sheet : Sheet). same_text sheet.name name) (slice_get book.worksheets index) false

-- ---- the diff of each, of the workbook before it

abbrev pub new_diff : Book → ℕ → Diff
new_diff book id = NewDiff id (length book.worksheets) (new_name (names_of book.worksheets))

abbrev pub copy_diff : ℕ → Book → Sheet → ℕ → Diff
copy_diff index book sheet id = CopyDiff sheet.id id (index + 1) (copy_name (names_of book.worksheets) sheet.name)

abbrev pub deletion_diff : ℕ → Book → Sheet → Diff
deletion_diff index book sheet = DeletionDiff index (kept_of sheet book.names)

abbrev pub move_diff : ℕ → ℕ → Sheet → Diff
move_diff from to sheet = MoveDiff sheet.id from to

abbrev pub rename_diff : List ℕ → Book → Sheet → Diff
rename_diff name book sheet = RenameDiff sheet.id sheet.name name (trees_kept sheet.name name book)

-- the record of one diff, if there is that diff
abbrev pub one_diff : Result Diff EditError → List Diff
one_diff (Ok diff) = diff ∷ []
one_diff (Err error) = []

abbrev pub added_record : Book → List Diff
added_record book = one_diff (map_ok (new_diff book) (next_id (ids_of book.worksheets)))

abbrev pub copied_record : ℕ → Book → List Diff
copied_record index book = one_diff (and_then (sheet_at book index) (λ sheet. map_ok (copy_diff index book sheet) (next_id (ids_of book.worksheets))))

abbrev pub deleted_record : ℕ → Book → List Diff
deleted_record index book = one_diff (map_ok (deletion_diff index book) (sheet_at book index))

abbrev pub taken_record : ℕ → ℕ → Book → List Diff
taken_record from to book = one_diff (map_ok (move_diff from to) (sheet_at book from))

abbrev pub named_record : ℕ → List ℕ → Book → List Diff
named_record index name book = one_diff (map_ok (rename_diff name book) (sheet_at book index))

-- ---- the fields of a sheet

-- a sheet whose field gets a value, or the refusal of a count of frozen lines that is below 0 or not less than the lines that the sheet has
abbrev pub field_put : SheetField → Sheet → Result Sheet EditError
field_put value sheet = if may_have value then Ok (with_field (field_of value) value sheet) else Err FrozenCount

-- a field of a sheet gets a value: there is no such sheet, or no such value
unfoldable pub field_set : ℕ → SheetField → Book → Result Book EditError
field_set index value book = sheet_edit book index (field_put value)
