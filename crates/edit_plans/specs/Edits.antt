-- The edits of a workbook: what each changes, when it is refused, and its record.
use Rattle.std.proofs.Common.{ℕ, ℤ, pos, List, [], Bool, true, false, Option, Result, Ok, Err}
use Rattle.std.specs.Prelude.{int_lt, ◌||◌, IsTrue}
use Rattle.std.specs.Ordering.{int_eq}
use Rattle.base_values.specs.declared.EditError.{EditError}
use Rattle.base_values.specs.Answers.{and_then}
use Rattle.base_axis.specs.Along.{Along}
use Rattle.base_axis.specs.declared.MergedCell.{MergedCell}
use Rattle.base_axis.specs.Rectangles.{anchor_place}
use Rattle.base_tables.specs.declared.Language.{Language}
use Rattle.formula_tree.specs.declared.Node.{Node}
use Rattle.cell_content.specs.declared.Content.{Content}
use Rattle.cell_content.specs.declared.Content.TheVariants.{Array}
use Rattle.cell_content.specs.Fitting.{fits_at}
use Rattle.line_edits.specs.declared.EditKind.{EditKind}
use Rattle.line_edits.specs.declared.EditKind.TheVariants.{Move}
use Rattle.sheet_grid.specs.declared.Link.{Link}
use Rattle.sheet_grid.specs.Sheet.{Sheet}
use Rattle.sheet_grid.specs.Book.{Book, sheet_at}
use Rattle.sheet_actions.specs.Edited.{lines_edited}
use Rattle.sheet_history.specs.declared.Diff.{Diff}
use Rattle.sheet_history.specs.declared.LineAxis.{LineAxis}
use Rattle.sheet_history.specs.declared.SheetField.{SheetField}
use Rattle.sheet_history.specs.declared.Setting.{Setting}
use Rattle.sheet_history.specs.Settings.{with_setting}
use Rattle.sheet_history.specs.LineDiffs.{along_of}
use Rattle.sheet_history.specs.Records.{line_record, record_between}
use Rattle.line_sizes.specs.declared.LineChange.TheVariants.{Hidden}
use Rattle.edit_plans.specs.LineRecords.{size_change}
use Rattle.edit_plans.specs.Inputs.{IsInput, input_put}
use Rattle.edit_plans.specs.LineEdits.{attrs_set}
use Rattle.edit_plans.specs.Fills.{fill_made}
use Rattle.edit_plans.specs.ArrayInputs.{array_put}
use Rattle.edit_plans.specs.Links.{link_set}
use Rattle.edit_plans.specs.Merging.{merge_made, merge_undone}
use Rattle.edit_plans.specs.HiddenLines.{grown}
use Rattle.base_styles.specs.declared.Style.{Style}
use Rattle.range_styles.specs.declared.Clearing.{Clearing}
use Rattle.edit_plans.specs.RangeEdits.{formats_cleared, range_cleared, styles_pasted, styles_set}
use Rattle.name_edits.specs.NameEdits.{NameEdit}
use Rattle.edit_plans.specs.NamedEdits.{names_edited, names_record}
use Rattle.rule_edits.specs.RuleEdits.{RuleEdit}
use Rattle.edit_plans.specs.RuleEdits.{rules_edited, rules_record}
use Rattle.edit_plans.specs.SettingEdits.{is_own_name, setting_record}
use Rattle.edit_plans.specs.SheetEdits.{sheet_added, sheet_copied, sheet_deleted, sheet_taken, sheet_named, stays_there, is_named, field_set, added_record, copied_record, deleted_record, taken_record, named_record}

-- an edit with its arguments. The first is the index of its sheet, but for a new sheet, for defined names, for conditional rules and for
-- settings of the workbook
pub data Edit : Type 0 where
  -- the content that goes to a row and a column, and how many line feeds its text has
  Input : ℕ → ℤ → ℤ → Content → ℕ → Edit
  -- the formula whose values fill a rectangle
  ArrayInput : ℕ → MergedCell → Node → Edit
  -- the link, or none, that goes to a row and a column
  SetLink : ℕ → ℤ → ℤ → Option Link → Edit
  -- the rectangle that is merged
  Merge : ℕ → MergedCell → Edit
  -- the row and the column whose merge is dissolved
  Unmerge : ℕ → ℤ → ℤ → Edit
  -- the rows or columns that are inserted or deleted
  Lines : ℕ → LineAxis → EditKind → Edit
  -- the first row or column of those that are moved, how many, and by how many, hidden ones in the way aside
  MoveLines : ℕ → LineAxis → ℤ → ℤ → ℤ → Edit
  -- a new sheet
  AddSheet : Edit
  -- the sheet that is copied
  CopySheet : ℕ → Edit
  -- the sheet that is deleted
  DeleteSheet : ℕ → Edit
  -- the sheet that is moved, and the index to which it is taken
  MoveSheet : ℕ → ℕ → Edit
  -- the sheet that is renamed, and its new name
  RenameSheet : ℕ → List ℕ → Edit
  -- what changes of the defined names
  ChangeNames : NameEdit → Edit
  -- what changes of the conditional rules of a sheet
  EditRules : RuleEdit → Edit
  -- what a field of a sheet becomes
  SetField : ℕ → SheetField → Edit
  -- the first and the last of the rows or columns that get a size, and the size
  SetSize : ℕ → LineAxis → ℤ → ℤ → ℤ → Edit
  -- the first and the last of the rows or columns that are hidden or shown, and whether they are hidden
  SetHidden : ℕ → LineAxis → ℤ → ℤ → Bool → Edit
  -- the rectangle of whose styles an attribute gets a value, the path of the attribute, and the value
  SetRangeStyle : ℕ → MergedCell → List ℕ → List ℕ → Edit
  -- what goes of the cells of a rectangle, with its links
  ClearRange : ℕ → Clearing → MergedCell → Edit
  -- the rectangle whose styles are taken away
  ClearFormatting : ℕ → MergedCell → Edit
  -- the rectangle whose places get styles, and the styles, row by row, which are laid over it as tiles
  PasteStyles : ℕ → MergedCell → List (List Style) → Edit
  -- what a setting of the workbook becomes
  SetSetting : Setting → Edit
  -- the rectangle that is filled from, the row or the column to which, and the language in which texts that go on are read
  Fill : ℕ → LineAxis → MergedCell → ℤ → Language → Edit

-- whether an edit is one of the list of the sheets, of the defined names, of the conditional rules of a sheet or of the settings of the
-- workbook. Its record is one diff, or none where a setting stays, or one for each of the conditional rules that it changes
abbrev pub is_of_sheets : Edit → Bool
is_of_sheets AddSheet = true
is_of_sheets (CopySheet index) = true
is_of_sheets (DeleteSheet index) = true
is_of_sheets (MoveSheet from to) = true
is_of_sheets (RenameSheet index name) = true
is_of_sheets (ChangeNames edit) = true
is_of_sheets (EditRules edit) = true
is_of_sheets (SetSetting setting) = true
is_of_sheets edit = false

-- whether an edit is one of entries of a sheet, not of lines, of the list of the sheets, of the defined names, of conditional rules or of
-- settings
abbrev pub is_of_entries : Edit → Bool
is_of_entries (Lines index axis kind) = false
is_of_entries (MoveLines index axis first count delta) = false
is_of_entries AddSheet = false
is_of_entries (CopySheet index) = false
is_of_entries (DeleteSheet index) = false
is_of_entries (MoveSheet from to) = false
is_of_entries (RenameSheet index name) = false
is_of_entries (ChangeNames edit) = false
is_of_entries (EditRules edit) = false
is_of_entries (SetSetting setting) = false
is_of_entries edit = true

-- what a content that is put has to be: it may stand at its place, and it is an array just where it is put in a rectangle
abbrev pub IsGiven : Edit → Type 0
IsGiven (Input index row column content feeds) = IsInput row column content
IsGiven (ArrayInput index r tree) = IsTrue (fits_at (anchor_place r) (Array tree r.width r.height))
IsGiven edit = Unit {0}

-- the move of lines of a sheet, by the hidden ones in the way too
abbrev pub grown_move : Along → ℤ → ℤ → ℤ → Sheet → EditKind
grown_move a first count delta sheet = Move first count (grown a sheet first count delta)

-- where no line moves, or by none, a move does nothing, whatever else is asked. Nor does the move of a sheet that is there to its own
-- index, or the renaming of a sheet or of the workbook to exactly its own name
abbrev pub is_silent : Edit → Book → Bool
is_silent (MoveLines index axis first count delta) book = int_eq delta (pos 0) || int_lt count (pos 1)
is_silent (MoveSheet from to) book = stays_there from to book
is_silent (RenameSheet index name) book = is_named index name book
is_silent (SetSetting setting) book = is_own_name setting book
is_silent edit book = false

-- the workbook after an edit, or the edit's first refusal
abbrev pub changed : Edit → Book → Result Book EditError
changed (Input index row column content feeds) book = input_put index row column content feeds book
changed (ArrayInput index r tree) book = array_put index r tree book
changed (SetLink index row column entry) book = link_set index row column entry book
changed (Merge index r) book = merge_made index r book
changed (Unmerge index row column) book = merge_undone index row column book
changed (Lines index axis kind) book = lines_edited (along_of axis) kind index book
changed (MoveLines index axis first count delta) book =
    and_then (sheet_at book index) (λ sheet. lines_edited (along_of axis) (grown_move (along_of axis) first count delta sheet) index book)
changed AddSheet book = sheet_added book
changed (CopySheet index) book = sheet_copied index book
changed (DeleteSheet index) book = sheet_deleted index book
changed (MoveSheet from to) book = sheet_taken from to book
changed (RenameSheet index name) book = sheet_named index name book
changed (ChangeNames edit) book = names_edited edit book
changed (EditRules edit) book = rules_edited edit book
changed (SetField index value) book = field_set index value book
changed (SetSize index axis first last size) book = attrs_set index axis first last (size_change axis size) book
changed (SetHidden index axis first last hidden) book = attrs_set index axis first last (Ok (Hidden hidden)) book
changed (SetRangeStyle index r path value) book = styles_set index r path value book
changed (ClearRange index clearing r) book = range_cleared index clearing r book
changed (ClearFormatting index r) book = formats_cleared index r book
changed (PasteStyles index r styles) book = styles_pasted index r styles book
changed (SetSetting setting) book = Ok (with_setting setting book)
changed (Fill index axis source to language) book = fill_made index axis source to language book

-- the record of an edit of lines of a sheet, if it is there
abbrev pub lines_record : LineAxis → (Sheet → EditKind) → Book → Result Sheet EditError → List Diff
lines_record axis kind book (Ok sheet) = line_record axis (kind sheet) sheet.id book
lines_record axis kind book (Err error) = []

-- the record of an edit that led from one workbook to another: the edit of lines with what taking it back does not give, the one diff of
-- an edit of the list of the sheets or of the defined names, the changes of conditional rules, the change of a setting, if it is one, else the
-- entries that differ
abbrev pub record_of : Edit → Book → Book → List Diff
record_of (Lines index axis kind) earlier later = lines_record axis (λ sheet. kind) earlier (sheet_at earlier index)
record_of (MoveLines index axis first count delta) earlier later = lines_record axis (grown_move (along_of axis) first count delta) earlier (sheet_at earlier index)
record_of AddSheet earlier later = added_record earlier
record_of (CopySheet index) earlier later = copied_record index earlier
record_of (DeleteSheet index) earlier later = deleted_record index earlier
record_of (MoveSheet from to) earlier later = taken_record from to earlier
record_of (RenameSheet index name) earlier later = named_record index name earlier
record_of (ChangeNames edit) earlier later = names_record edit earlier
record_of (EditRules edit) earlier later = rules_record edit earlier
record_of (SetSetting setting) earlier later = setting_record setting earlier
record_of edit earlier later = record_between earlier later
