-- The record of an edit: the entries in which two workbooks differ.
use Rattle.std.proofs.Common.{◌≡◌, ℕ, Bool, false, List, [], ◌∷◌, ◌++◌, map, Option, Some, None}
use Rattle.std.specs.Prelude.{if◌then◌else◌, IsTrue}
use Rattle.std.specs.List.{flat_map, filter_map}
use Rattle.std.specs.Option.{option_eq, option_map}
use Rattle.std.specs.Cmp.Lexicographic.{pointwise}
use Rattle.std.specs.FinMap as fin
use Rattle.std.specs.FinMap.{FinMap}
use Rattle.base_axis.specs.contracts.merged_cell.MergedCellPartialEq.TheImpl as merged
use Rattle.line_edits.specs.declared.EditKind.{EditKind}
use Rattle.line_edits.specs.Edit.{IsValid}
use Rattle.sheet_grid.specs.SameEntry.{same_entry}
use Rattle.sheet_grid.specs.contracts.line_attr.LineAttrPartialEq.TheImpl as line_attr
use Rattle.sheet_grid.specs.contracts.link.LinkPartialEq.TheImpl as link
use Rattle.sheet_grid.specs.Sheet.{Sheet}
use Rattle.sheet_grid.specs.Book.{Book}
use Rattle.sheet_rules.specs.WellFormed.{IsWellFormed}
use Rattle.sheet_lines.specs.Followed.{book_followed}
use Rattle.sheet_ids.specs.Ids.{sheet_of}
use Rattle.sheet_lines.specs.Kept.{kept_lines}
use Rattle.sheet_history.specs.declared.diff.Diff.{Diff}
use Rattle.sheet_history.specs.declared.diff.LineAxis.{LineAxis}
use Rattle.sheet_history.specs.declared.field.SheetField.{SheetField}
use Rattle.sheet_history.specs.declared.field.SheetField.TheVariants as field_value
use Rattle.sheet_history.specs.declared.field.FieldChange.TheVariants as field_change
use Rattle.sheet_history.specs.contracts.field.SheetFieldPartialEq.TheImpl as sheet_field
use Rattle.sheet_history.specs.declared.setting.Setting.{Setting}
use Rattle.sheet_history.specs.declared.setting.Setting.TheVariants as setting_value
use Rattle.sheet_history.specs.declared.setting.SettingChange.TheVariants as setting_change
use Rattle.sheet_history.specs.contracts.setting.SettingPartialEq.TheImpl as setting
use Rattle.sheet_history.specs.declared.diff.Diff.TheVariants.{Cell as CellDiff, Link as LinkDiff, Merges as MergesDiff, Field as FieldDiff, Lines as LinesDiff, NewSheet as NewDiff, DuplicateSheet as CopyDiff, DeleteSheet as DeletionDiff, MoveSheet as MoveDiff, RenameSheet as RenameDiff, ChangeName as NameDiff, Rule as RuleDiff, Attributes as AttrDiff, Setting as SettingDiff}
use Rattle.sheet_history.specs.declared.diff.LineAxis.TheVariants.{Rows, Columns}
use Rattle.sheet_history.specs.Entries.{EntryKey, EntryValue, key_cmp, entry_at, frame_of}
use Rattle.sheet_history.specs.Entries.EntryKey.{CellKey, LinkKey, MergesKey, FieldKey, AttrKey, SettingKey}
use Rattle.sheet_history.specs.Entries.EntryValue.{CellValue, LinkValue, MergesValue, FieldValue, AttrValue, SettingValue}
use Rattle.sheet_history.specs.Fields.{all_fields, old_of, new_of, changed_field}
use Rattle.sheet_history.specs.Settings.{all_settings, old_setting, new_setting, changed_setting}
use Rattle.sheet_history.specs.LineDiffs.{along_of, is_there_inside}

-- whether two entries are equal
abbrev pub same_entry_value : EntryValue → EntryValue → Bool
same_entry_value (CellValue a) (CellValue b) = same_entry a b
same_entry_value (LinkValue a) (LinkValue b) = option_eq link.ghosts.eq a b
same_entry_value (MergesValue a) (MergesValue b) = pointwise merged.ghosts.eq a b
same_entry_value (FieldValue a) (FieldValue b) = sheet_field.ghosts.eq a b
same_entry_value (AttrValue a) (AttrValue b) = option_eq line_attr.ghosts.eq a b
same_entry_value (SettingValue a) (SettingValue b) = setting.ghosts.eq a b
same_entry_value _ _ = false

-- the entry before and after, where they differ
abbrev pub changed_entry : Option EntryValue → Option EntryValue → Option (EntryValue × EntryValue)
changed_entry (Some old) (Some new) = if same_entry_value old new then None else Some (old, new)
changed_entry _ _ = None

-- a key, and its entry before and after
abbrev pub Change : Type 0
Change = EntryKey × (EntryValue × EntryValue)

-- the change of a diff of an entry
abbrev pub change_of : Diff → Option Change
change_of (CellDiff sheet place old new) = Some (CellKey sheet place, (CellValue old, CellValue new))
change_of (LinkDiff sheet place old new) = Some (LinkKey sheet place, (LinkValue old, LinkValue new))
change_of (MergesDiff sheet old new) = Some (MergesKey sheet, (MergesValue old, MergesValue new))
change_of (FieldDiff sheet change) = Some (FieldKey sheet (changed_field change), (FieldValue (old_of change), FieldValue (new_of change)))
change_of (AttrDiff sheet axis line old new) = Some (AttrKey sheet axis line, (AttrValue old, AttrValue new))
change_of (SettingDiff change) = Some (SettingKey (changed_setting change), (SettingValue (old_setting change), SettingValue (new_setting change)))
change_of (RuleDiff sheet change) = None
change_of (LinesDiff sheet axis edit kept) = None
change_of (NewDiff sheet index name) = None
change_of (CopyDiff source sheet index name) = None
change_of (DeletionDiff index kept) = None
change_of (MoveDiff sheet from to) = None
change_of (RenameDiff sheet old new kept) = None
change_of (NameDiff change kept) = None

-- a list has, in the order of their keys, exactly the entries in which the later workbook differs from the earlier one, which
-- differ in nothing else
pub record IsRecord (earlier later : Book) (diffs : List Diff) : Type 0 where
  pub changes : List Change
  pub made_of : map change_of diffs ≡ map Some changes
  pub frame : frame_of later ≡ frame_of earlier
  pub ordered : IsTrue (fin.is_sorted key_cmp changes)
  pub exact : (key : EntryKey) → fin.find key_cmp key changes ≡ changed_entry (entry_at earlier key) (entry_at later key)

-- the diff of a field: its values are of one field
abbrev pub field_diff : ℕ → SheetField → SheetField → List Diff
field_diff sheet (field_value.State old) (field_value.State new) = FieldDiff sheet (field_change.State old new) ∷ []
field_diff sheet (field_value.Color old) (field_value.Color new) = FieldDiff sheet (field_change.Color old new) ∷ []
field_diff sheet (field_value.GridLines old) (field_value.GridLines new) = FieldDiff sheet (field_change.GridLines old new) ∷ []
field_diff sheet (field_value.FrozenRows old) (field_value.FrozenRows new) = FieldDiff sheet (field_change.FrozenRows old new) ∷ []
field_diff sheet (field_value.FrozenColumns old) (field_value.FrozenColumns new) = FieldDiff sheet (field_change.FrozenColumns old new) ∷ []
field_diff _ _ _ = []

-- the diff of a setting: its values are of one setting
abbrev pub setting_diff : Setting → Setting → List Diff
setting_diff (setting_value.Theme old) (setting_value.Theme new) = SettingDiff (setting_change.Theme old new) ∷ []
setting_diff (setting_value.Name old) (setting_value.Name new) = SettingDiff (setting_change.Name old new) ∷ []
setting_diff (setting_value.Locale old) (setting_value.Locale new) = SettingDiff (setting_change.Locale old new) ∷ []
setting_diff (setting_value.Zone old) (setting_value.Zone new) = SettingDiff (setting_change.Zone old new) ∷ []
setting_diff _ _ = []

-- the diff of a change: its values are of its key's kind
abbrev pub diff_of : EntryKey → EntryValue → EntryValue → List Diff
diff_of (CellKey sheet place) (CellValue old) (CellValue new) = CellDiff sheet place old new ∷ []
diff_of (LinkKey sheet place) (LinkValue old) (LinkValue new) = LinkDiff sheet place old new ∷ []
diff_of (MergesKey sheet) (MergesValue old) (MergesValue new) = MergesDiff sheet old new ∷ []
diff_of (FieldKey sheet field) (FieldValue old) (FieldValue new) = field_diff sheet old new
diff_of (AttrKey sheet axis line) (AttrValue old) (AttrValue new) = AttrDiff sheet axis line old new ∷ []
diff_of (SettingKey kind) (SettingValue old) (SettingValue new) = setting_diff old new
diff_of _ _ _ = []

-- the record of one entry: its change, or nothing where it stays
abbrev pub entry_record : EntryKey → EntryValue → EntryValue → List Diff
entry_record key old new = if same_entry_value old new then [] else diff_of key old new

-- the record of an edit of lines: the edit, and what the opposite edit does not give back
abbrev pub line_record : LineAxis → EditKind → ℕ → Book → List Diff
line_record axis e id book = LinesDiff id axis e (kept_lines (along_of axis) e id book) ∷ []

-- an edit of lines of a well-formed workbook: its numbers are those of one, its sheet is there, and no cell is pushed past the last line
pub record IsLineEdit (axis : LineAxis) (e : EditKind) (id : ℕ) (book : Book) : Type 0 where
  pub valid : IsValid (along_of axis).last e
  pub rules : IsWellFormed book
  pub there : IsTrue (is_there_inside (along_of axis) e (sheet_of book id))

-- what holds of each record of two well-formed workbooks: of the list, the earlier workbook and the later one
abbrev pub OfRecords : (List Diff → Book → Book → Type 0) → Type 0
OfRecords Holds = (earlier later : Book) (list : List Diff) → IsWellFormed earlier → IsWellFormed later → IsRecord earlier later list → Holds list earlier later

-- what holds of the record of each edit of lines of a well-formed workbook: of the list, the earlier workbook and the later one
abbrev pub OfLineEdits : (List Diff → Book → Book → Type 0) → Type 0
OfLineEdits Holds = (axis : LineAxis) (e : EditKind) (id : ℕ) (book : Book) → IsLineEdit axis e id book →
    Holds (line_record axis e id book) book (book_followed (along_of axis) e id book)

-- ---- the record as a function of two workbooks

-- the keys of what each sheet has once
abbrev pub single_keys : ℕ → List EntryKey
single_keys id = MergesKey id ∷ map (FieldKey id) all_fields

-- the keys of what its lines have, of its columns and of its rows
abbrev pub attr_keys : Sheet → List EntryKey
attr_keys sheet = map (AttrKey sheet.id Columns) (fin.keys sheet.columns) ++ map (AttrKey sheet.id Rows) (fin.keys sheet.rows)

-- the keys of all that a sheet has
abbrev pub sheet_keys : Sheet → List EntryKey
sheet_keys sheet = map (CellKey sheet.id) (fin.keys sheet.cells) ++ map (LinkKey sheet.id) (fin.keys sheet.links) ++ (attr_keys sheet ++ single_keys sheet.id)

-- and of all that a workbook has, its settings too
abbrev pub book_keys : Book → List EntryKey
book_keys book = map SettingKey all_settings ++ flat_map sheet_keys book.worksheets

-- the change at a key, if its entry differs
abbrev pub change_at : Book → Book → EntryKey → Option Change
change_at earlier later key = option_map (λ values. (key, values)) (changed_entry (entry_at earlier key) (entry_at later key))

-- the entries in which a later workbook differs from an earlier one, by their keys
abbrev pub changes_between : Book → Book → FinMap key_cmp (EntryValue × EntryValue)
changes_between earlier later = fin.from_entries (filter_map (change_at earlier later) (book_keys earlier ++ book_keys later))

-- a diff of each, in the order of their keys: by tag, then by sheet id, then by row, then by column
unfoldable pub record_between : Book → Book → List Diff
record_between earlier later = flat_map (λ change. diff_of change.0 change.1.0 change.1.1) (fin.entries (changes_between earlier later))
