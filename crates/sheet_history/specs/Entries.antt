-- A workbook as a map of entries: the cells and the links of its sheets, what their rows and columns have of their own, the merges and the
-- fields of each sheet, and the settings of the workbook.
use Rattle.std.proofs.Common.{ℕ, ℤ, pos, Bool, true, false, ◌&&◌, List, [], ◌∷◌, map, Option, Some, None}
use Rattle.std.specs.Prelude.{◌==◌, is_some, not, if◌then◌else◌}
use Rattle.std.specs.Option.{option_map}
use Rattle.std.specs.List.{list_all}
use Rattle.std.specs.Ordering.{nat_cmp, int_cmp, ordering_then}
use Rattle.std.specs.declared.cmp.Ordering.{Ordering}
use Rattle.std.specs.FinMap as fin
use Rattle.base_values.specs.declared.Position.{Position}
use Rattle.base_values.specs.KeyMap.{with_entry}
use Rattle.base_values.specs.Places.{is_line, is_place}
use Rattle.base_axis.specs.declared.MergedCell.{MergedCell}
use Rattle.base_axis.specs.Rectangles.{is_inside}
use Rattle.cell_content.specs.Fitting.{fits_at}
use Rattle.base_styles.specs.declared.Color.TheVariants.{None as NoColor}
use Rattle.sheet_grid.specs.declared.Cell.{Cell}
use Rattle.sheet_grid.specs.declared.LineAttr.{LineAttr}
use Rattle.sheet_grid.specs.declared.Link.{Link}
use Rattle.sheet_grid.specs.declared.SheetState.TheVariants.{Visible}
use Rattle.sheet_grid.specs.Arrays.{array_at}
use Rattle.sheet_grid.specs.Lines.{is_plain}
use Rattle.sheet_grid.specs.Sheet.{Sheet}
use Rattle.sheet_grid.specs.Book.{Book}
use Rattle.sheet_ids.specs.Ids.{sheet_of}
pub use Rattle.book_sheets.specs.SheetDiffs.{is_inside_if_any}
use Rattle.sheet_history.specs.declared.diff.LineAxis.{LineAxis}
use Rattle.sheet_history.specs.declared.diff.LineAxis.TheVariants.{Rows, Columns}
use Rattle.sheet_history.specs.LineDiffs.{along_of}
use Rattle.sheet_history.specs.declared.field.SheetField.{SheetField}
use Rattle.sheet_history.specs.Fields.{Field, tag_of, field_in, with_field, is_of}
use Rattle.sheet_history.specs.declared.setting.Setting.{Setting}
use Rattle.sheet_history.specs.Settings.{SettingKind, setting_tag, is_of_kind, setting_in, with_kind, plain_setting, without_settings}

-- which entry of a workbook
pub data EntryKey : Type 0 where
  -- the cell at a place of the sheet of an id
  CellKey : ℕ → Position → EntryKey
  -- the link at a place of the sheet of an id
  LinkKey : ℕ → Position → EntryKey
  -- the merges of the sheet of an id
  MergesKey : ℕ → EntryKey
  -- a field of the sheet of an id
  FieldKey : ℕ → Field → EntryKey
  -- what a row or a column of the sheet of an id has of its own
  AttrKey : ℕ → LineAxis → ℤ → EntryKey
  -- a setting of the workbook
  SettingKey : SettingKind → EntryKey

-- what an entry is
pub data EntryValue : Type 0 where
  -- a cell, or none
  CellValue : Option Cell → EntryValue
  -- a link, or none
  LinkValue : Option Link → EntryValue
  -- merges, in their order
  MergesValue : List MergedCell → EntryValue
  -- what stands in a field
  FieldValue : SheetField → EntryValue
  -- what a line has of its own, or nothing
  AttrValue : Option LineAttr → EntryValue
  -- what a setting is
  SettingValue : Setting → EntryValue

-- ---- the order of keys

-- where a key stands in the order of a record: the tag of its diff, its sheet, its row and its column. A setting stands at no sheet, 0
pub record Rank : Type 0 where
  pub tag : ℕ
  pub sheet : ℕ
  pub row : ℤ
  pub column : ℤ

abbrev pub line_tag : LineAxis → ℕ
line_tag Columns = 3
line_tag Rows = 4

abbrev pub rank_of : EntryKey → Rank
rank_of (CellKey sheet place) = record { tag = 1; sheet = sheet; row = place.row; column = place.column }
rank_of (LinkKey sheet place) = record { tag = 2; sheet = sheet; row = place.row; column = place.column }
rank_of (MergesKey sheet) = record { tag = 5; sheet = sheet; row = pos 0; column = pos 0 }
rank_of (FieldKey sheet field) = record { tag = tag_of field; sheet = sheet; row = pos 0; column = pos 0 }
rank_of (AttrKey sheet axis line) = record { tag = line_tag axis; sheet = sheet; row = line; column = pos 0 }
rank_of (SettingKey kind) = record { tag = setting_tag kind; sheet = 0; row = pos 0; column = pos 0 }

-- by tag, then by sheet id, then by row, then by column. The number of a line, of columns too, stands in the place of the row
abbrev pub rank_cmp : Rank → Rank → Ordering
rank_cmp a b = ordering_then (nat_cmp a.tag b.tag) (ordering_then (nat_cmp a.sheet b.sheet) (ordering_then (int_cmp a.row b.row) (int_cmp a.column b.column)))

abbrev pub key_cmp : EntryKey → EntryKey → Ordering
key_cmp a b = rank_cmp (rank_of a) (rank_of b)

-- ---- the entries of a sheet

-- the setting that a key names, where it is one of a setting
abbrev pub setting_of : EntryKey → Option SettingKind
setting_of (SettingKey kind) = Some kind
setting_of _ = None

-- the sheet that a key names. That of a setting names none
abbrev pub sheet_id_of : EntryKey → ℕ
sheet_id_of (CellKey sheet place) = sheet
sheet_id_of (LinkKey sheet place) = sheet
sheet_id_of (MergesKey sheet) = sheet
sheet_id_of (FieldKey sheet field) = sheet
sheet_id_of (AttrKey sheet axis line) = sheet
sheet_id_of (SettingKey kind) = 0

-- what a sheet has at a key. It has no setting: a plain one stands for that
abbrev pub sheet_entry : EntryKey → Sheet → EntryValue
sheet_entry (CellKey id place) sheet = CellValue (fin.get sheet.cells place)
sheet_entry (LinkKey id place) sheet = LinkValue (fin.get sheet.links place)
sheet_entry (MergesKey id) sheet = MergesValue sheet.merges
sheet_entry (FieldKey id field) sheet = FieldValue (field_in field sheet)
sheet_entry (AttrKey id Rows line) sheet = AttrValue (fin.get sheet.rows line)
sheet_entry (AttrKey id Columns line) sheet = AttrValue (fin.get sheet.columns line)
sheet_entry (SettingKey kind) sheet = SettingValue (plain_setting kind)

-- the sheet with a value at a key. A value of another kind changes nothing, nor does a setting
abbrev pub with_sheet_entry : EntryKey → EntryValue → Sheet → Sheet
with_sheet_entry (CellKey id place) (CellValue entry) sheet = record sheet { cells = with_entry sheet.cells place entry }
with_sheet_entry (LinkKey id place) (LinkValue entry) sheet = record sheet { links = with_entry sheet.links place entry }
with_sheet_entry (MergesKey id) (MergesValue merges) sheet = record sheet { merges = merges }
with_sheet_entry (FieldKey id field) (FieldValue value) sheet = with_field field value sheet
with_sheet_entry (AttrKey id Rows line) (AttrValue entry) sheet = record sheet { rows = with_entry sheet.rows line entry }
with_sheet_entry (AttrKey id Columns line) (AttrValue entry) sheet = record sheet { columns = with_entry sheet.columns line entry }
with_sheet_entry (SettingKey kind) value sheet = sheet
with_sheet_entry _ _ sheet = sheet

-- what is put at a place, a cell or none, may stand there: a formula fits its place, and an array is inside the sheet
abbrev pub cell_stands_at : Position → Option Cell → Bool
cell_stands_at place None = true
cell_stands_at place (Some cell) = fits_at place cell.content && is_inside_if_any (array_at place cell.content)

-- what a line has of its own is something, if it is there
abbrev pub is_stored : Option LineAttr → Bool
is_stored None = true
is_stored (Some attr) = not (is_plain attr)

-- whether a value may stand at a key of a sheet: it is one of the key's kind, the place or the line is inside the sheet, a cell may stand
-- there, what a line has is something, and each merge is inside. A setting stands in no sheet
abbrev pub value_fits : EntryKey → EntryValue → Bool
value_fits (CellKey id place) (CellValue entry) = is_place place && cell_stands_at place entry
value_fits (LinkKey id place) (LinkValue entry) = is_place place
value_fits (MergesKey id) (MergesValue merges) = list_all is_inside merges
value_fits (FieldKey id field) (FieldValue value) = is_of field value
value_fits (AttrKey id axis line) (AttrValue entry) = is_line (along_of axis).last line && is_stored entry
value_fits (SettingKey kind) value = false
value_fits _ _ = false

-- ---- the entries of a workbook

-- the sheets with the first one of an id changed
abbrev pub with_changed : ℕ → (Sheet → Sheet) → List Sheet → List Sheet
with_changed id change [] = []
with_changed id change (sheet ∷ sheets) = if sheet.id == id then change sheet ∷ sheets else sheet ∷ with_changed id change sheets

-- what is found at a key: the setting that it names, else what its sheet has. There is nothing where there is no such sheet
abbrev pub entry_found : Option SettingKind → EntryKey → Book → Option EntryValue
entry_found None key book = option_map (sheet_entry key) (sheet_of book (sheet_id_of key))
entry_found (Some kind) key book = Some (SettingValue (setting_in kind book))

-- the workbook with a value of a setting. A value of another kind changes nothing
abbrev pub with_value : SettingKind → EntryValue → Book → Book
with_value kind (SettingValue value) book = with_kind kind value book
with_value kind _ book = book

-- the workbook with a value of the setting that a key names, else with the value in the sheet of the key. Where there is no such sheet, it is
-- as it was
abbrev pub entry_placed : Option SettingKind → EntryKey → EntryValue → Book → Book
entry_placed None key value book = record book { worksheets = with_changed (sheet_id_of key) (with_sheet_entry key value) book.worksheets }
entry_placed (Some kind) key value book = with_value kind value book

-- whether a value is one of a setting
abbrev pub is_value_of : SettingKind → EntryValue → Bool
is_value_of kind (SettingValue value) = is_of_kind kind value
is_value_of kind _ = false

-- whether a value is one of the setting that a key names, else whether the sheet is there and the value may stand in it
abbrev pub entry_accepted : Option SettingKind → EntryKey → EntryValue → Book → Bool
entry_accepted None key value book = is_some (sheet_of book (sheet_id_of key)) && value_fits key value
entry_accepted (Some kind) key value book = is_value_of kind value

-- the entry at a key
unfoldable pub entry_at : Book → EntryKey → Option EntryValue
entry_at book key = entry_found (setting_of key) key book

-- the workbook with a value at a key
unfoldable pub put_entry : Book → EntryKey → EntryValue → Book
put_entry book key value = entry_placed (setting_of key) key value book

-- a value can be put at a key
unfoldable pub accepts : Book → EntryKey → EntryValue → Bool
accepts book key value = entry_accepted (setting_of key) key value book

-- a sheet without its entries
abbrev pub bare_sheet : Sheet → Sheet
bare_sheet sheet =
    record sheet {
      state = Visible;
      color = NoColor;
      show_grid_lines = true;
      frozen_rows = pos 0;
      frozen_columns = pos 0;
      cells = fin.empty;
      links = fin.empty;
      rows = fin.empty;
      columns = fin.empty;
      merges = [];
    }

-- a workbook without its entries: its sheets without theirs, and its defined names
unfoldable pub frame_of : Book → Book
frame_of book = record (without_settings book) { worksheets = map bare_sheet book.worksheets }
