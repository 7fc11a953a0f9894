-- The fields of a sheet that are entries of its workbook.
use Rattle.std.specs.Prelude.{ℕ, pos, Bool, true, false, List, [], ◌∷◌}
use Rattle.sheet_grid.specs.Sheet.{Sheet}
use Rattle.sheet_rules.specs.WellFormed.{is_count}
use Rattle.sheet_history.specs.declared.field.SheetField.{SheetField}
use Rattle.sheet_history.specs.declared.field.SheetField.TheVariants as value
use Rattle.sheet_history.specs.declared.field.FieldChange.{FieldChange}
use Rattle.sheet_history.specs.declared.field.FieldChange.TheVariants as change

-- which field
pub data Field : Type 0 where
  -- the colour of the tab
  ColorField : Field
  -- whether the sheet is shown
  StateField : Field
  -- whether grid lines are drawn
  GridField : Field
  -- how many rows stay at the top
  FrozenRowsField : Field
  -- how many columns stay at the left
  FrozenColumnsField : Field

abbrev pub all_fields : List Field
all_fields = ColorField ∷ StateField ∷ GridField ∷ FrozenRowsField ∷ FrozenColumnsField ∷ []

-- the tag of its diffs
abbrev pub tag_of : Field → ℕ
tag_of ColorField = 13
tag_of StateField = 14
tag_of GridField = 15
tag_of FrozenRowsField = 16
tag_of FrozenColumnsField = 17

-- the field that a value is of
abbrev pub field_of : SheetField → Field
field_of (value.Color color) = ColorField
field_of (value.State state) = StateField
field_of (value.GridLines drawn) = GridField
field_of (value.FrozenRows count) = FrozenRowsField
field_of (value.FrozenColumns count) = FrozenColumnsField

abbrev pub is_of : Field → SheetField → Bool
is_of ColorField (value.Color color) = true
is_of StateField (value.State state) = true
is_of GridField (value.GridLines drawn) = true
is_of FrozenRowsField (value.FrozenRows count) = true
is_of FrozenColumnsField (value.FrozenColumns count) = true
is_of _ _ = false

-- what stands in a field
abbrev pub field_in : Field → Sheet → SheetField
field_in ColorField sheet = value.Color sheet.color
field_in StateField sheet = value.State sheet.state
field_in GridField sheet = value.GridLines sheet.show_grid_lines
field_in FrozenRowsField sheet = value.FrozenRows sheet.frozen_rows
field_in FrozenColumnsField sheet = value.FrozenColumns sheet.frozen_columns

-- the sheet with a value in a field. A value of another field changes nothing
abbrev pub with_field : Field → SheetField → Sheet → Sheet
with_field ColorField (value.Color color) sheet = record sheet { color = color }
with_field StateField (value.State state) sheet = record sheet { state = state }
with_field GridField (value.GridLines drawn) sheet = record sheet { show_grid_lines = drawn }
with_field FrozenRowsField (value.FrozenRows count) sheet = record sheet { frozen_rows = count }
with_field FrozenColumnsField (value.FrozenColumns count) sheet = record sheet { frozen_columns = count }
with_field _ _ sheet = sheet

-- a value that a sheet which keeps its rules may have: fewer lines than the sheet has are frozen
abbrev pub may_have : SheetField → Bool
may_have (value.State state) = true
may_have (value.Color color) = true
may_have (value.GridLines drawn) = true
may_have (value.FrozenRows count) = is_count (pos 1048575) count
may_have (value.FrozenColumns count) = is_count (pos 16383) count

-- ---- changes

abbrev pub old_of : FieldChange → SheetField
old_of (change.State old new) = value.State old
old_of (change.Color old new) = value.Color old
old_of (change.GridLines old new) = value.GridLines old
old_of (change.FrozenRows old new) = value.FrozenRows old
old_of (change.FrozenColumns old new) = value.FrozenColumns old

abbrev pub new_of : FieldChange → SheetField
new_of (change.State old new) = value.State new
new_of (change.Color old new) = value.Color new
new_of (change.GridLines old new) = value.GridLines new
new_of (change.FrozenRows old new) = value.FrozenRows new
new_of (change.FrozenColumns old new) = value.FrozenColumns new

abbrev pub changed_field : FieldChange → Field
changed_field one = field_of (new_of one)
