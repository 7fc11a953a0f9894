-- The laws of the fields of a sheet.
use Rattle.std.proofs.Common.{◌≡◌, pos, true, false, refl, ap}
use Rattle.base_styles.specs.declared.Color.TheVariants.{None as NoColor}
use Rattle.sheet_grid.specs.declared.SheetState.TheVariants.{Visible}
use Rattle.sheet_grid.specs.Sheet.{Sheet}
use Rattle.sheet_history.specs.declared.field.SheetField.{SheetField}
use Rattle.sheet_history.specs.declared.field.SheetField.TheVariants as value
use Rattle.sheet_history.specs.Fields.{Field, field_of, is_of, field_in, with_field}
use Rattle.sheet_history.specs.Fields.Field.{ColorField, StateField, GridField, FrozenRowsField, FrozenColumnsField}

-- a value is of its field
pub own_field : (v : SheetField) → is_of (field_of v) v ≡ true
own_field (value.Color color) = refl
own_field (value.State state) = refl
own_field (value.GridLines drawn) = refl
own_field (value.FrozenRows count) = refl
own_field (value.FrozenColumns count) = refl

-- what a sheet has in a field is of it
pub field_is_of : (field : Field) (sheet : Sheet) → is_of field (field_in field sheet) ≡ true
field_is_of ColorField sheet = refl
field_is_of StateField sheet = refl
field_is_of GridField sheet = refl
field_is_of FrozenRowsField sheet = refl
field_is_of FrozenColumnsField sheet = refl

-- what stands in the fields of a new sheet: no colour, visible, with grid lines, nothing frozen
abbrev pub plain_field : Field → SheetField
plain_field ColorField = value.Color NoColor
plain_field StateField = value.State Visible
plain_field GridField = value.GridLines true
plain_field FrozenRowsField = value.FrozenRows (pos 0)
plain_field FrozenColumnsField = value.FrozenColumns (pos 0)

-- each is of its field
pub plain_is_of : (field : Field) → is_of field (plain_field field) ≡ true
plain_is_of ColorField = refl
plain_is_of StateField = refl
plain_is_of GridField = refl
plain_is_of FrozenRowsField = refl
plain_is_of FrozenColumnsField = refl

-- what was put is got
pub field_in-with_field : (field : Field) (v : SheetField) (sheet : Sheet) → is_of field v ≡ true → field_in field (with_field field v sheet) ≡ v
field_in-with_field ColorField (value.Color color) sheet h = refl
field_in-with_field StateField (value.State state) sheet h = refl
field_in-with_field GridField (value.GridLines drawn) sheet h = refl
field_in-with_field FrozenRowsField (value.FrozenRows count) sheet h = refl
field_in-with_field FrozenColumnsField (value.FrozenColumns count) sheet h = refl
field_in-with_field _ _ sheet h = absurd (let never : false ≡ true = h in cc)

-- the fields of sheets that differ in no field
pub fields_stay : (field : Field) (s t : Sheet) → s.state ≡ t.state → s.color ≡ t.color → s.show_grid_lines ≡ t.show_grid_lines → s.frozen_rows ≡ t.frozen_rows
    → s.frozen_columns ≡ t.frozen_columns → field_in field s ≡ field_in field t
fields_stay ColorField s t states colors grids rows columns = ap value.Color colors
fields_stay StateField s t states colors grids rows columns = ap value.State states
fields_stay GridField s t states colors grids rows columns = ap value.GridLines grids
fields_stay FrozenRowsField s t states colors grids rows columns = ap value.FrozenRows rows
fields_stay FrozenColumnsField s t states colors grids rows columns = ap value.FrozenColumns columns
