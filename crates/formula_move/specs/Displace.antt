-- A formula whose references are displaced while it stays in its cell.
use Rattle.std.specs.Prelude.{ℕ, ℤ, pos, Bool, true, false, not, ◌&&◌, ◌||◌, if◌then◌else◌, List, Option, Some, None}
use Rattle.std.specs.Ordering.{int_eq}
use Rattle.base_values.specs.declared.Position.{Position}
use Rattle.base_tables.specs.declared.Language.{Language}
use Rattle.base_tables.specs.declared.Locale.{Locale}
use Rattle.formula_tree.specs.declared.CellReferenceRC.{CellReferenceRC}
use Rattle.formula_tree.specs.declared.Corner.{Corner}
use Rattle.formula_tree.specs.declared.Node.{Node}
use Rattle.formula_tree.specs.Corners.{number_at, corner_row, corner_column, is_whole_rows, is_whole_columns}
use Rattle.formula_tree.specs.OnSheet.{is_on_sheet}
use Rattle.formula_tree.specs.Moved.{Mapping, moved}
use Rattle.formula_print.specs.Forms.{localized_text}
use Rattle.formula_tree.specs.Context.{context_place}
use Rattle.formula_move.specs.declared.displace_data.DisplaceData.{DisplaceData}
use Rattle.formula_move.specs.declared.displace_data.DisplaceData.TheVariants as kind
use Rattle.formula_move.specs.Lines.{shifted, stepped}

-- the corner that stands on that row, with its marks and on its column
abbrev pub on_row : Position → Corner → ℤ → Corner
on_row place corner row = record {
  absolute_row = corner.absolute_row;
  row = number_at corner.absolute_row place.row row;
  absolute_column = corner.absolute_column;
  column = corner.column;
}

-- the corner that stands on that column, with its marks and on its row
abbrev pub on_column : Position → Corner → ℤ → Corner
on_column place corner column = record {
  absolute_row = corner.absolute_row;
  row = corner.row;
  absolute_column = corner.absolute_column;
  column = number_at corner.absolute_column place.column column;
}

-- a corner goes to the image of its row, along the rows, or to that of its column. It is lost where there is none
abbrev pub to_row : Position → Corner → Option ℤ → Option Corner
to_row place corner None = None
to_row place corner (Some row) = Some (on_row place corner row)

abbrev pub to_column : Position → Corner → Option ℤ → Option Corner
to_column place corner None = None
to_column place corner (Some column) = Some (on_column place corner column)

-- the rows of the sheet from `row` on go on by `delta`
abbrev pub row_shifted : ℤ → ℤ → Position → Corner → Option Corner
row_shifted row delta place corner = to_row place corner (shifted (pos 1048576) row delta (corner_row place corner))

abbrev pub column_shifted : ℤ → ℤ → Position → Corner → Option Corner
column_shifted column delta place corner = to_column place corner (shifted (pos 16384) column delta (corner_column place corner))

-- one row moves by `delta`
abbrev pub row_stepped : ℤ → ℤ → Position → Corner → Option Corner
row_stepped row delta place corner = to_row place corner (stepped (pos 1048576) row delta (corner_row place corner))

abbrev pub column_stepped : ℤ → ℤ → Position → Corner → Option Corner
column_stepped column delta place corner = to_column place corner (stepped (pos 16384) column delta (corner_column place corner))

-- where an exposed corner goes, wherever it stands: along the displaced axis to the image of its line
unfoldable pub image_of : DisplaceData → Position → Corner → Option Corner
image_of (kind.Column sheet column delta) place corner = column_shifted column delta place corner
image_of (kind.Row sheet row delta) place corner = row_shifted row delta place corner
image_of (kind.CellHorizontal sheet row column delta) place corner =
    if int_eq (corner_row place corner) row then column_shifted column delta place corner else Some corner
image_of (kind.CellVertical sheet row column delta) place corner =
    if int_eq (corner_column place corner) column then row_shifted row delta place corner else Some corner
image_of (kind.RowMove sheet row delta) place corner = row_stepped row delta place corner
image_of (kind.ColumnMove sheet column delta) place corner = column_stepped column delta place corner
image_of kind.None place corner = Some corner

-- a node with this sheet name, in a formula of the sheet `own`, stands on the displaced sheet
unfoldable pub is_reached : List ℕ → DisplaceData → Option (List ℕ) → Bool
is_reached own (kind.Column sheet column delta) name = is_on_sheet own sheet.now name
is_reached own (kind.Row sheet row delta) name = is_on_sheet own sheet.now name
is_reached own (kind.CellHorizontal sheet row column delta) name = is_on_sheet own sheet.now name
is_reached own (kind.CellVertical sheet row column delta) name = is_on_sheet own sheet.now name
is_reached own (kind.RowMove sheet row delta) name = is_on_sheet own sheet.now name
is_reached own (kind.ColumnMove sheet column delta) name = is_on_sheet own sheet.now name
is_reached own kind.None name = false

-- a range stays that takes all rows, or all columns: along the axis that is displaced, and with single cells along either
unfoldable pub is_spared : DisplaceData → Bool → Bool → Bool
is_spared (kind.Column sheet column delta) rows columns = columns
is_spared (kind.Row sheet row delta) rows columns = rows
is_spared (kind.CellHorizontal sheet row column delta) rows columns = rows || columns
is_spared (kind.CellVertical sheet row column delta) rows columns = rows || columns
is_spared (kind.RowMove sheet row delta) rows columns = rows
is_spared (kind.ColumnMove sheet column delta) rows columns = columns
is_spared kind.None rows columns = true

-- an exposed corner goes to its image, and any other stays
abbrev pub displaced_corner : Position → DisplaceData → Bool → Corner → Option Corner
displaced_corner place displacement exposed corner = if exposed then image_of displacement place corner else Some corner

-- a range is exposed where it stands on the displaced sheet and isn't spared
unfoldable pub is_exposed : List ℕ → DisplaceData → Option (List ℕ) → Corner → Corner → Bool
is_exposed own displacement sheet first second =
    is_reached own displacement sheet && not (is_spared displacement (is_whole_rows first second) (is_whole_columns first second))

-- where the corners of a formula of the sheet `own` go that stands at a place
abbrev pub displacing : List ℕ → Position → DisplaceData → Mapping
displacing own place displacement = record {
  reference = λ sheet corner. displaced_corner place displacement (is_reached own displacement sheet) corner;
  first = λ sheet first second. displaced_corner place displacement (is_exposed own displacement sheet first second) first;
  second = λ sheet first second. displaced_corner place displacement (is_exposed own displacement sheet first second) second;
}

-- the tree of a formula in its cell after a displacement
unfoldable pub displaced : CellReferenceRC → DisplaceData → Node → Node
displaced context displacement = moved (context_place context) (displacing context.sheet (context_place context) displacement)

-- its text in a locale and a language
unfoldable pub displaced_text : CellReferenceRC → DisplaceData → Locale → Language → Node → List ℕ
displaced_text context displacement locale language tree = localized_text (context_place context) locale language (displaced context displacement tree)
