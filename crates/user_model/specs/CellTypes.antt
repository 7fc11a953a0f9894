-- What kind of value a cell has.
use Rattle.std.proofs.Common.{ℕ, ℤ, Option, Some, None, Result}
use Rattle.std.specs.FinMap as fin
use Rattle.base_values.specs.declared.EditError.{EditError}
use Rattle.base_values.specs.Answers.{and_then, map_ok}
use Rattle.base_values.specs.Places.{place_of}
use Rattle.cell_content.specs.declared.Content.{Content}
use Rattle.cell_content.specs.declared.Content.TheVariants as content
use Rattle.sheet_grid.specs.declared.computed.ComputedValue.{ComputedValue}
use Rattle.sheet_grid.specs.Book.{Book, sheet_at}
use Rattle.sheet_grid.specs.Computed.{Values, value_at}
use Rattle.user_model.specs.declared.cell_type.CellType.{CellType}
use Rattle.user_model.specs.declared.cell_type.CellType.TheVariants.{Number, Text, LogicalValue, ErrorValue}
use Rattle.user_model.specs.Reading.{content_in}

-- no content and a formula count as a number
abbrev pub type_of : Content → CellType
type_of (content.Text text) = Text
type_of (content.Boolean value) = LogicalValue
type_of (content.Error error) = ErrorValue
type_of other = Number

-- that of the computed value, else of the content
abbrev pub shown_type : Option ComputedValue → Content → CellType
shown_type (Some value) own = type_of value.content
shown_type None own = type_of own

-- of the cell at a row and a column of the sheet at an index, or the first refusal: no such sheet, the row outside, the column outside
abbrev pub type_at : ℕ → ℤ → ℤ → Values → Book → Result CellType EditError
type_at index row column values book =
    and_then (sheet_at book index) (λ sheet.
    map_ok (λ place. shown_type (value_at sheet.id place.row place.column values) (content_in (fin.get sheet.cells place))) (place_of row column))
