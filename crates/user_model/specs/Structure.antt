-- How a place stands to the arrays of its sheet.
use Rattle.std.proofs.Common.{ℕ, ℤ, pos, List, Option, Some, None, Result}
use Rattle.std.specs.List.{find, filter_map}
use Rattle.std.specs.FinMap as fin
use Rattle.base_values.specs.declared.EditError.{EditError}
use Rattle.base_values.specs.declared.Position.{Position}
use Rattle.base_values.specs.Answers.{and_then, map_ok}
use Rattle.base_values.specs.Places.{place_of}
use Rattle.base_axis.specs.declared.MergedCell.{MergedCell}
use Rattle.base_axis.specs.Rectangles.{holds}
use Rattle.cell_content.specs.declared.Content.{Content}
use Rattle.cell_content.specs.declared.Content.TheVariants.{Dynamic, Array}
use Rattle.sheet_grid.specs.declared.Cell.{Cell}
use Rattle.sheet_grid.specs.Arrays.{arrays_of}
use Rattle.sheet_grid.specs.Sheet.{Sheet}
use Rattle.sheet_grid.specs.Book.{Book, sheet_at}
use Rattle.sheet_grid.specs.declared.computed.ComputedValue.{ComputedValue}
use Rattle.sheet_grid.specs.Computed.{Values, value_at}
use Rattle.user_model.specs.declared.structure.CellArrayStructure.{CellArrayStructure}
use Rattle.user_model.specs.declared.structure.CellArrayStructure.TheVariants.{SingleCell, ArrayAnchor, ArrayChild, DynamicAnchor, DynamicChild}
use Rattle.user_model.specs.Reading.{content_in}

-- the rectangle at a place of this width and height
abbrev pub rectangle_at : Position → ℤ → ℤ → MergedCell
rectangle_at place width height = record { row = place.row; column = place.column; width = width; height = height }

-- how far a dynamic formula fills the cells from its place on: as far as its value, and one cell where it has none
abbrev pub extent_of : Position → Option ComputedValue → MergedCell
extent_of place None = rectangle_at place (pos 1) (pos 1)
extent_of place (Some value) = rectangle_at place value.width value.height

-- the rectangle that a dynamic formula at a place fills. Any other content fills none
abbrev pub dynamic_at : Values → ℕ → Position → Content → Option MergedCell
dynamic_at values id place (Dynamic tree) = Some (extent_of place (value_at id place.row place.column values))
dynamic_at values id place content = None

-- the rectangles of the dynamic formulas of a sheet, by row and then by column
abbrev pub dynamics_of : Values → Sheet → List MergedCell
dynamics_of values sheet = filter_map (λ (entry : Position × Cell). dynamic_at values sheet.id entry.0 entry.1.content) (fin.entries sheet.cells)

-- a place that belongs to the first dynamic formula that holds it
abbrev pub in_dynamic : Option MergedCell → CellArrayStructure
in_dynamic None = SingleCell
in_dynamic (Some r) = DynamicChild r.row r.column r.width r.height

-- a place that belongs to the first entered array that holds it, else to a dynamic formula
abbrev pub in_array : Option MergedCell → Option MergedCell → CellArrayStructure
in_array None dynamic = in_dynamic dynamic
in_array (Some r) dynamic = ArrayChild r.row r.column r.width r.height

-- a place with this content on it
abbrev pub structure_in : Values → Sheet → Position → Content → CellArrayStructure
structure_in values sheet place (Array tree width height) = ArrayAnchor width height
structure_in values sheet place (Dynamic tree) =
    let r = extent_of place (value_at sheet.id place.row place.column values) in
    DynamicAnchor r.width r.height
structure_in values sheet place content = in_array (find (λ r. holds r place) (arrays_of sheet)) (find (λ r. holds r place) (dynamics_of values sheet))

-- the cell at a row and a column of the sheet at an index, or the first refusal: no such sheet, the row outside, the column outside
abbrev pub structure_at : ℕ → ℤ → ℤ → Values → Book → Result CellArrayStructure EditError
structure_at index row column values book =
    and_then (sheet_at book index) (λ sheet.
    map_ok (λ place. structure_in values sheet place (content_in (fin.get sheet.cells place))) (place_of row column))
