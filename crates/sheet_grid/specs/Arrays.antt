-- Arrays: formulas whose values fill a rectangle of cells.
use Rattle.std.specs.Prelude.{Option, Some, None, List, if◌then◌else◌}
use Rattle.std.specs.List.{filter_map}
use Rattle.std.specs.FinMap as fin
use Rattle.base_values.specs.declared.Position.{Position}
use Rattle.base_axis.specs.declared.MergedCell.{MergedCell}
use Rattle.base_axis.specs.Rectangles.{has_many}
use Rattle.cell_content.specs.declared.Content.{Content}
use Rattle.cell_content.specs.declared.Content.TheVariants.{Array}
use Rattle.sheet_grid.specs.declared.cell.Cell.{Cell}
use Rattle.sheet_grid.specs.Sheet.{Sheet}

-- the rectangle that an array at a place fills, whatever its sides are; any other content fills none
abbrev pub array_at : Position → Content → Option MergedCell
array_at place (Array tree width height) = Some (record { row = place.row; column = place.column; width = width; height = height })
array_at place content = None

-- a rectangle that has more than one place
abbrev pub where_large : Option MergedCell → Option MergedCell
where_large None = None
where_large (Some r) = if has_many r then Some r else None

-- the rectangle of an array that has more than one cell
abbrev pub large_array_at : Position → Content → Option MergedCell
large_array_at place content = where_large (array_at place content)

-- the rectangles of the arrays of a sheet, by row and then by column
abbrev pub arrays_of : Sheet → List MergedCell
arrays_of sheet = filter_map (λ (entry : Position × Cell). array_at entry.0 entry.1.content) (fin.entries sheet.cells)

-- of those that have more than one cell
abbrev pub large_arrays_of : Sheet → List MergedCell
large_arrays_of sheet = filter_map (λ (entry : Position × Cell). large_array_at entry.0 entry.1.content) (fin.entries sheet.cells)
