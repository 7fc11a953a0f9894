-- The arrays of a sheet by their places.
use Rattle.std.specs.Prelude.{Option}
use Rattle.std.specs.Option.{option_and_then}
use Rattle.std.specs.FinMap.{get}
use Rattle.base_values.specs.declared.Position.{Position}
use Rattle.base_axis.specs.declared.MergedCell.{MergedCell}
use Rattle.sheet_grid.specs.Arrays.{array_at, large_array_at}
use Rattle.sheet_grid.specs.Sheet.{Sheet}

-- the array that stands at a place
abbrev pub array_in : Sheet → Position → Option MergedCell
array_in sheet place = option_and_then (λ cell. array_at place cell.content) (get sheet.cells place)

-- the array of more than one cell that does
abbrev pub large_array_in : Sheet → Position → Option MergedCell
large_array_in sheet place = option_and_then (λ cell. large_array_at place cell.content) (get sheet.cells place)
