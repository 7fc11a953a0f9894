-- The arrays among the cells of a sheet, by the places where they stand.
use Rattle.std.proofs.Common.{◌≡◌, Option, Some}
use Rattle.std.specs.FinMap.{FinMap}
use Rattle.base_values.specs.declared.Position.{Position}
use Rattle.base_values.specs.Places.{position_cmp}
use Rattle.base_axis.specs.declared.MergedCell.{MergedCell}
use Rattle.base_maps.specs.Carried.{gathered, if_there}
use Rattle.sheet_grid.specs.declared.cell.Cell.{Cell}
use Rattle.sheet_grid.specs.Arrays.{large_array_at}
use Rattle.sheet_grid.specs.CanonicalCell.{CanonicalCells}

-- the rectangle of the array of more than one cell that an entry of a place is, if it is one
abbrev pub large_array_of : Position → Option Cell → Option MergedCell
large_array_of place entry = if_there entry (λ cell. large_array_at place cell.content)

-- the rectangles of such arrays among cells, each at the place where its array stands
abbrev pub arrays_by_place : FinMap position_cmp Cell → FinMap position_cmp MergedCell
arrays_by_place cells = gathered Some Some (λ _ place cell. large_array_at place cell.content) cells

-- cells whose numbers are canonical, and exactly the rectangles of the arrays of more than one cell among them
pub record IsIndexed (cells : FinMap position_cmp Cell) (arrays : FinMap position_cmp MergedCell) : Type 0 where
  pub canonical : CanonicalCells cells
  pub index : arrays ≡ arrays_by_place cells
