-- The greatest line of a sheet that holds a cell, or that an array fills.
use Rattle.std.specs.Prelude.{ℤ, pos, map}
use Rattle.std.specs.Int.{int_max}
use Rattle.std.specs.List.{fold}
use Rattle.base_axis.specs.Along.{Along}
use Rattle.sheet_grid.specs.declared.WorksheetDimension.{WorksheetDimension}
use Rattle.sheet_grid.specs.Dimension.{extents_of, last_corner}
use Rattle.sheet_grid.specs.Sheet.{Sheet}

-- the greatest of the lines on which ends what a cell takes of the sheet, or 1 where there is none
unfoldable pub greatest_line : Along → Sheet → ℤ
greatest_line a sheet = fold int_max (pos 1) (map (λ (extent : WorksheetDimension). a.line (last_corner extent)) (extents_of sheet.cells))
