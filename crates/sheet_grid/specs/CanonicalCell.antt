-- Which cells a sheet may hold.
use Rattle.std.specs.Prelude.{IfSome}
use Rattle.std.specs.FinMap as fin
use Rattle.std.specs.FinMap.{FinMap}
use Rattle.base_values.specs.declared.Position.{Position}
use Rattle.base_values.specs.Places.{position_cmp}
use Rattle.cell_content.specs.CanonicalContent.{IsCanonicalContent}
use Rattle.sheet_grid.specs.declared.cell.Cell.{Cell}

-- the numbers of its content are canonical
abbrev pub IsCanonicalCell : Cell → Type 0
IsCanonicalCell cell = IsCanonicalContent cell.content

-- every number of a map of cells is so
abbrev pub CanonicalCells : FinMap position_cmp Cell → Type 0
CanonicalCells cells = (place : Position) → IfSome (fin.get cells place) IsCanonicalCell
