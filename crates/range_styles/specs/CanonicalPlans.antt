-- Plans whose cells have canonical numbers.
use Rattle.std.specs.Prelude.{Option, IfSome}
use Rattle.std.specs.FinMap.{FinMap, get}
use Rattle.base_values.specs.declared.Position.{Position}
use Rattle.base_values.specs.Places.{position_cmp}
use Rattle.sheet_grid.specs.declared.Cell.{Cell}
use Rattle.sheet_grid.specs.CanonicalCell.{IsCanonicalCell}

-- each cell that is planned, if there is one at a place, is one that a sheet may hold
abbrev pub CanonicalCellPlan : FinMap position_cmp (Option Cell) → Type 0
CanonicalCellPlan cells = (place : Position) → IfSome (get cells place) (λ entry. IfSome entry IsCanonicalCell)
