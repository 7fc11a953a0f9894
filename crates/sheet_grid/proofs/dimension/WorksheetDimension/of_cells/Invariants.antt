use Rattle.std.proofs.Common.{◌≡◌, ◌∷◌, ◌++◌, List, map}
use Rattle.sheet_grid.specs.declared.dimension.WorksheetDimension.{WorksheetDimension}
use Rattle.sheet_grid.specs.Dimension.{IsLeastRectangle, extent_of}
use Rattle.sheet_grid.proofs.dimension.WorksheetDimension.of_cells.Given as goal

-- the rectangle is that of what the cells before those that are left take
abbrev pub invariant-loop-place : goal.invariant-loop-place
invariant-loop-place l =
    (goal.iterator-loop-place).can_next l.place-iterator ×
    (goal.iterator-loop-place).is_finite l.place-iterator ×
    ((seen : List WorksheetDimension) × (seen ++ map extent_of l.place-iterator ≡ extent_of (l.fn.place, l.fn.cell) ∷ map extent_of l.fn.rest) × IsLeastRectangle seen l.found)
