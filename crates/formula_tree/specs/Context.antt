-- The cell of a formula, seen as its place.
use Rattle.base_values.specs.declared.Position.{Position}
use Rattle.formula_tree.specs.declared.context.CellReferenceRC.{CellReferenceRC}

-- the place of the cell in its sheet
abbrev pub context_place : CellReferenceRC → Position
context_place context = record { row = context.row; column = context.column }
