use Rattle.std.proofs.Common.{sym, subst}
use Rattle.std.specs.FinMap.{empty}
use Rattle.sheet_grid.specs.ArrayIndex.{IsIndexed}
use Rattle.sheet_grid.proofs.Canonicals.{indexed_empty}
use Rattle.sheet_grid.proofs.cell_map.CellMap.new.Goals as goal

pub invariant_of-result : goal.invariant_of-result
invariant_of-result c = subst (IsIndexed c.new.result) (sym c.new-2.ensures) (subst (λ cells. IsIndexed cells empty) (sym c.new.ensures) indexed_empty)
