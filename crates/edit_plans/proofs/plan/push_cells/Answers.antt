use Rattle.std.proofs.Common.{◌≡◌, Option, sym, subst, rules}
use Rattle.std.specs.Prelude.{IfSome}
use Rattle.base_values.specs.Places.{position_cmp}
use Rattle.base_values.specs.laws.Places.{position_total, exact_positions}
use Rattle.sheet_grid.specs.declared.Cell.{Cell}
use Rattle.sheet_grid.specs.CanonicalCell.{IsCanonicalCell}
use Rattle.edit_plans.proofs.PlanLoops.{adds_held}
use Rattle.edit_plans.proofs.plan.push_cells.Goals as goal

pub cell_diff-diff-requires-clause-new : goal.cell_diff-diff-requires-clause-new
cell_diff-diff-requires-clause-new c =
    let held =
    adds_held position_cmp position_total exact_positions c.loop-place.invariant c.next.new.self (c.in-Some.place, c.in-Some.new) c.in-Some.is c.next.ensures.steps in
    let copy : c.in_ok-planned.planned ≡ c.in-Some.new.now = search rules in
    subst (λ (o : Option Cell). IfSome o IsCanonicalCell) (sym copy)
    (subst (λ (o : Option (Option Cell)). IfSome o (λ entry. IfSome entry IsCanonicalCell)) held (c.requires.plan c.in-Some.place.now))
