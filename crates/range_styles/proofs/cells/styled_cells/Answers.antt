use Rattle.std.proofs.Common.{sym, subst}
use Rattle.std.proofs.lemmas.Result.{IfOk-weaker}
use Rattle.sheet_grid.specs.CanonicalCell.{CanonicalCells}
use Rattle.range_styles.specs.CanonicalPlans.{CanonicalCellPlan}
use Rattle.range_styles.specs.laws.CanonicalLaws.{styled_canonical}
use Rattle.range_styles.proofs.cells.styled_cells.Goals as goal

pub returns-clause-canonical : goal.returns-clause-canonical
returns-clause-canonical g c =
    let kept = subst CanonicalCells c.cell_map-there.ensures.map c.cell_map-there.ensures.canonical in
    IfOk-weaker c.plan_range.result _ _
    (λ cells output. subst CanonicalCellPlan (sym output) (styled_canonical c.args.sheet.now kept c.args.range (g.C.StyleChange.made_of c.args.change.now)))
    c.plan_range.ensures.output
