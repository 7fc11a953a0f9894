use Rattle.std.proofs.Common.{sym, subst}
use Rattle.std.proofs.lemmas.Result.{IfOk-weaker}
use Rattle.sheet_grid.specs.CanonicalCell.{CanonicalCells}
use Rattle.range_styles.specs.CanonicalPlans.{CanonicalCellPlan}
use Rattle.range_styles.specs.Clearing.{cleared_cell, place_cleared}
use Rattle.range_styles.specs.PlaceWalks.{MakesThere}
use Rattle.range_styles.specs.laws.CanonicalLaws.{cleared_canonical}
use Rattle.range_styles.specs.laws.ClearLaws.{made_there}
use Rattle.range_styles.proofs.clear.cleared_cells.Goals as goal

pub plan_there-requires-clause-there : goal.plan_there-requires-clause-there
plan_there-requires-clause-there c =
    subst (MakesThere (place_cleared c.args.clearing c.args.area c.args.sheet.now)) (sym c.cell_map-there.ensures.map)
    (made_there c.args.area (cleared_cell c.args.clearing) c.args.sheet.now.cells)

pub returns-clause-canonical : goal.returns-clause-canonical
returns-clause-canonical c =
    let kept = subst CanonicalCells c.cell_map-there.ensures.map c.cell_map-there.ensures.canonical in
    IfOk-weaker c.plan_there.result _ _
    (λ cells output. subst CanonicalCellPlan (sym output) (cleared_canonical c.args.sheet.now kept c.args.clearing c.args.area))
    c.plan_there.ensures.output
