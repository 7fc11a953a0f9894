use Rattle.std.proofs.Common.{w32, SFits, rules, ◌∙◌}
use Rattle.std.proofs.lemmas.Int.{to_z-of_z}
use Rattle.sheet_grid.specs.Dimension.{extents_of}
use Rattle.sheet_grid.specs.laws.DimensionLaws.{dimension_ends}
use Rattle.sheet_actions.specs.GreatestLine.{greatest_line}
use Rattle.sheet_actions.proofs.plan.greatest_line.Goals as goal

pub returns : goal.returns
unfolding greatest_line
returns g c =
    let fits : SFits w32 c.line.result = search rules in
    let row_fits : SFits w32 c.dimension-dimension.result.max_row = search rules in
    let column_fits : SFits w32 c.dimension-dimension.result.max_column = search rules in
    to_z-of_z w32 c.line.result fits ∙ (simp to_z-of_z at c.line.ensures)
    ∙ dimension_ends (extents_of c.args.sheet.now.cells) c.dimension-dimension.result c.dimension-dimension.ensures.inside c.dimension-dimension.ensures.none c.dimension-dimension.ensures.least g.A.Axis.along g.met.A.Axis.lawful
