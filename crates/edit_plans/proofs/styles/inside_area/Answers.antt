use Rattle.std.proofs.Common.{sym, ◌∙◌}
use Rattle.base_axis.specs.laws.RectangleLaws.{inside_found}
use Rattle.edit_plans.proofs.styles.inside_area.Goals as goal

pub returns-then-is_inside-clause-inside : goal.returns-then-is_inside-clause-inside
returns-then-is_inside-clause-inside c = inside_found c.args.area (sym c.is_inside.ensures ∙ c.if-is_inside.true)
