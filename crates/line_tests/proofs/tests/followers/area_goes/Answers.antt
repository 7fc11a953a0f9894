use Rattle.std.proofs.Common.{sym, ◌∙◌}
use Rattle.base_axis.specs.laws.RectangleLaws.{inside_found}
use Rattle.line_tests.proofs.tests.followers.area_goes.Goals as goal

pub goes-requires-clause-lies : goal.goes-requires-clause-lies
goes-requires-clause-lies c = inside_found c.square-area.result (sym c.is_inside.ensures ∙ c.if-is_inside.true)
