use Rattle.std.proofs.Common.{sym, subst, ◌∙◌}
use Rattle.base_values.specs.Places.{IsPlace}
use Rattle.base_axis.specs.laws.RectangleLaws.{inside_found}
use Rattle.user_model.proofs.reading.find_rule_place.Goals as goal

pub returns-then-is_inside-clause-inside : goal.returns-then-is_inside-clause-inside
returns-then-is_inside-clause-inside c = subst IsPlace (sym c.anchor_place.ensures) (inside_found c.args.area (sym c.is_inside.ensures ∙ c.if-is_inside.true)).first
