use Rattle.std.proofs.Common.{sym, ◌∙◌}
use Rattle.formula_print.proofs.FirstPlaces.{drops_first}
use Rattle.formula_print.proofs.bound_names.drop_place.Goals as goal

pub returns-then-stands_first : goal.returns-then-stands_first
returns-then-stands_first c = drops_first c.args.places.now c.remove.new.self c.args.name.now c.args.at c.as_str.result.now c.as_str.ensures (sym c.stands_first.ensures ∙ c.if-stands_first.true) c.remove.ensures.updates
