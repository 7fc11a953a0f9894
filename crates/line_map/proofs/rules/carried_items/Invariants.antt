use Rattle.std.proofs.Common.{◌≡◌, map, take}
use Rattle.line_routes.specs.RouteModel.{route_model}
use Rattle.line_map.specs.Rules.{formatting_carried}
use Rattle.line_map.proofs.rules.carried_items.Given as goal

abbrev pub invariant-loop-formatting : goal.invariant-loop-formatting
invariant-loop-formatting g l = l.output ≡ map (formatting_carried (route_model l.route)) (take l.formatting-index l.rules)
