use Rattle.std.proofs.Common.{◌≡◌, take}
use Rattle.line_routes.specs.RouteModel.{route_model}
use Rattle.line_map.specs.Rules.{rules_restored}
use Rattle.line_map.proofs.rules.restored_items.Given as goal

abbrev pub invariant-loop-place : goal.invariant-loop-place
invariant-loop-place g l = l.output ≡ rules_restored (route_model l.route) l.kept (take l.place l.rules)
