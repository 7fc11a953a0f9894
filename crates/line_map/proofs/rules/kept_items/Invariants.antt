use Rattle.std.proofs.Common.{◌≡◌, take}
use Rattle.line_routes.specs.RouteModel.{route_model}
use Rattle.line_map.specs.Rules.{rules_kept}
use Rattle.line_map.proofs.rules.kept_items.Given as goal

abbrev pub invariant-loop-place : goal.invariant-loop-place
invariant-loop-place g l = l.kept ≡ rules_kept (route_model l.route) (take l.place l.rules)
