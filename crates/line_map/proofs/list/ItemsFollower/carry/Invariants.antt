use Rattle.std.proofs.Common.{◌≡◌, map, take}
use Rattle.line_routes.specs.RouteModel.{route_model}
use Rattle.line_map.proofs.list.ItemsFollower.carry.Given as goal

abbrev pub invariant-loop-item : goal.invariant-loop-item
invariant-loop-item g l = l.output ≡ map (g.F.Follower.carry_of (route_model l.route)) (take l.item-index l.self)
