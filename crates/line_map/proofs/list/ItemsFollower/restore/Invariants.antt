use Rattle.std.proofs.Common.{◌≡◌, take}
use Rattle.line_map.specs.Lists.{items_restored}
use Rattle.line_routes.specs.RouteModel.{back, route_model}
use Rattle.line_map.proofs.list.ItemsFollower.restore.Given as goal

abbrev pub invariant-loop-i : goal.invariant-loop-i
invariant-loop-i g l = l.output ≡ items_restored (g.F.Follower.carry_of (back (route_model l.route))) (g.F.Follower.restore_of (route_model l.route)) (take l.i l.items)
    (take l.i l.parts)
