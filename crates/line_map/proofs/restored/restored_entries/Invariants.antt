use Rattle.std.proofs.Common.{Some}
use Rattle.std.specs.Map.Iter.{deref_pair}
use Rattle.base_maps.specs.Carried.{settled}
use Rattle.base_maps.specs.laws.Listed.{Listed}
use Rattle.line_routes.specs.RouteModel.{back, route_model}
use Rattle.line_map.proofs.restored.restored_entries.Given as goal

abbrev pub invariant-loop-to : goal.invariant-loop-to
invariant-loop-to g l =
    let w = route_model l.fn.route in
    Listed g.K.MapKey.fits deref_pair (g.K.RouteKeys.goes (back w))
    (λ q p x. Some (settled (g.F.Follower.carry_of (back (g.K.RouteKeys.at w p q))) (g.F.Follower.restore_of (g.K.RouteKeys.at w p q))
    (g.L.Parts.part_at l.fn.parts p) x))
    (g.K.MapKey.seen l.fn.map) l.yielded l.to-iterator l.output
