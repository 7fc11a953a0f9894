use Rattle.std.proofs.Common.{Some}
use Rattle.std.specs.Map.Iter.{deref_pair}
use Rattle.line_routes.specs.RouteModel.{route_model}
use Rattle.base_maps.specs.laws.Listed.{Listed}
use Rattle.line_map.proofs.carried.carried_map.Given as goal

abbrev pub invariant-loop-from : goal.invariant-loop-from
invariant-loop-from g l =
    let w = route_model l.fn.route in
    Listed g.K.MapKey.fits deref_pair (g.K.RouteKeys.goes w) (λ p q x. Some (g.F.Follower.carry_of (g.K.RouteKeys.at w p q) x))
    (g.K.MapKey.seen l.fn.map) l.yielded l.from-iterator l.output
