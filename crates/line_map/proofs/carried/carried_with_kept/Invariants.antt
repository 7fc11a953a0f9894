use Rattle.std.proofs.Common.{Some}
use Rattle.std.specs.Map.Iter.{deref_pair}
use Rattle.base_maps.specs.Carried.{if_lost, if_there}
use Rattle.base_maps.specs.laws.Listed.{Listed}
use Rattle.base_maps.specs.laws.Loops.{Made}
use Rattle.line_map.specs.Keys.{rekeyed}
use Rattle.line_routes.specs.RouteModel.{route_model}
use Rattle.line_map.proofs.carried.carried_with_kept.Given as goal

abbrev pub invariant-loop-from : goal.invariant-loop-from
invariant-loop-from g l =
    let w = route_model l.fn.route in
    let goes = g.K.RouteKeys.goes w in
    Listed g.K.MapKey.fits deref_pair goes (λ p q x. Some (g.F.Follower.carry_of (g.K.RouteKeys.at w p q) x))
    (g.K.MapKey.seen l.fn.map) l.yielded l.from-iterator l.output
    × (Made deref_pair Some (if_lost goes) (g.K.MapKey.seen l.fn.map) l.yielded l.from-iterator (rekeyed (g.K.Lost.MapKey.seen l.lost))
    × Made deref_pair Some (λ p _ x. if_there (goes p) (λ q. g.F.Follower.part_of (g.K.RouteKeys.at w p q) x))
    (g.K.MapKey.seen l.fn.map) l.yielded l.from-iterator (rekeyed (g.K.Parts.MapKey.seen l.parts)))
