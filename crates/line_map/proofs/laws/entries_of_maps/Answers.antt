use Rattle.line_routes.specs.RouteModel.{back, route_model}
use Rattle.base_maps.specs.laws.Gathering.{get-lost_map}
use Rattle.base_maps.specs.laws.CarriedLaws.{get-carried_map, get-parts_map}
use Rattle.line_map.proofs.laws.entries_of_maps.Goals as goal

pub returns-clause-carried : goal.returns-clause-carried
returns-clause-carried g c =
    let w = route_model c.args.route.now in
    let keys = g.met.K.RouteKeys.are_keys in
    get-carried_map g.K.MapKey.order keys.total keys.exact (g.K.RouteKeys.goes w) (g.K.RouteKeys.goes (back w)) (keys.inverse w c.is_route.ensures)
    (λ p q x. g.F.Follower.carry_of (g.K.RouteKeys.at w p q) x) (g.K.MapKey.seen c.args.map.now)

pub returns-clause-lost : goal.returns-clause-lost
returns-clause-lost g c =
    let keys = g.met.K.RouteKeys.are_keys in
    get-lost_map g.K.MapKey.order keys.total keys.exact (g.K.RouteKeys.goes (route_model c.args.route.now)) (g.K.MapKey.seen c.args.map.now)

pub returns-clause-parts : goal.returns-clause-parts
returns-clause-parts g c =
    let w = route_model c.args.route.now in
    let keys = g.met.K.RouteKeys.are_keys in
    get-parts_map g.K.MapKey.order keys.total keys.exact (g.K.RouteKeys.goes w) (λ p q x. g.F.Follower.part_of (g.K.RouteKeys.at w p q) x)
    (g.K.MapKey.seen c.args.map.now)
