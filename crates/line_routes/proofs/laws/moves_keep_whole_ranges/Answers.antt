use Rattle.std.proofs.Common.{refl}
use Rattle.line_routes.specs.RouteModel.{route_model}
use Rattle.line_routes.specs.laws.MoveLaws.{move_way_loses_none, references_stay, kept_ranges_become_whole}
use Rattle.line_routes.proofs.laws.moves_keep_whole_ranges.Goals as goal

pub returns-clause-references : goal.returns-clause-references
returns-clause-references g c =
    let route = c.args.route.now in
    references_stay (route_model route) c.is_route.ensures (move_way_loses_none (route_model route) route.map.now.kind c.requires route.valid refl)

pub returns-clause-ranges : goal.returns-clause-ranges
returns-clause-ranges g c =
    let route = c.args.route.now in
    kept_ranges_become_whole (route_model route) c.is_route.ensures (move_way_loses_none (route_model route) route.map.now.kind c.requires route.valid refl)
