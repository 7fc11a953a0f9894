use Rattle.line_routes.specs.RouteModel.{route_model}
use Rattle.line_routes.specs.laws.TreeLaws.{tree_placed}
use Rattle.line_routes.proofs.laws.followed_is_placed.Goals as goal

pub returns : goal.returns
returns g c = tree_placed (route_model c.args.route.now) c.is_route.ensures c.args.tree.now
