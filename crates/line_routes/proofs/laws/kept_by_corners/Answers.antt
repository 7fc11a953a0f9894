use Rattle.line_routes.specs.RouteModel.{route_model}
use Rattle.line_routes.specs.laws.MustKeepLaws.{kept_exactly, part_by_corners}
use Rattle.line_routes.proofs.laws.kept_by_corners.Goals as goal

pub returns-clause-exact : goal.returns-clause-exact
returns-clause-exact g c = kept_exactly (route_model c.args.route.now) c.is_route.ensures c.args.tree.now c.requires

pub returns-clause-part : goal.returns-clause-part
returns-clause-part g c = part_by_corners (route_model c.args.route.now) c.is_route.ensures c.args.tree.now c.requires
