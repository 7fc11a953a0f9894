use Rattle.std.proofs.Common.{refl}
use Rattle.line_routes.specs.RouteModel.{route_model}
use Rattle.line_laws.specs.laws.RangeImages.{edit_holds_images, goes_by_nodes}
use Rattle.line_laws.proofs.ranges_hold_images.Goals as goal

pub returns-clause-ranges : goal.returns-clause-ranges
returns-clause-ranges g c = edit_holds_images (route_model c.args.route.now) c.is_route.ensures c.args.route.now.map.now.kind c.args.route.now.valid c.requires refl

pub returns-clause-nodes : goal.returns-clause-nodes
returns-clause-nodes g c = goes_by_nodes (route_model c.args.route.now)
