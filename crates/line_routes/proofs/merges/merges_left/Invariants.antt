use Rattle.std.proofs.Common.{◌≡◌, take}
use Rattle.std.specs.List.{filter_map}
use Rattle.line_routes.specs.Merges.{merge_carried}
use Rattle.line_routes.specs.RouteModel.{route_model}
use Rattle.line_routes.proofs.merges.merges_left.Given as goal

abbrev pub invariant-loop-merge : goal.invariant-loop-merge
invariant-loop-merge g l = l.output ≡ filter_map (merge_carried (route_model l.route)) (take l.merge-index l.merges)
