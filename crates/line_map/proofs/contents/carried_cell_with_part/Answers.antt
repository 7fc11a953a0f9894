use Rattle.std.proofs.Common.{rules, ◌≡◌, ap, sym, ◌∙◌}
use Rattle.base_maps.specs.Carried.{if_there}
use Rattle.line_routes.specs.Trees.{tree_carried, tree_part}
use Rattle.line_routes.specs.RouteModel.{route_model}
use Rattle.line_routes.specs.laws.MustKeepLaws.{still_has_no_part}
use Rattle.line_map.proofs.contents.carried_cell_with_part.Goals as goal

pub returns-then-stays-clause-part : goal.returns-then-stays-clause-part
returns-then-stays-clause-part g c =
    let w = route_model c.args.route.now in
    let tree = c.args.tree.now in
    let still : tree_carried w tree ≡ tree = search rules in
    sym (ap (λ o. if_there o (tree_part w)) c.requires.tree ∙ still_has_no_part w c.is_route.ensures tree c.requires.lies still)
