use Rattle.std.proofs.Common.{ap, sym, subst, ◌∙◌}
use Rattle.format_rules.specs.RuleTrees.{HasTrees}
use Rattle.line_routes.specs.Trees.{TreeInside}
use Rattle.line_routes.specs.RouteModel.{RouteModel, route_model}
use Rattle.line_map.specs.Rules.{route_of_trees}
use Rattle.line_map.specs.laws.RuleLaws.{trees_are_inside}
use Rattle.line_map.proofs.formatting.moved_formatting.Goals as goal

pub change_trees-requires : goal.change_trees-requires
change_trees-requires g c =
    let w = route_model c.args.route.now in
    let formatting = c.args.formatting.now in
    let InsideOn : RouteModel → Type 0 = λ v. HasTrees (TreeInside v) formatting.rule in
    subst InsideOn (sym (c.in_ok-there.ensures.route ∙ ap (route_of_trees w) c.as_slice.ensures.items)) (trees_are_inside w formatting.parts formatting.rule c.requires)
