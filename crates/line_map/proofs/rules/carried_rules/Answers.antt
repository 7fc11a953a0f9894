use Rattle.std.proofs.Common.{ap, sym, subst, ◌∙◌}
use Rattle.format_rules.specs.Canonical.{AreCanonicalRules}
use Rattle.line_routes.specs.RouteModel.{route_model}
use Rattle.line_map.specs.Rules.{rules_carried, RulesInside}
use Rattle.line_map.specs.laws.RuleLaws.{rules_numbers, rules_stay}
use Rattle.line_map.proofs.rules.carried_rules.Goals as goal

pub new-requires : goal.new-requires
new-requires g c = subst AreCanonicalRules (sym c.in_ok-output.ensures.rules)
    (rules_numbers (route_model c.args.route.now) c.as_slice.result.now c.as_slice.ensures.canonical)

pub returns-clause-inside : goal.returns-clause-inside
returns-clause-inside g c =
    let w = route_model c.args.route.now in
    subst RulesInside (sym (c.new.ensures ∙ c.in_ok-output.ensures.rules ∙ ap (rules_carried w) c.as_slice.ensures.rules))
    (rules_stay w c.is_route.ensures c.args.rules.now c.requires)
