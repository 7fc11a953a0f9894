use Rattle.line_routes.specs.RouteModel.{route_model}
use Rattle.line_map.specs.laws.FollowLaws.{formatting_follows, formatting_elsewhere}
use Rattle.line_map.specs.laws.RuleLaws.{rules_regained}
use Rattle.line_map.proofs.rule_laws.rules_follow.Goals as goal

pub returns-clause-edited : goal.returns-clause-edited
returns-clause-edited g c = formatting_follows (route_model c.args.route.now)

pub returns-clause-others : goal.returns-clause-others
returns-clause-others g c = formatting_elsewhere (route_model c.args.route.now)

pub returns-clause-regained : goal.returns-clause-regained
returns-clause-regained g c = rules_regained (route_model c.args.route.now)
