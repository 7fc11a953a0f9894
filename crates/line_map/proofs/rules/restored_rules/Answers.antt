use Rattle.std.proofs.Common.{sym, subst}
use Rattle.format_rules.specs.Canonical.{AreCanonicalRules}
use Rattle.line_routes.specs.RouteModel.{route_model}
use Rattle.line_map.specs.laws.RuleLaws.{restored_numbers}
use Rattle.line_map.proofs.rules.restored_rules.Goals as goal

pub new-requires : goal.new-requires
new-requires g c =
    subst AreCanonicalRules (sym c.in_ok-output.ensures.rules)
    (restored_numbers (route_model c.args.route.now) c.args.kept.now c.requires.numbers c.as_slice.result.now c.as_slice.ensures.canonical)
