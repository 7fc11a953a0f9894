use Rattle.std.proofs.Common.{sym, subst}
use Rattle.std.proofs.lemmas.Result.{IfOk-weaker}
use Rattle.line_routes.specs.RouteModel.{route_model}
use Rattle.line_map.specs.Canonical.{AreCanonicalKept}
use Rattle.line_map.specs.laws.RuleLaws.{kept_numbers}
use Rattle.line_map.proofs.rules.kept_rules.Goals as goal

pub returns-clause-numbers : goal.returns-clause-numbers
returns-clause-numbers g c =
    IfOk-weaker c.kept_items.result _ _
    (λ kept is. subst AreCanonicalKept (sym is) (kept_numbers (route_model c.args.route.now) c.as_slice.result.now c.as_slice.ensures.canonical)) c.kept_items.ensures.kept
