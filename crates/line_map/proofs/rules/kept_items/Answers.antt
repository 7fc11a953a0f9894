use Rattle.std.proofs.Common.{◌<◌, length, take, ap, sym, ◌∙◌, arith}
use Rattle.base_maps.specs.laws.Gathering.{with_made}
use Rattle.line_routes.specs.RouteModel.{route_model}
use Rattle.base_maps.specs.ByIndex.{kept_at}
use Rattle.line_map.specs.Rules.{formatting_part, rules_kept}
use Rattle.base_maps.specs.laws.ByIndexLaws.{kept_more}
use Rattle.line_map.proofs.rules.kept_items.Goals as goal

pub loop-place-preserved : goal.loop-place-preserved
loop-place-preserved g c =
    let part = formatting_part (route_model c.args.route.now) in
    let rules = c.args.rules.now in
    let i = c.loop-place.place in
    let rule = c.index-rules-place.result in
    let within : i < length rules = omega arith in
    c.in_ok-keep_formatting.ensures.kept
    ∙ ap (with_made (kept_at part (i, rule))) c.loop-place.invariant
    ∙ ap (λ other. with_made (kept_at part (i, other)) (rules_kept (route_model c.args.route.now) (take i rules))) c.index-rules-place.is
    ∙ sym (kept_more part rules i rule within)
