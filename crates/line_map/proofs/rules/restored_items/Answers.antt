use Rattle.std.proofs.Common.{[], ◌∷◌, ◌++◌, ◌<◌, length, map, take, ap, sym, ◌∙◌, arith}
use Rattle.std.specs.List.{enumerate_from}
use Rattle.std.specs.FinMap.{get}
use Rattle.std.proofs.lemmas.List.{map-append}
use Rattle.format_rules.specs.declared.ConditionalFormatting.{ConditionalFormatting}
use Rattle.line_routes.specs.RouteModel.{back, route_model}
use Rattle.base_maps.specs.ByIndex.{restored_at}
use Rattle.line_map.specs.Rules.{formatting_carried}
use Rattle.base_maps.specs.laws.ByIndexLaws.{numbered_more}
use Rattle.line_map.proofs.rules.restored_items.Goals as goal

pub loop-place-preserved : goal.loop-place-preserved
loop-place-preserved g c =
    let rules = c.args.rules.now in
    let i = c.loop-place.place in
    let rule = c.index-rules-place.result in
    let restored = restored_at (formatting_carried (back (route_model c.args.route.now))) (λ _ (own : ConditionalFormatting). own) (get c.args.kept.now) in
    let within : i < length rules = omega arith in
    c.in_ok-push.ensures.ok
    ∙ (λ j. c.loop-place.invariant j ++ c.in_ok-restored_formatting.ensures.value j ∷ [])
    ∙ ap (λ other. map restored (enumerate_from 0 (take i rules)) ++ restored (i, other) ∷ []) c.index-rules-place.is
    ∙ sym (ap (map restored) (numbered_more rules i rule within) ∙ map-append restored (enumerate_from 0 (take i rules)) _)
