use Rattle.std.proofs.Common.{◌≡◌, ◌++◌, [], ap, sym, subst, ◌∙◌, arith}
use Rattle.std.specs.List.{cons_option, filter_map}
use Rattle.std.proofs.lemmas.List.{take_all}
use Rattle.line_routes.specs.Merges.{merge_carried, MergesInside}
use Rattle.line_routes.specs.RouteModel.{route_model}
use Rattle.base_maps.specs.laws.Lists.{one_left}
use Rattle.line_routes.specs.laws.MergeLaws.{left_stay}
use Rattle.line_routes.proofs.merges.merges_left.Goals as goal

pub loop-merge-preserved : goal.loop-merge-preserved
loop-merge-preserved g c =
    c.in_ok-put_last.ensures.items
    ∙ (λ i. c.loop-merge.invariant i ++ cons_option (c.carried_merge.ensures i) [])
    ∙ sym (one_left (merge_carried (route_model c.args.route.now)) c.args.merges.now c.loop-merge.merge-index _ (omega arith))

pub returns-clause-inside : goal.returns-clause-inside
returns-clause-inside g c =
    let w = route_model c.args.route.now in
    let all : c.new.result ≡ filter_map (merge_carried w) c.args.merges.now =
    c.new.ensures ∙ c.loop-merge.invariant ∙ ap (filter_map (merge_carried w)) (take_all c.loop-merge.merge-index c.args.merges.now c.loop-merge-test.false) in
    subst MergesInside (sym all) (left_stay w c.is_route.ensures c.args.merges.now c.requires)
