use Rattle.std.proofs.Common.{ap, sym, ◌∙◌}
use Rattle.base_maps.specs.Carried.{overlaid}
use Rattle.base_maps.specs.laws.Gathering.{nothing_overlaid}
use Rattle.line_map.specs.Keys.{rekeyed}
use Rattle.line_map.specs.Maps.{entries_restored, lost_along}
use Rattle.line_map.specs.laws.UnderLaws.{rekeyed_none}
use Rattle.line_routes.specs.RouteModel.{route_model}
use Rattle.line_map.proofs.restored.restored_map.Goals as goal

pub returns-else-along-clause-map : goal.returns-else-along-clause-map
returns-else-along-clause-map g c =
    let keys = g.met.K.RouteKeys.are_keys in
    let restored = entries_restored g.K.RouteKeys.goes g.K.RouteKeys.at g.F.Follower.carry_of g.F.Follower.restore_of (route_model c.args.route.now)
    (g.L.Parts.part_at c.args.parts.now) (g.K.MapKey.seen c.args.map.now) in
    c.in_ok-output.ensures.map
    ∙ sym (nothing_overlaid g.K.MapKey.order keys.total keys.exact restored)
    ∙ ap (λ none. overlaid none restored) (sym (rekeyed_none keys.total keys.exact g.met.K.MapKey.ordered g.met.K.Lost.MapKey.ordered))
    ∙ ap (λ along. overlaid (rekeyed (lost_along along (g.K.Lost.MapKey.seen c.args.lost.now))) restored) (sym c.if-along.false)

pub laid_over-requires : goal.laid_over-requires
laid_over-requires g c = c.requires.inside c.if-along.true
