use Rattle.std.proofs.Common.{ap, ◌∙◌}
use Rattle.base_values.specs.laws.Places.{position_total, exact_positions}
use Rattle.base_maps.specs.Carried.{moved_map, overlaid}
use Rattle.line_map.specs.laws.UnderLaws.{rekeyed_own}
use Rattle.line_map.specs.Maps.{lost_along}
use Rattle.line_routes.specs.RouteModel.{back, place_goes, route_model}
use Rattle.sheet_lines.proofs.parts.LinksSheetPart.restore.Goals as goal

pub returns-clause-entries : goal.returns-clause-entries
returns-clause-entries g c =
    let w = route_model c.args.on.now.route in
    λ i. record c.args.entries {
      links = (c.in_ok-links.ensures.map ∙ ap (λ l. overlaid l (moved_map (place_goes (back w)) (place_goes w) c.link_map-links.result.now)) (rekeyed_own position_total exact_positions _)
          ∙ (λ j. overlaid (lost_along w.is_edited c.args.kept.now.links) (moved_map (place_goes (back w)) (place_goes w) (c.link_map-links.ensures j)))) i;
    }
