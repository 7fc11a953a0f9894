use Rattle.std.proofs.Common.{sym, ◌∙◌}
use Rattle.base_values.specs.laws.Places.{position_total, exact_positions}
use Rattle.base_maps.specs.Carried.{lost_map}
use Rattle.line_map.specs.laws.UnderLaws.{rekeyed_own}
use Rattle.line_routes.specs.RouteModel.{place_goes, route_model}
use Rattle.sheet_lines.specs.laws.Stays.{lost_places}
use Rattle.sheet_lines.proofs.parts.LinksSheetPart.carry_with_kept.Goals as goal

pub returns-clause-kept : goal.returns-clause-kept
returns-clause-kept g c =
    let w = route_model c.args.on.now.route in
    λ i. record c.args.so_far.kept {
      links = (sym (rekeyed_own position_total exact_positions _) ∙ c.in_ok-links.ensures.lost
          ∙ (λ j. lost_map (place_goes w) (c.link_map.ensures j)) ∙ lost_places w c.requires.edited c.args.on.now.sheet.now.links) i;
    }
