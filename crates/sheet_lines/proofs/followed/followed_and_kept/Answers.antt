use Rattle.base_values.specs.laws.Places.{position_total, exact_positions}
use Rattle.line_map.specs.Contents.{cell_part}
use Rattle.line_map.specs.Maps.{places_parts}
use Rattle.line_map.specs.laws.UnderLaws.{rekeyed_own}
use Rattle.sheet_grid.specs.CanonicalCell.{IsCanonicalCell, CanonicalCells}
use Rattle.sheet_lines.specs.Back.{AreCanonicalFormulas}
use Rattle.std.proofs.Common.{true, false, ap, subst, sym, ◌∙◌}
use Rattle.std.specs.Prelude.{IfSome}
use Rattle.std.specs.Bool.{then_some}
use Rattle.sheet_lines.specs.Followed.{route_on}
use Rattle.sheet_lines.specs.Kept.{kept_of}
use Rattle.sheet_lines.specs.Workbooks.{LinesFit}
use Rattle.base_maps.specs.Carried.{lost_map}
use Rattle.line_routes.specs.RouteModel.{place_goes, route_model}
use Rattle.sheet_lines.specs.laws.Stays.{HasCanonicalNumbers, followed_are, numbers_stay, parts_kept, sheet_kept_fits}
use Rattle.sheet_lines.proofs.followed.followed_and_kept.Goals as goal

pub parts_with_kept-requires-clause-lost : goal.parts_with_kept-requires-clause-lost
parts_with_kept-requires-clause-lost g c = sym (rekeyed_own position_total exact_positions _) ∙ c.in_ok-cells.ensures.lost
    ∙ ap (lost_map (place_goes (route_model c.on_sheet-on.result.route))) (c.cell_map-cells.ensures.map ∙ sym (ap (λ s. s.cells) c.on_sheet-on.ensures.sheet))

pub with_entries-requires : goal.with_entries-requires
with_entries-requires g c = subst CanonicalCells (sym ((λ i. (c.in_ok-entries.ensures.entries i).cells) ∙ (λ i. (c.of_cells-entries.ensures i).cells)
    ∙ c.in_ok-cells.ensures.carried))
    (followed_are (route_model c.on_sheet-on.result.route) c.on_sheet-on.ensures.is (λ _. IsCanonicalCell)
    (λ _. HasCanonicalNumbers) numbers_stay c.cell_map-cells.result.now c.cell_map-cells.ensures.canonical)

pub returns-clause-trees : goal.returns-clause-trees
returns-clause-trees g c =
    sym (rekeyed_own position_total exact_positions _) ∙ c.in_ok-cells.ensures.parts
    ∙ (λ j. places_parts cell_part (c.on_sheet-on.ensures.route_model j) (c.cell_map-cells.ensures.map j))

pub returns-clause-numbers : goal.returns-clause-numbers
returns-clause-numbers g c = subst AreCanonicalFormulas (sym (sym (rekeyed_own position_total exact_positions _) ∙ c.in_ok-cells.ensures.parts))
    (parts_kept (route_model c.on_sheet-on.result.route) c.on_sheet-on.ensures.is c.cell_map-cells.result.now c.cell_map-cells.ensures.canonical)

pub returns-clause-fits : goal.returns-clause-fits
returns-clause-fits g c =
    let w = route_model c.args.route.now in
    let sheet = c.args.sheet.now in
    subst (λ o. IfSome o (LinesFit w)) (sym (c.in_ok-entries.ensures.kept
    ∙ (λ j. let v = c.on_sheet-on.ensures.route_model j in then_some v.is_edited (kept_of v (c.on_sheet-on.ensures.sheet j)))))
    (elim (route_on w sheet).is_edited as (λ b. IfSome (then_some b (kept_of (route_on w sheet) sheet)) (LinesFit w))
    [ true ↦ sheet_kept_fits w c.is_route.ensures sheet c.is_sound.ensures | false ↦ tt ])
