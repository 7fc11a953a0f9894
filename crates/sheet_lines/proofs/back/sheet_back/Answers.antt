use Rattle.std.proofs.Common.{◌≡◌, Bool, ap, subst, sym, ◌∙◌}
use Rattle.std.specs.FinMap.{FinMap, get}
use Rattle.base_values.specs.Places.{position_cmp}
use Rattle.base_values.specs.laws.Places.{position_total, exact_positions}
use Rattle.base_maps.specs.Carried.{overlaid}
use Rattle.base_maps.specs.Tagged.{place_on}
use Rattle.line_map.specs.Keys.{rekeyed}
use Rattle.line_map.specs.laws.UnderLaws.{rekeyed_own}
use Rattle.line_map.specs.Maps.{lost_along, places_restored}
use Rattle.line_routes.specs.RouteModel.{route_model}
use Rattle.sheet_grid.specs.CanonicalCell.{IsCanonicalCell, CanonicalCells}
use Rattle.sheet_lines.specs.laws.Stays.{HasCanonicalNumbers, back_are, numbers_stay}
use Rattle.sheet_grid.specs.Sheet.{with_entries, only_cells}
use Rattle.line_map.specs.Contents.{cell_carried, cell_restored}
use Rattle.sheet_lines.specs.Part.{part_restored}
use Rattle.sheet_lines.specs.Parts.{parts}
use Rattle.std.proofs.lemmas.Result.{IfOk-weaker}
use Rattle.sheet_lines.proofs.back.sheet_back.Goals as goal

-- what was lost is laid over as it is
laid_own : {X : Type 0} (along : Bool) (lost m : FinMap position_cmp X) → overlaid (rekeyed (lost_along along lost)) m ≡ overlaid (lost_along along lost) m
laid_own along lost m = ap (λ l. overlaid l m) (rekeyed_own position_total exact_positions (lost_along along lost))

pub with_entries-requires : goal.with_entries-requires
with_entries-requires g c =
    subst CanonicalCells (sym ((λ i. (c.in_ok-entries.ensures.entries i).cells) ∙ (λ i. (c.of_cells-entries.ensures i).cells) ∙ c.in_ok-cells.ensures.map
    ∙ laid_own c.on_sheet-on.result.route.is_edited c.args.kept.now.cells _))
    (back_are (route_model c.on_sheet-on.result.route) c.on_sheet-on.ensures.is (λ _. IsCanonicalCell)
    (λ _. HasCanonicalNumbers) numbers_stay c.cell_map-cells.result.now c.cell_map-cells.ensures.canonical
    c.args.kept.now.cells _ c.requires.numbers.cells (λ p. c.requires.numbers.formulas (place_on c.get_sheet_id-id.result p)))

pub returns-clause-sheet : goal.returns-clause-sheet
returns-clause-sheet g c =
    let kept = c.args.kept.now in
    let to = c.on_sheet-on.ensures.route_model in
    let cells = c.in_ok-cells.ensures.map ∙ laid_own c.on_sheet-on.result.route.is_edited kept.cells _ ∙ (λ j. overlaid (lost_along (to j).is_edited kept.cells)
    (places_restored cell_carried (λ _ cell tree. cell_restored cell tree) (to j)
    (λ place. get kept.formulas (place_on (c.get_sheet_id-id.ensures j) place)) (c.cell_map-cells.ensures.map j))) in
    IfOk-weaker c.with_entries.result _ _ (λ output is. is ∙ (λ i. with_entries c.args.sheet.now
    ((c.in_ok-entries.ensures.entries ∙ (λ j. part_restored parts (to j) kept (c.on_sheet-on.ensures.sheet j) ((c.of_cells-entries.ensures
    ∙ ap only_cells cells) j))) i))) c.with_entries.ensures.sheet
