use Rattle.std.proofs.Common.{subst, sym, ◌∙◌}
use Rattle.line_routes.specs.RouteModel.{route_model}
use Rattle.sheet_grid.specs.CanonicalCell.{IsCanonicalCell, CanonicalCells}
use Rattle.sheet_lines.specs.laws.Stays.{HasCanonicalNumbers, followed_are, numbers_stay}
use Rattle.sheet_lines.proofs.followed.followed_sheet.Goals as goal

pub with_entries-requires : goal.with_entries-requires
with_entries-requires g c = subst CanonicalCells (sym ((λ i. (c.in_ok-entries.ensures.entries i).cells) ∙ (λ i. (c.of_cells-entries.ensures i).cells)
    ∙ c.in_ok-cells.ensures.value))
    (followed_are (route_model c.on_sheet-on.result.route) c.on_sheet-on.ensures.is (λ _. IsCanonicalCell)
    (λ _. HasCanonicalNumbers) numbers_stay c.cell_map-cells.result.now c.cell_map-cells.ensures.canonical)
