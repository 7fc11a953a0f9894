use Rattle.std.proofs.Common.{◌≡◌, ◌∷◌, map, rules, subst}
use Rattle.std.specs.List.{All}
use Rattle.base_values.specs.Places.{IsPlace}
use Rattle.base_values.specs.declared.Position.{Position}
use Rattle.sheet_grid.specs.declared.cell.Cell.{Cell}
use Rattle.sheet_grid.specs.Dimension.{IsLeastRectangle, extent_of}
use Rattle.sheet_grid.proofs.Rectangles.{rectangle_inside, extents_inside}
use Rattle.sheet_grid.proofs.worksheet.Worksheet.dimension.Goals as goal

pub returns-in-Some-clause-inside : goal.returns-in-Some-clause-inside
returns-in-Some-clause-inside c =
    let entry : Position × Cell = (c.in-Some.place.now, c.in-Some.cell.now) in
    let step : c.cells-cells.result ≡ entry ∷ c.next.new.self = search rules in
    let inside = subst (All (λ (e : Position × Cell). IsPlace e.0)) step c.cells-cells.ensures.inside in
    let least = subst (λ (cell : Cell). IsLeastRectangle (extent_of (c.in-Some.place.now, cell) ∷ map extent_of c.next.new.self) c.of_cells.result) c.get.ensures c.of_cells.ensures in
    rectangle_inside _ _ (extents_inside (entry ∷ c.next.new.self) inside) least
