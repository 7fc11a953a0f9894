use Rattle.std.proofs.Common.{◌≡◌, [], ◌∷◌, ◌++◌, List, map, rules, ap, sym, subst, ◌∙◌, append_assoc}
use Rattle.base_values.specs.declared.Position.{Position}
use Rattle.sheet_grid.specs.declared.cell.Cell.{Cell}
use Rattle.sheet_grid.specs.declared.dimension.WorksheetDimension.{WorksheetDimension}
use Rattle.sheet_grid.specs.Dimension.{IsLeastRectangle, extent_of}
use Rattle.sheet_grid.proofs.Rectangles.{alone}
use Rattle.sheet_grid.proofs.dimension.WorksheetDimension.of_cells.Goals as goal

pub loop-place-init : goal.loop-place-init
loop-place-init c =
    let first : WorksheetDimension = extent_of (c.args.place, c.args.cell.now) in
    let all : c.into_iter-place-iterator.result ≡ c.args.rest = search rules in (
      tt,
      tt,
      (
        first ∷ [],
        ap (λ (left : List (Position × Cell)). first ∷ map extent_of left) all,
        subst (IsLeastRectangle _) (sym c.of_cell-found.ensures) (alone first),
      ),
    )

pub loop-place-preserved : goal.loop-place-preserved
loop-place-preserved c =
    let entry : Position × Cell = (c.in-Some.place.now, c.in-Some.cell.now) in
    let step : c.loop-place.place-iterator ≡ entry ∷ c.next.new.self = search rules in
    let own : c.of_cell.result ≡ extent_of entry = c.of_cell.ensures ∙ ap (λ (cell : Cell). extent_of (c.in-Some.place.now, cell)) c.get.ensures in
    let seen : List WorksheetDimension = c.loop-place.invariant.2.0 in (
      tt,
      tt,
      (
        seen ++ extent_of entry ∷ [],
        append_assoc seen (extent_of entry ∷ []) (map extent_of c.next.new.self)
            ∙ ap (λ (left : List (Position × Cell)). seen ++ map extent_of left) (sym step)
            ∙ c.loop-place.invariant.2.1,
        subst (λ (extent : WorksheetDimension). IsLeastRectangle (seen ++ extent ∷ []) c.with-found.result) own (c.with-found.ensures seen c.loop-place.invariant.2.2),
      ),
    )
