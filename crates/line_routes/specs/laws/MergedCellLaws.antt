-- The law of followers for rectangles of places.
use Rattle.std.proofs.Common.{◌≡◌, Option, Some, None, arith}
use Rattle.std.specs.Prelude.{IfSome}
use Rattle.std.proofs.lemmas.Int.{ints}
use Rattle.base_values.specs.declared.Position.{Position}
use Rattle.base_values.specs.Places.{IsPlace}
use Rattle.base_axis.specs.declared.MergedCell.{MergedCell}
use Rattle.base_axis.specs.contracts.merged_cell.MergedCellPartialEq.TheImpl as equality
use Rattle.base_axis.specs.laws.MergedEquals.{merged_equals}
use Rattle.base_axis.specs.Rectangles.{IsInside}
use Rattle.line_routes.specs.MergedCells.{between, moved_to, merged_cell_carried, merged_cell_part}
use Rattle.line_routes.specs.RouteModel.{RouteModel, IsRoute, back}
use Rattle.line_routes.specs.laws.TrialLaws.{trial_comes_back, trial_part}
use Rattle.line_routes.specs.laws.RouteLaws.{goes_inside}

-- the corners are its first and its last place, in either order
pub between_inside : (p q : Position) → IsPlace p → IsPlace q → IsInside (between p q)
unfolding between
between_inside p q h i =
    let a = h.0.0 in
    let b = h.0.1 in
    let c = h.1.0 in
    let d = h.1.1 in
    let f = i.0.0 in
    let g = i.0.1 in
    let j = i.1.0 in
    let k = i.1.1 in
    record {
      wide = grind (arith, ints);
      high = grind (arith, ints);
      first = ((grind (arith, ints), grind (arith, ints)), (grind (arith, ints), grind (arith, ints)));
      last = ((grind (arith, ints), grind (arith, ints)), (grind (arith, ints), grind (arith, ints)));
    }

moved_inside : (cell : MergedCell) → IsInside cell → (o w : Option Position) → IfSome o IsPlace → IfSome w IsPlace → IsInside (moved_to cell o w)
moved_inside cell h (Some p) (Some q) i j = between_inside p q i j
moved_inside cell h (Some p) None i j = h
moved_inside cell h None w i j = h

-- a rectangle that is carried along is inside
pub merged_cell_stays : (w : RouteModel) → IsRoute w → (cell : MergedCell) → IsInside cell → IsInside (merged_cell_carried w cell)
unfolding merged_cell_carried
merged_cell_stays w is cell h = moved_inside cell h _ _ (goes_inside w is _ h.first) (goes_inside w is _ h.last)

pub merged_cell_comes_back : (w : RouteModel) (cell : MergedCell) → merged_cell_part w cell ≡ None → merged_cell_carried (back w) (merged_cell_carried w cell) ≡ cell
merged_cell_comes_back w cell h = trial_comes_back equality.ghosts.eq merged_cell_carried merged_equals w cell h

pub merged_cell_restores : (w : RouteModel) (cell part : MergedCell) → merged_cell_part w cell ≡ Some part → part ≡ cell
merged_cell_restores w cell part h = trial_part equality.ghosts.eq merged_cell_carried w cell part h
