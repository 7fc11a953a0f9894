-- Maps of cells whose numbers are canonical, and their arrays.
use Rattle.std.proofs.Common.{◌≡◌, Bool, true, false, cond, Option, Result, Ok, Err, ap, sym, subst, ◌∙◌}
use Rattle.std.specs.Prelude.{IfSome, OnOk, OnErr}
use Rattle.std.specs.Ordering.{eq_by_cmp}
use Rattle.std.specs.FinMap as fin
use Rattle.std.specs.FinMap.{FinMap}
use Rattle.base_values.specs.declared.EditError.{EditError}
use Rattle.base_values.specs.declared.Position.{Position}
use Rattle.base_values.specs.KeyMap.{with_entry}
use Rattle.base_values.specs.laws.KeyMap.{get-with_entry}
use Rattle.base_values.specs.Places.{position_cmp}
use Rattle.base_values.specs.laws.Places.{position_total, exact_positions}
use Rattle.base_axis.specs.declared.MergedCell.{MergedCell}
use Rattle.sheet_grid.specs.ArrayIndex.{IsIndexed, arrays_by_place, large_array_of}
use Rattle.sheet_grid.specs.Arrays.{large_array_at}
use Rattle.sheet_grid.proofs.Indexes.{index-empty, index-put}
use Rattle.sheet_grid.specs.declared.cell.Cell.{Cell}
use Rattle.sheet_grid.specs.CanonicalCell.{IsCanonicalCell, CanonicalCells}

kept_empty : CanonicalCells fin.empty
kept_empty place = subst (λ o. IfSome o IsCanonicalCell) (sym (fin.get-empty position_cmp place)) tt

kept_put : (cells : FinMap position_cmp Cell) (place : Position) (entry : Option Cell) → CanonicalCells cells → IfSome entry IsCanonicalCell → CanonicalCells (with_entry cells place entry)
kept_put cells place entry canonical one q = subst (λ o. IfSome o IsCanonicalCell) (sym (get-with_entry position_total cells place entry q)) (either (eq_by_cmp position_cmp q place))
  where
    either : (b : Bool) → IfSome (cond b entry (fin.get cells q)) IsCanonicalCell
    either true = one
    either false = canonical q

-- no cells have no arrays
pub indexed_empty : IsIndexed fin.empty fin.empty
indexed_empty = record { canonical = kept_empty; index = sym (index-empty position_cmp (λ place cell. large_array_at place cell.content) position_total exact_positions) }

-- the index after a put that may have failed
pub indexed_after : (result : Result (Unit {0}) EditError) (old new : FinMap position_cmp Cell) (before after : FinMap position_cmp MergedCell) (place : Position) (entry : Option Cell)
    → IsIndexed old before → IfSome entry IsCanonicalCell → OnOk result (new ≡ with_entry old place entry) → OnOk result (after ≡ with_entry before place (large_array_of place entry))
    → OnErr result (new ≡ old) → OnErr result (after ≡ before) → IsIndexed new after
indexed_after (Ok done) old new before after place entry is one cells arrays cells_stay arrays_stay = record {
  canonical = subst CanonicalCells (sym cells) (kept_put old place entry is.canonical one);
  index = arrays ∙ ap (λ m. with_entry m place (large_array_of place entry)) is.index
      ∙ sym (index-put position_cmp (λ place cell. large_array_at place cell.content) position_total exact_positions old place entry) ∙ ap arrays_by_place (sym cells);
}
indexed_after (Err error) old new before after place entry is one cells arrays cells_stay arrays_stay = record {
  canonical = subst CanonicalCells (sym cells_stay) is.canonical;
  index = arrays_stay ∙ is.index ∙ ap arrays_by_place (sym cells_stay);
}
