-- The cells that are planned have the contents of those that stand there, or none.
use Rattle.std.proofs.Common.{Bool, true, false, cond, Option, Some, None, option_map, sym, subst}
use Rattle.std.specs.Prelude.{IfSome}
use Rattle.std.specs.FinMap.{get}
use Rattle.base_values.specs.Places.{position_cmp}
use Rattle.base_values.specs.laws.Places.{position_total, exact_positions}
use Rattle.base_axis.specs.declared.MergedCell.{MergedCell}
use Rattle.base_axis.specs.Rectangles.{holds}
use Rattle.base_styles.specs.declared.Style.{Style}
use Rattle.planned_maps.specs.Planned.{planned_places, places_of}
use Rattle.planned_maps.specs.laws.PlannedLaws.{get-planned}
use Rattle.planned_maps.specs.laws.WalkLaws.{place_is_in}
use Rattle.sheet_grid.specs.declared.Cell.{Cell}
use Rattle.sheet_grid.specs.CanonicalCell.{CanonicalCells, IsCanonicalCell}
use Rattle.sheet_grid.specs.Sheet.{Sheet, shown_style}
use Rattle.range_styles.specs.declared.clear.Clearing.{Clearing}
use Rattle.range_styles.specs.declared.clear.Clearing.TheVariants.{Contents, Cells}
use Rattle.range_styles.specs.declared.range.StyleRange.{StyleRange}
use Rattle.range_styles.specs.CanonicalPlans.{CanonicalCellPlan}
use Rattle.range_styles.specs.Clearing.{cleared_cell, place_cleared}
use Rattle.range_styles.specs.StyleRanges.{touches}
use Rattle.range_styles.specs.Styled.{StyleAt, place_styled, styled_cell}
use Rattle.range_styles.specs.laws.ClearLaws.{made_here}
use Rattle.range_styles.specs.laws.RangeLaws.{styled_here}

abbrev IsEntry : Option Cell → Type 0
IsEntry entry = IfSome entry IsCanonicalCell

styled_kept : (entry : Option Cell) (style : Style) → IfSome entry IsCanonicalCell → IsCanonicalCell (styled_cell entry style)
styled_kept None style h = tt
styled_kept (Some cell) style h = h

module _ (sheet : Sheet) (kept : CanonicalCells sheet.cells) where
  -- so it is where styles are changed
  pub styled_canonical : (range : StyleRange) (output : StyleAt) → CanonicalCellPlan (planned_places (place_styled range output sheet) range.area)
  styled_canonical range output q = subst (λ o. IfSome o IsEntry)
      (sym (get-planned position_cmp position_total exact_positions (place_styled range output sheet) (places_of range.area)
      (λ p x is. place_is_in range.area p (styled_here range output sheet p x is)) q))
      (go (touches range sheet q))
    where
      go : (b : Bool) → IfSome (cond b (Some (Some (styled_cell (get sheet.cells q) (output q (shown_style sheet q))))) None) IsEntry
      go true = styled_kept (get sheet.cells q) (output q (shown_style sheet q)) (kept q)
      go false = tt

  -- and where contents or cells are taken away
  pub cleared_canonical : (clearing : Clearing) (r : MergedCell) → CanonicalCellPlan (planned_places (place_cleared clearing r sheet) r)
  cleared_canonical clearing r q = subst (λ o. IfSome o IsEntry)
      (sym (get-planned position_cmp position_total exact_positions (place_cleared clearing r sheet) (places_of r)
      (λ p x is. place_is_in r p (made_here r (cleared_cell clearing) sheet.cells p x is)) q))
      (go (holds r q) (get sheet.cells q))
    where
      left : (clearing : Clearing) (cell : Cell) → IfSome (cleared_cell clearing cell) IsCanonicalCell
      left Contents cell = tt
      left Cells cell = tt

      go : (b : Bool) (o : Option Cell) → IfSome (cond b (option_map (cleared_cell clearing) o) None) IsEntry
      go true None = tt
      go true (Some cell) = left clearing cell
      go false o = tt
