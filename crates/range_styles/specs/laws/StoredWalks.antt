-- The places that a range may touch, as they are gone over where not all of its places are. Serves private contracts and proofs.
use Rattle.std.proofs.Common.{Bool, ◌&&◌, Option}
use Rattle.std.specs.Prelude.{◌||◌, not, if◌then◌else◌}
use Rattle.std.specs.FinMap.{FinMap, empty}
use Rattle.base_values.specs.declared.Position.{Position}
use Rattle.base_values.specs.Places.{position_cmp}
use Rattle.base_axis.specs.Along.{rows, columns}
use Rattle.planned_maps.specs.laws.PlanWalks.{chosen_all, chosen_put, places_all, places_put}
use Rattle.sheet_grid.specs.Sheet.{Sheet}
use Rattle.range_styles.specs.declared.range.StyleRange.{StyleRange}
use Rattle.range_styles.specs.StyleRanges.{has_own_style}
use Rattle.range_styles.specs.StyleWalks.{reaches_columns, reaches_rows}

module _ {X : Type 0} (make : Position → Option X) (range : StyleRange) (sheet : Sheet) where
  -- a plan with what is made of the places that have a cell
  abbrev pub cells_walked : FinMap position_cmp X
  cells_walked = places_put make empty sheet.cells

  -- and of those of rows and columns that have a style
  abbrev pub rows_walked : FinMap position_cmp X
  rows_walked = if reaches_rows range.kind range.clears then chosen_put make has_own_style rows range.area cells_walked sheet.rows else cells_walked

  abbrev pub columns_walked : FinMap position_cmp X
  columns_walked = if reaches_columns range.kind range.clears then chosen_put make has_own_style columns range.area rows_walked sheet.columns else rows_walked

-- the same places pass a test
abbrev pub stored_pass : (Position → Bool) → StyleRange → Sheet → Bool
stored_pass passes range sheet =
    places_all passes sheet.cells && (not (reaches_rows range.kind range.clears) || chosen_all passes has_own_style rows range.area sheet.rows)
    && (not (reaches_columns range.kind range.clears) || chosen_all passes has_own_style columns range.area sheet.columns)
