-- The input of a formula whose values fill a rectangle.
use Rattle.std.proofs.Common.{ℕ, Result, Ok, Err}
use Rattle.std.specs.Prelude.{Bool, if◌then◌else◌, not}
use Rattle.base_values.specs.declared.EditError.{EditError}
use Rattle.base_values.specs.declared.EditError.TheVariants.{InvalidArea, CoveredCell, ArrayCell}
use Rattle.base_values.specs.Answers.{and_then, map_ok}
use Rattle.base_values.specs.KeyMap.{with_entry}
use Rattle.base_values.specs.Places.{place_of}
use Rattle.base_axis.specs.declared.MergedCell.{MergedCell}
use Rattle.base_axis.specs.Rectangles.{anchor_place, has_many, is_inside}
use Rattle.formula_tree.specs.declared.Node.{Node}
use Rattle.cell_content.specs.declared.Content.TheVariants.{Array}
use Rattle.sheet_grid.specs.Arrays.{large_arrays_of}
use Rattle.sheet_grid.specs.Merges.{is_covered}
use Rattle.sheet_grid.specs.Sheet.{Sheet}
use Rattle.sheet_grid.specs.Book.{Book, sheet_edit}
use Rattle.sheet_rules.specs.Occupied.{meets_any}
use Rattle.edit_plans.specs.Blanked.{blanked}
use Rattle.edit_plans.specs.Inputs.{cell_entered}

-- a rectangle of more than one cell meets a merge, or a merge covers its one cell
abbrev pub hits_merge : Sheet → MergedCell → Bool
hits_merge sheet r = if has_many r then meets_any sheet.merges r else is_covered sheet.merges (anchor_place r)

-- the sheet with an array that fills a rectangle from its first place on. A present cell there keeps its style, a new one has the style
-- that the place shows; the other cells of the rectangle lose their contents, and links stay
abbrev pub with_array : Sheet → MergedCell → Node → Sheet
with_array sheet r tree =
    record sheet { cells = with_entry (blanked r sheet.cells) (anchor_place r) (cell_entered sheet (anchor_place r) (Array tree r.width r.height)) }

-- a rectangle that an array may fill, or the first refusal: it is empty or reaches outside, a merge meets it or covers its one cell, an
-- array of more than one cell meets it
abbrev pub free_area : Sheet → MergedCell → Result MergedCell EditError
free_area sheet r =
    if not (is_inside r) then Err InvalidArea
    else if hits_merge sheet r then Err CoveredCell
    else if meets_any (large_arrays_of sheet) r then Err ArrayCell
    else Ok r

-- the same, where the row of its first place is refused before, and then the column
abbrev pub array_area : Sheet → MergedCell → Result MergedCell EditError
array_area sheet r = and_then (place_of r.row r.column) (λ place. free_area sheet r)

-- the workbook with an array of the sheet at an index, or the first refusal: no such sheet, or no rectangle that it may fill
unfoldable pub array_put : ℕ → MergedCell → Node → Book → Result Book EditError
array_put index r tree book = sheet_edit book index (λ sheet. map_ok (λ area. with_array sheet area tree) (array_area sheet r))
