-- Cells that are merged, and merges that are dissolved.
use Rattle.std.proofs.Common.{ℕ, ℤ, List, [], ◌∷◌, ◌++◌, Option, Some, None, Result, Ok, Err}
use Rattle.std.specs.Prelude.{if◌then◌else◌, not}
use Rattle.std.specs.List.{filter}
use Rattle.base_values.specs.declared.EditError.{EditError}
use Rattle.base_values.specs.declared.EditError.TheVariants.{InvalidArea, MergeOverlap, ArrayCell, NoMerge}
use Rattle.base_values.specs.declared.Position.{Position}
use Rattle.base_values.specs.Answers.{and_then}
use Rattle.base_values.specs.Places.{place_of}
use Rattle.base_axis.specs.declared.MergedCell.{MergedCell}
use Rattle.base_axis.specs.Rectangles.{holds}
use Rattle.sheet_grid.specs.Arrays.{large_arrays_of}
use Rattle.sheet_grid.specs.Merges.{merge_holding}
use Rattle.sheet_grid.specs.Sheet.{Sheet}
use Rattle.sheet_grid.specs.Book.{Book, sheet_edit}
use Rattle.sheet_rules.specs.Occupied.{is_merge, meets_any}
use Rattle.edit_plans.specs.Blanked.{blanked}

-- the sheet with one more merge, behind its others. The cells that it covers lose their contents
abbrev pub with_merge : Sheet → MergedCell → Sheet
with_merge sheet r = record sheet { cells = blanked r sheet.cells; merges = sheet.merges ++ r ∷ [] }

-- a rectangle merged, or the first refusal: it has fewer than two cells or reaches outside, it meets a merge, it meets an array of more
-- than one cell
abbrev pub merged_in : MergedCell → Sheet → Result Sheet EditError
merged_in r sheet =
    if not (is_merge r) then Err InvalidArea
    else if meets_any sheet.merges r then Err MergeOverlap
    else if meets_any (large_arrays_of sheet) r then Err ArrayCell
    else Ok (with_merge sheet r)

-- the workbook with a rectangle of the sheet at an index merged, or the first refusal
unfoldable pub merge_made : ℕ → MergedCell → Book → Result Book EditError
merge_made index r book = sheet_edit book index (merged_in r)

-- the merges that do not hold a place
abbrev pub merges_without : Position → List MergedCell → List MergedCell
merges_without place merges = filter (λ merge. not (holds merge place)) merges

-- a sheet without the merges that hold a place
abbrev pub without_merge : Sheet → Position → Sheet
without_merge sheet place = record sheet { merges = merges_without place sheet.merges }

-- the merge that holds a place goes. Where there is none it is refused
abbrev pub unmerged_at : Sheet → Position → Option MergedCell → Result Sheet EditError
unmerged_at sheet place None = Err NoMerge
unmerged_at sheet place (Some merge) = Ok (without_merge sheet place)

-- the sheet without the merge that holds the place at a row and a column
abbrev pub unmerged_in : ℤ → ℤ → Sheet → Result Sheet EditError
unmerged_in row column sheet = and_then (place_of row column) (λ place. unmerged_at sheet place (merge_holding sheet.merges place))

-- the workbook without the merge that holds a place, or the first refusal: no such sheet, the row outside, the column outside, no merge
unfoldable pub merge_undone : ℕ → ℤ → ℤ → Book → Result Book EditError
merge_undone index row column book = sheet_edit book index (unmerged_in row column)
