-- Merges of a sheet, and the places that they cover.
use Rattle.std.specs.Prelude.{ℤ, Bool, true, false, not, Option, Some, None, List, Result}
use Rattle.std.specs.List.{find}
use Rattle.std.specs.Option.{option_map_or}
use Rattle.std.specs.FinMap as fin
use Rattle.base_values.specs.declared.EditError.{EditError}
use Rattle.base_values.specs.declared.Position.{Position}
use Rattle.base_values.specs.Answers.{map_ok}
use Rattle.base_values.specs.Places.{same_position, place_of}
use Rattle.base_axis.specs.declared.MergedCell.{MergedCell}
use Rattle.base_axis.specs.Rectangles.{holds, anchor_place}
use Rattle.cell_content.specs.declared.Content.{Content}
use Rattle.cell_content.specs.declared.Content.TheVariants.{Empty}
use Rattle.sheet_grid.specs.declared.cell.Cell.{Cell}
use Rattle.sheet_grid.specs.Sheet.{Sheet}

-- the first merge of the list that holds a place
abbrev pub merge_holding : List MergedCell → Position → Option MergedCell
merge_holding merges place = find (λ merge. holds merge place) merges

-- the merge that holds a place, if one does, begins elsewhere
abbrev pub is_covered : List MergedCell → Position → Bool
is_covered merges place = option_map_or (λ merge. not (same_position (anchor_place merge) place)) (merge_holding merges place) false

-- the place whose cell shows at a place: the first place of the merge that holds it, else the place itself
abbrev pub anchor_of : List MergedCell → Position → Position
anchor_of merges place = option_map_or anchor_place (merge_holding merges place) place

-- a content that is none
abbrev pub is_empty : Content → Bool
is_empty Empty = true
is_empty content = false

-- no cell, or one without a content
abbrev pub is_blank_entry : Option Cell → Bool
is_blank_entry None = true
is_blank_entry (Some cell) = is_empty cell.content

-- nothing stands at a place: a style alone counts as nothing
abbrev pub is_blank : Sheet → Position → Bool
is_blank sheet place = is_blank_entry (fin.get sheet.cells place)

-- the same at a row and a column, or the first of them that is outside
abbrev pub blank_at : Sheet → ℤ → ℤ → Result Bool EditError
blank_at sheet row column = map_ok (is_blank sheet) (place_of row column)
