-- Where the arrays and the merges of a sheet may stand, and what may stand at the places that they take.
use Rattle.std.specs.Prelude.{Bool, true, ◌&&◌, ◌||◌, not, List, Option, Some, None, is_none}
use Rattle.std.specs.List.{list_all, list_any, find}
use Rattle.std.specs.FinMap.{entries}
use Rattle.base_values.specs.declared.Position.{Position}
use Rattle.base_values.specs.Places.{same_position}
use Rattle.base_axis.specs.declared.MergedCell.{MergedCell}
use Rattle.base_axis.specs.Rectangles.{anchor_place, holds, has_many, is_inside, meets}
use Rattle.sheet_grid.specs.declared.Cell.{Cell}
use Rattle.sheet_grid.specs.Arrays.{array_at, arrays_of, large_arrays_of}
use Rattle.sheet_grid.specs.Merges.{is_empty}
use Rattle.sheet_grid.specs.Sheet.{Sheet}
use Rattle.sheet_rules.specs.Distinct.{are_distinct}

-- no rectangle of a list meets one after it
abbrev pub are_apart : List MergedCell → Bool
are_apart = are_distinct meets

-- a rectangle meets one of some others
abbrev pub meets_any : List MergedCell → MergedCell → Bool
meets_any others r = list_any (meets r) others

-- rule 3: each array is inside the sheet, and no two of more than one cell meet
unfoldable pub have_arrays : Sheet → Bool
have_arrays sheet = list_all is_inside (arrays_of sheet) && are_apart (large_arrays_of sheet)

-- it has two cells or more, and is inside the sheet
abbrev pub is_merge : MergedCell → Bool
is_merge merge = has_many merge && is_inside merge

-- rule 4: each merge has two cells or more and is inside the sheet, no two meet, and none meets an array of more than one cell
unfoldable pub have_merges : Sheet → Bool
have_merges sheet = list_all is_merge sheet.merges && are_apart sheet.merges && not (list_any (meets_any sheet.merges) (large_arrays_of sheet))

-- a place is one of a rectangle's places, and not its first
abbrev pub covers : MergedCell → Position → Bool
covers r place = holds r place && not (same_position (anchor_place r) place)

-- each cell that a rectangle covers is without content
abbrev pub covers_blanks : Sheet → MergedCell → Bool
covers_blanks sheet r = list_all (λ (entry : Position × Cell). is_empty entry.1.content || not (covers r entry.0)) (entries sheet.cells)

-- rule 5: the cells that a merge covers, and those that an array covers, are without content
unfoldable pub are_hidden_blank : Sheet → Bool
are_hidden_blank sheet = list_all (covers_blanks sheet) sheet.merges && list_all (covers_blanks sheet) (large_arrays_of sheet)

-- a merge covers a place, or an array does
unfoldable pub is_hidden_place : Sheet → Position → Bool
is_hidden_place sheet place = list_any (λ merge. covers merge place) sheet.merges || list_any (λ array. covers array place) (large_arrays_of sheet)

-- the first array of more than one cell, by row and then by column of its place, that holds a place
abbrev pub array_over : Sheet → Position → Option MergedCell
array_over sheet place = find (λ array. holds array place) (large_arrays_of sheet)

-- a cell that is put at a place, or none, is no array, and has no content where the place is hidden
abbrev pub may_stand : Sheet → Position → Option Cell → Bool
may_stand sheet place None = true
may_stand sheet place (Some cell) = is_none (array_at place cell.content) && (is_empty cell.content || not (is_hidden_place sheet place))
