-- The merges and the arrays that a fill meets, and the tiles that it makes: repetitions of a merge of the source.
use Rattle.std.proofs.Common.{ℕ, zero, suc, ◌+◌, ◌*◌, ◌-◌, ℤ, pos, ◌+ℤ◌, ◌-ℤ◌, Bool, false, List, [], ◌++◌, Option, Some, None, Result, Ok, Err}
use Rattle.std.specs.Prelude.{◌/◌, ◌&&◌, ◌||◌, not, if◌then◌else◌}
use Rattle.std.specs.List.{filter, filter_map, list_any}
use Rattle.base_values.specs.declared.EditError.{EditError}
use Rattle.base_values.specs.declared.EditError.TheVariants.{PartialMerge, CutMerge, PartialArray}
use Rattle.base_axis.specs.declared.MergedCell.{MergedCell}
use Rattle.base_axis.specs.Along.{Along}
use Rattle.base_axis.specs.Rectangles.{meets, is_inside_of}
use Rattle.sheet_grid.specs.Arrays.{large_arrays_of}
use Rattle.sheet_grid.specs.Sheet.{Sheet}
use Rattle.sheet_fill.specs.declared.range.FillRange.{FillRange}
use Rattle.sheet_fill.specs.FillRanges.{lines}

-- ---- merges

-- a merge meets the source or the target, and is wholly in neither
abbrev pub is_partial : FillRange → MergedCell → Bool
is_partial f merge = (meets merge f.source || meets merge f.target) && not (is_inside_of merge f.source || is_inside_of merge f.target)

-- a rectangle meets the target, and is not wholly in it
abbrev pub is_cut : FillRange → MergedCell → Bool
is_cut f r = meets r f.target && not (is_inside_of r f.target)

-- a merge is one of the source's
abbrev pub is_repeated : FillRange → MergedCell → Bool
is_repeated f merge = meets merge f.source && is_inside_of merge f.source

-- ---- tiles

-- how many repetitions of the source begin in the target; the last may end behind it
abbrev pub repetitions : Along → FillRange → ℕ
repetitions a f = (lines a f.target + (lines a f.source - 1)) / lines a f.source

-- by how many lines a repetition lies behind the source: below 0 before it. The repetition beside the source has index 0
abbrev pub offset : Along → FillRange → ℕ → ℤ
offset a f index = if f.is_behind then pos (lines a f.source * (index + 1)) else pos 0 -ℤ pos (lines a f.source * (index + 1))

-- a rectangle so many lines behind where it is
abbrev pub shifted : Along → ℤ → MergedCell → MergedCell
shifted a by r = record { row = r.row +ℤ a.count_of by (pos 0); column = r.column +ℤ a.count_of (pos 0) by; width = r.width; height = r.height }

-- a merge of the source in a repetition
abbrev pub tile : Along → FillRange → ℕ → MergedCell → MergedCell
tile a f index merge = shifted a (offset a f index) merge

-- the target cuts a tile of a merge in one of so many repetitions
abbrev pub cuts_some : Along → FillRange → MergedCell → ℕ → Bool
cuts_some a f merge zero = false
cuts_some a f merge (suc index) = cuts_some a f merge index || is_cut f (tile a f index merge)

-- the target cuts a tile of a merge
abbrev pub cuts_tile : Along → FillRange → MergedCell → Bool
cuts_tile a f merge = is_repeated f merge && cuts_some a f merge (repetitions a f)

-- the tile of a merge in a repetition; outside the target there is none
abbrev pub tile_in : Along → FillRange → ℕ → MergedCell → Option MergedCell
tile_in a f index merge = if meets (tile a f index merge) f.target then Some (tile a f index merge) else None

-- the tiles of some merges in so many repetitions, repetition by repetition away from the source
abbrev pub tiles : Along → FillRange → List MergedCell → ℕ → List MergedCell
tiles a f merges zero = []
tiles a f merges (suc index) = tiles a f merges index ++ filter_map (tile_in a f index) merges

-- the merges of a sheet after a fill: those of the target are gone, and the tiles of the source's stand behind the others
abbrev pub merges_filled : Along → FillRange → List MergedCell → List MergedCell
merges_filled a f merges = filter (λ merge. not (meets merge f.target)) merges ++ tiles a f (filter (is_repeated f) merges) (repetitions a f)

-- ---- refusals

-- what is filled, or the first refusal by what stands there: a merge reaches out of the source or the target, the target cuts a tile, an
-- array of more than one cell reaches out of the target
unfoldable pub range_tested : Along → FillRange → Sheet → Result FillRange EditError
range_tested a f sheet =
    if list_any (is_partial f) sheet.merges then Err PartialMerge
    else if list_any (cuts_tile a f) sheet.merges then Err CutMerge
    else if list_any (is_cut f) (large_arrays_of sheet) then Err PartialArray
    else Ok f
