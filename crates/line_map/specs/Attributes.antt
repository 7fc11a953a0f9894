-- What the lines of a sheet have of their own, carried along.
use Rattle.std.specs.Prelude.{ℕ, zero, suc, ℤ, pos, ◌+ℤ◌, ◌-ℤ◌, Bool, true, false, ◌&&◌, List, [], Option, Some, None, if◌then◌else◌}
use Rattle.std.specs.FinMap.{FinMap, empty, get}
use Rattle.std.specs.List.{cons_option}
use Rattle.std.specs.Ordering.{int_cmp}
use Rattle.base_values.specs.Places.{IsLine, is_line, as_line}
use Rattle.base_axis.specs.Along.{Along}
use Rattle.base_maps.specs.Carried.{if_there, map_at, moved_map, overlaid}
use Rattle.line_edits.specs.declared.Block.{Block}
use Rattle.line_edits.specs.Edit.{amount}
use Rattle.line_edits.specs.Moves.{is_brought}
use Rattle.line_map.specs.Keys.{KeysAre}
use Rattle.line_routes.specs.RouteModel.{RouteModel, back, is_along}

-- whether lines of an axis go along the map: those of the edited axis of the edited sheet
abbrev pub line_goes_along : Along → RouteModel → Bool
line_goes_along b w = w.is_edited && is_along w.along b

-- where a line of an axis goes
abbrev pub line_goes : Along → RouteModel → ℤ → Option ℤ
line_goes b w n = if line_goes_along b w then w.moves.to n else Some n

-- so many lines from a first one on, as far as they are lines of the axis
abbrev pub lines_from : ℤ → ℤ → ℕ → List ℤ
lines_from last first zero = []
lines_from last first (suc more) = cons_option (as_line last (first +ℤ pos more)) (lines_from last first more)

-- those of a block, if there is one
abbrev pub block_lines : ℤ → Option Block → List ℤ
block_lines last None = []
block_lines last (Some block) = lines_from last block.first (amount block.count)

module _ {X : Type 0} where
  -- what lines take that come to stand between two others: what both of these have, where that is the same
  abbrev pub heir : (X → X → Bool) → Option X → Option X → Option X
  heir same (Some a) (Some b) = if same a b then Some a else None
  heir same (Some a) None = None
  heir same None b = None

  -- what a line has that is brought in: a column what the columns before and behind the block both had before, if it was the same, a row nothing
  abbrev pub line_brought : Along → (X → X → Bool) → FinMap int_cmp X → Block → Option X
  line_brought b same m block = if b.of false true then heir same (get m (block.first -ℤ pos 1)) (get m block.first) else None

  -- what the lines have that are brought in, as far as they are lines of the axis
  abbrev pub heirs : Along → (X → X → Bool) → Option Block → FinMap int_cmp X → FinMap int_cmp X
  heirs b same inserted m =
      map_at (block_lines b.last inserted) (λ n. if is_brought inserted n && is_line b.last n then if_there inserted (line_brought b same m) else None)

  -- what was carried along, with what the lines have that are brought in
  abbrev pub lines_brought : Along → (X → X → Bool) → RouteModel → FinMap int_cmp X → FinMap int_cmp X → FinMap int_cmp X
  lines_brought b same w m carried = if line_goes_along b w then overlaid (heirs b same w.moves.inserted m) carried else carried

  -- the entries of lines go where their lines go, and lines that are brought in have what they take
  abbrev pub lines_carried : Along → (X → X → Bool) → RouteModel → FinMap int_cmp X → FinMap int_cmp X
  lines_carried b same w m = lines_brought b same w m (moved_map (line_goes b w) (line_goes b (back w)) m)

  -- the entries of lines where their lines came from, with those that went nowhere
  abbrev pub lines_restored : Along → RouteModel → FinMap int_cmp X → FinMap int_cmp X → FinMap int_cmp X
  lines_restored b w m lost = overlaid (if line_goes_along b w then lost else empty) (moved_map (line_goes b (back w)) (line_goes b w) m)

  -- every entry is that of a line of the axis
  abbrev pub LinesInside : Along → FinMap int_cmp X → Type 0
  LinesInside b m = KeysAre (IsLine b.last) m
