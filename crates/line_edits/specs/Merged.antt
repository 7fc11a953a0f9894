-- What an edit makes of a merge, which stands from a first to a last line and is so many cross lines wide.
use Rattle.std.specs.Prelude.{ℤ, pos, ◌+ℤ◌, ◌-ℤ◌, ◌≤ℤ◌, ◌&&◌, ◌||◌, Option, Some, None, int_lt, if◌then◌else◌}
use Rattle.std.specs.Ordering.{int_eq}
use Rattle.base_values.specs.Places.{IsLine}
use Rattle.line_edits.specs.declared.edit.EditKind.{EditKind}
use Rattle.line_edits.specs.declared.edit.EditKind.TheVariants.{Insert, Delete, Move}
use Rattle.line_edits.specs.Edit.{moved_by}
use Rattle.line_edits.specs.Splits.{splits}

-- lines of the axis, in order
abbrev pub AreLines : ℤ → ℤ → ℤ → Type 0
AreLines last first end = IsLine last first × IsLine last end × (first ≤ℤ end)

-- a line that stands where lines come, or behind, goes on by as many
abbrev pub pushed_on : ℤ → ℤ → ℤ → ℤ
pushed_on start count n = if int_lt n start then n else n +ℤ count

-- the line, or the last one of the axis where it is past it
abbrev pub cut_to : ℤ → ℤ → ℤ
cut_to last n = if int_lt last n then last else n

-- a line of a block that goes, as the first of a merge, becomes the line that comes to stand there; as the last of one, the line
-- before the block. A line behind the block falls by as many
abbrev pub fallen_to : ℤ → ℤ → ℤ → ℤ → ℤ
fallen_to start count there n = if int_lt n start then n else if int_lt n (start +ℤ count) then there else n -ℤ count

-- a merge is dropped where it has no line left, or one cell
unfoldable pub if_merge : ℤ → ℤ → ℤ → Option (ℤ × ℤ)
if_merge across first end = if int_lt end first || (int_eq first end && int_eq across (pos 1)) then None else Some (first, end)

-- what is left of it. A move takes both lines along; what it splits stays
unfoldable pub merged_by : ℤ → EditKind → ℤ → ℤ → ℤ → Option (ℤ × ℤ)
merged_by last (Insert start count) first end across = if_merge across (pushed_on start count first) (cut_to last (pushed_on start count end))
merged_by last (Delete start count) first end across = if_merge across (fallen_to start count start first) (fallen_to start count (start -ℤ pos 1) end)
merged_by last (Move start count delta) first end across =
    if splits (Move start count delta) first end then Some (first, end) else Some (first +ℤ moved_by start count delta first, end +ℤ moved_by start count delta end)
