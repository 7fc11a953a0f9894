-- The lines that an edit loses. They stand together.
use Rattle.std.specs.Prelude.{ℤ, pos, ◌+ℤ◌, ◌-ℤ◌, Bool, ◌&&◌, Option, Some, None, int_lt, int_le, if◌then◌else◌}
use Rattle.line_edits.specs.declared.edit.EditKind.{EditKind}
use Rattle.line_edits.specs.declared.edit.EditKind.TheVariants.{Insert, Delete, Move}

-- the first line that an insertion pushes past the end
abbrev pub pushed_from : ℤ → ℤ → ℤ → ℤ
pushed_from last first count = if int_lt first ((last -ℤ count) +ℤ pos 1) then (last -ℤ count) +ℤ pos 1 else first

-- the first and the last line that an edit of an axis loses
abbrev pub lost_from : ℤ → EditKind → ℤ
lost_from last (Insert first count) = pushed_from last first count
lost_from last (Delete first count) = first
lost_from last (Move first count delta) = pos 1

abbrev pub lost_to : ℤ → EditKind → ℤ
lost_to last (Insert first count) = last
lost_to last (Delete first count) = (first +ℤ count) -ℤ pos 1
lost_to last (Move first count delta) = pos 0

abbrev pub is_lost : ℤ → ℤ → ℤ → Bool
is_lost low high n = int_le low n && int_le n high

-- the line beside those lost, on the side of another line, if that lies there
abbrev pub beside : ℤ → ℤ → ℤ → Option ℤ
beside low high towards = if int_lt high towards then Some (high +ℤ pos 1) else if int_lt towards low then Some (low -ℤ pos 1) else None

-- of the lines from one towards another the first that is not lost
unfoldable pub beside_lost : ℤ → ℤ → ℤ → ℤ → Option ℤ
beside_lost low high line towards = if is_lost low high line then beside low high towards else Some line
