-- Where lines go under an edit.
use Rattle.std.proofs.Common.{◌≡◌, ℤ, pos, ◌+ℤ◌, ◌-ℤ◌, Bool, true, Option, Some, None}
use Rattle.std.specs.Prelude.{ℕ, negsuc, int_lt, int_le, ◌&&◌, if◌then◌else◌}
use Rattle.base_values.specs.Places.{is_line, as_line}
use Rattle.line_edits.specs.declared.edit.EditKind.{EditKind}
use Rattle.line_edits.specs.declared.edit.EditKind.TheVariants.{Insert, Delete, Move}

-- how many: none of a number below 0
abbrev pub amount : ℤ → ℕ
amount (pos n) = n
amount (negsuc n) = 0

-- whether a line is one of so many from the first of them on
unfoldable pub is_in_block : ℤ → ℤ → ℤ → Bool
is_in_block first count n = int_le first n && int_lt n (first +ℤ count)

-- how far a line goes when a block of lines moves: the block goes on by delta, and the lines that it passes go by its count the
-- other way. A block that moves up passes the lines above it
unfoldable pub moved_by : ℤ → ℤ → ℤ → ℤ → ℤ
moved_by first count delta n =
    if is_in_block first count n then delta
    else if is_in_block (first +ℤ count) delta n then pos 0 -ℤ count
    else if is_in_block (first +ℤ delta) (pos 0 -ℤ delta) n then count
    else pos 0

-- where a line of the axis goes. Lines before an insertion or a deletion stay
unfoldable pub goes_to : ℤ → EditKind → ℤ → Option ℤ
goes_to last (Insert first count) n = if int_lt n first then Some n else as_line last (n +ℤ count)
goes_to last (Delete first count) n = if int_lt n first then Some n else if int_lt n (first +ℤ count) then None else as_line last (n -ℤ count)
goes_to last (Move first count delta) n = as_line last (n +ℤ moved_by first count delta n)

-- where a line goes: none for one that is lost, and for one that is not of the axis
unfoldable pub image_at : ℤ → EditKind → ℤ → Option ℤ
image_at last kind n = if is_line last n then goes_to last kind n else None

-- the edit that takes the lines back
unfoldable pub opposite_of : EditKind → EditKind
opposite_of (Insert first count) = Delete first count
opposite_of (Delete first count) = Insert first count
opposite_of (Move first count delta) = Move (first +ℤ delta) count (pos 0 -ℤ delta)

-- whether an edit begins on a line of the axis, and is of 1 to all lines
abbrev pub begins_inside : ℤ → ℤ → ℤ → Bool
begins_inside last first count = is_line last first && is_line last count

-- whether its numbers are those of an edit of the axis. A block that moves, and where it goes, lie on the axis
unfoldable pub is_valid : ℤ → EditKind → Bool
is_valid last (Insert first count) = begins_inside last first count
is_valid last (Delete first count) = begins_inside last first count
is_valid last (Move first count delta) =
    (begins_inside last first count && int_le (first +ℤ count) (last +ℤ pos 1)) && (int_le (pos 1) (first +ℤ delta) && int_le ((first +ℤ count) +ℤ delta) (last +ℤ pos 1))

abbrev pub IsValid : ℤ → EditKind → Type 0
IsValid last kind = is_valid last kind ≡ true
