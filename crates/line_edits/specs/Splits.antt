-- Which edits split what stands from a first to a last line.
use Rattle.std.specs.Prelude.{ℤ, pos, ◌+ℤ◌, ◌-ℤ◌, Bool, ◌&&◌, ◌||◌, not, int_lt, int_le, if◌then◌else◌}
use Rattle.line_edits.specs.declared.edit.EditKind.{EditKind}
use Rattle.line_edits.specs.declared.edit.EditKind.TheVariants.{Insert, Delete, Move}

-- whether it has a line of a block: of so many lines from the first of them on
abbrev pub meets_block : ℤ → ℤ → ℤ → ℤ → Bool
meets_block start count first last = int_lt first (start +ℤ count) && int_le start last

-- whether all its lines are of a block
abbrev pub is_in_whole : ℤ → ℤ → ℤ → ℤ → Bool
is_in_whole start count first last = int_le start first && int_lt last (start +ℤ count)

-- the first of the lines that a block passes which moves, and how many it passes
abbrev pub passed_from : ℤ → ℤ → ℤ → ℤ
passed_from start count delta = if int_lt delta (pos 0) then start +ℤ delta else start +ℤ count

abbrev pub passed_count : ℤ → ℤ
passed_count delta = if int_lt delta (pos 0) then pos 0 -ℤ delta else delta

-- an insertion splits what stands on both sides of it; a deletion what it leaves a part of; and a move what has lines that go, and
-- does not go as a whole
unfoldable pub splits : EditKind → ℤ → ℤ → Bool
splits (Insert start count) first last = int_lt first start && int_le start last
splits (Delete start count) first last = meets_block start count first last && not (is_in_whole start count first last)
splits (Move start count delta) first last =
    (meets_block start count first last || meets_block (passed_from start count delta) (passed_count delta) first last)
    && not (is_in_whole start count first last || is_in_whole (passed_from start count delta) (passed_count delta) first last)
