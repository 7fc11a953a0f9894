-- A block of lines that moves, as moves of single lines.
use Rattle.std.specs.Prelude.{ℕ, zero, suc, ℤ, pos, ◌+ℤ◌, Option, Some, int_lt, if◌then◌else◌}
use Rattle.line_edits.specs.declared.edit.EditKind.TheVariants.{Move}
use Rattle.line_edits.specs.Edit.{amount}
use Rattle.base_maps.specs.Carried.{if_there}
use Rattle.line_edits.specs.Edit.{image_at}

-- where a line goes when so many lines from the first on move one by one, the last of them first
unfoldable pub far_first : ℤ → ℤ → ℤ → ℕ → ℤ → Option ℤ
far_first last first delta zero n = Some n
far_first last first delta (suc k) n = if_there (image_at last (Move (first +ℤ pos k) (pos 1) delta) n) (far_first last first delta k)

-- the same, the first of them first
unfoldable pub near_first : ℤ → ℤ → ℤ → ℕ → ℤ → Option ℤ
near_first last first delta zero n = Some n
near_first last first delta (suc k) n = if_there (image_at last (Move first (pos 1) delta) n) (near_first last (first +ℤ pos 1) delta k)

-- the near end first where the block goes back, and else the far end first
abbrev pub line_by_line : ℤ → ℤ → ℤ → ℤ → ℤ → Option ℤ
line_by_line last first count delta n = if int_lt delta (pos 0) then near_first last first delta (amount count) n else far_first last first delta (amount count) n
