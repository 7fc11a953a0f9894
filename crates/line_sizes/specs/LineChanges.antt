-- What a change makes of what lines have of their own.
use Rattle.std.proofs.Common.{ℕ, zero, suc, ℤ, pos, ◌+ℤ◌, ◌-ℤ◌, Bool, Option, Some, Result, Ok, Err}
use Rattle.std.specs.Prelude.{◌&&◌, int_le, unsigned_abs, if◌then◌else◌}
use Rattle.std.specs.Ordering.{int_cmp}
use Rattle.std.specs.FinMap.{FinMap, get}
use Rattle.base_values.specs.declared.EditError.{EditError}
use Rattle.base_values.specs.declared.EditError.TheVariants.{InvalidArea}
use Rattle.base_values.specs.Answers.{map_ok}
use Rattle.base_values.specs.KeyMap.{with_entry}
use Rattle.sheet_grid.specs.declared.LineAttr.{LineAttr}
use Rattle.sheet_grid.specs.Lines.{attr_of, stored_line, own_width, size_of, with_hidden, with_size}
use Rattle.line_sizes.specs.declared.change.LineChange.{LineChange}
use Rattle.line_sizes.specs.declared.change.LineChange.TheVariants.{Size, Hidden}

-- what a line has after a change
abbrev pub after_change : LineChange → LineAttr → LineAttr
after_change (Size size) attr = with_size size attr
after_change (Hidden hidden) attr = with_hidden hidden attr

-- its entry then; a line that is left with nothing has none
abbrev pub changed_entry : LineChange → Option LineAttr → Option LineAttr
changed_entry change entry = stored_line (Some (after_change change (attr_of entry)))

-- the change of rows to a height, which is their own also where it is the usual one; one below 0 is refused
abbrev pub height_change : ℤ → Result LineChange EditError
height_change height = map_ok (λ size. Size (Some size)) (size_of height)

-- the change of columns to a width: the usual one is not their own
abbrev pub width_change : ℤ → Result LineChange EditError
width_change width = map_ok (λ size. Size (own_width size)) (size_of width)

-- ---- lines from a first to a last

-- both are lines of an axis that ends with a line, and the last one is not before the first
abbrev pub has_lines : ℤ → ℤ → ℤ → Bool
has_lines end first last = int_le (pos 1) first && int_le first last && int_le last end

-- how many there are; none where the last one is just before the first
abbrev pub line_count : ℤ → ℤ → ℕ
line_count first last = unsigned_abs ((last -ℤ first) +ℤ pos 1)

-- how many there are, or the refusal where they are not lines of the axis
unfoldable pub lines_from : ℤ → ℤ → ℤ → Result ℕ EditError
lines_from end first last = if has_lines end first last then Ok (line_count first last) else Err InvalidArea

-- the lines of a sheet where so many from a first one on are changed
abbrev pub lines_changed : LineChange → FinMap int_cmp LineAttr → ℤ → ℕ → FinMap int_cmp LineAttr
lines_changed change lines first zero = lines
lines_changed change lines first (suc more) =
    with_entry (lines_changed change lines first more) (first +ℤ pos more) (changed_entry change (get lines (first +ℤ pos more)))
