-- What a fill goes on from, which lines it fills, and which line of the source each of them repeats.
use Rattle.std.proofs.Common.{ℕ, ℤ, pos, ◌+ℤ◌, ◌-ℤ◌, Bool, true, false, Result, Ok, Err}
use Rattle.std.specs.Prelude.{◌%◌, int_lt, not, unsigned_abs, if◌then◌else◌}
use Rattle.base_values.specs.declared.EditError.{EditError}
use Rattle.base_values.specs.declared.EditError.TheVariants.{InvalidArea, NothingToFill}
use Rattle.base_values.specs.declared.Position.{Position}
use Rattle.base_values.specs.Places.{is_line}
use Rattle.base_axis.specs.declared.Area.{Area}
use Rattle.base_axis.specs.declared.MergedCell.{MergedCell}
use Rattle.base_axis.specs.Along.{Along, outside}
use Rattle.base_axis.specs.Rectangles.{IsInside, is_inside, first_line, last_line, line_count, with_lines}
use Rattle.sheet_fill.specs.declared.range.FillRange.{FillRange}

-- the rectangle of an area
abbrev pub source_of : Area → MergedCell
source_of area = record { row = area.row; column = area.column; width = area.width; height = area.height }

-- the lines behind a source up to a line, on its cross lines
abbrev pub behind : Along → MergedCell → ℤ → FillRange
behind a source to = record { source = source; target = with_lines a source (last_line a source +ℤ pos 1) to; is_behind = true }

-- the lines before a source back to a line
abbrev pub ahead : Along → MergedCell → ℤ → FillRange
ahead a source to = record { source = source; target = with_lines a source to (first_line a source -ℤ pos 1); is_behind = false }

-- what is filled from a source up to a line, or the first refusal: the source is empty or reaches outside the sheet, the line is not one
-- of the axis, the line is one of the source's own
unfoldable pub range_of : Along → MergedCell → ℤ → Result FillRange EditError
range_of a source to =
    if not (is_inside source) then Err InvalidArea
    else if not (is_line a.last to) then Err (outside a)
    else if int_lt (last_line a source) to then Ok (behind a source to)
    else if int_lt to (first_line a source) then Ok (ahead a source to)
    else Err NothingToFill

-- the source and the target are inside the sheet
pub record IsRange (f : FillRange) : Type 0 where
  pub source : IsInside f.source
  pub target : IsInside f.target

-- ---- lines and places

-- how many lines a rectangle takes
abbrev pub lines : Along → MergedCell → ℕ
lines a r = unsigned_abs (line_count a r)

-- of lines from a first to a last, the one that so many others stand before where they are counted from the first on, or from the last
-- one back
abbrev pub counted_line : Bool → ℤ → ℤ → ℕ → ℤ
counted_line onwards first last n = if onwards then first +ℤ pos n else last -ℤ pos n

-- the line of the target that so many others of it stand nearer the source
abbrev pub target_line : Along → FillRange → ℕ → ℤ
target_line a f n = counted_line f.is_behind (first_line a f.target) (last_line a f.target) n

-- the line of the source that is repeated there: behind the source its lines repeat from its first one onwards, and before it from its
-- last one going back
abbrev pub source_line : Along → FillRange → ℕ → ℤ
source_line a f n = counted_line f.is_behind (first_line a f.source) (last_line a f.source) (n % lines a f.source)

-- the same on the cross line of a place
abbrev pub target_place : Along → FillRange → Position → ℕ → Position
target_place a f at n = a.with_line at (target_line a f n)

abbrev pub source_place : Along → FillRange → Position → ℕ → Position
source_place a f at n = a.with_line at (source_line a f n)
