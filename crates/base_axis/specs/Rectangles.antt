-- Rectangles of places of a sheet, whatever their numbers are: the sums are those of whole numbers, without a bound.
use Rattle.std.proofs.Common.{ℤ, pos, ◌+ℤ◌, ◌-ℤ◌, ◌≤ℤ◌, Bool, ◌&&◌}
use Rattle.std.specs.Prelude.{◌||◌, int_le, int_lt}
use Rattle.base_values.specs.declared.Position.{Position}
use Rattle.base_values.specs.Places.{IsPlace}
use Rattle.base_axis.specs.declared.merged_cell.MergedCell.{MergedCell}
use Rattle.base_axis.specs.Along.{Along}

-- the last of so many lines
abbrev pub last_of : ℤ → ℤ → ℤ
last_of first count = first +ℤ (count -ℤ pos 1)

abbrev pub last_row : MergedCell → ℤ
last_row r = last_of r.row r.height

abbrev pub last_column : MergedCell → ℤ
last_column r = last_of r.column r.width

-- its first place, which is the one that a merge shows
abbrev pub anchor_place : MergedCell → Position
anchor_place r = record { row = r.row; column = r.column }

-- its last place
abbrev pub last_place : MergedCell → Position
last_place r = record { row = last_row r; column = last_column r }

-- one line or more, none of them before the first line of an axis or after its last
abbrev pub are_lines_inside : ℤ → ℤ → ℤ → Bool
are_lines_inside last first count = int_le (pos 1) first && (int_le (pos 1) count && int_le (last_of first count) last)

-- it has a place, and all its places are of the sheet
unfoldable pub is_inside : MergedCell → Bool
is_inside r = are_lines_inside (pos 1048576) r.row r.height && are_lines_inside (pos 16384) r.column r.width

-- the same, part by part
pub record IsInside (r : MergedCell) : Type 0 where
  pub wide : pos 1 ≤ℤ r.width
  pub high : pos 1 ≤ℤ r.height
  pub first : IsPlace (anchor_place r)
  pub last : IsPlace (last_place r)

-- a line is one of those from a first to a last
abbrev pub is_between : ℤ → ℤ → ℤ → Bool
is_between first last line = int_le first line && int_le line last

-- a place is one of its places
unfoldable pub holds : MergedCell → Position → Bool
holds r place = is_between r.row (last_row r) place.row && is_between r.column (last_column r) place.column

-- it has more than one place
unfoldable pub has_many : MergedCell → Bool
has_many r = int_lt (pos 1) r.width || int_lt (pos 1) r.height

-- lines from a first to a last, and others: neither begin after the others' end
abbrev pub overlap : ℤ → ℤ → ℤ → ℤ → Bool
overlap first last first_other last_other = int_le first last_other && int_le first_other last

-- two rectangles share a row and a column
unfoldable pub meets : MergedCell → MergedCell → Bool
meets r s = overlap r.row (last_row r) s.row (last_row s) && overlap r.column (last_column r) s.column (last_column s)

-- lines from a first to a last are among others
abbrev pub is_part : ℤ → ℤ → ℤ → ℤ → Bool
is_part first last first_other last_other = int_le first_other first && int_le last last_other

-- the rows of one are rows of another, and so are its columns
unfoldable pub is_inside_of : MergedCell → MergedCell → Bool
is_inside_of r s = is_part r.row (last_row r) s.row (last_row s) && is_part r.column (last_column r) s.column (last_column s)

-- ---- along an axis

-- the line on which it begins
abbrev pub first_line : Along → MergedCell → ℤ
first_line a r = a.line (anchor_place r)

-- how many lines it takes
abbrev pub line_count : Along → MergedCell → ℤ
line_count a r = a.count_of r.height r.width

-- the line on which it ends
abbrev pub last_line : Along → MergedCell → ℤ
last_line a r = last_of (first_line a r) (line_count a r)

-- how many cross lines it takes
abbrev pub across : Along → MergedCell → ℤ
across a r = a.count_of r.width r.height

-- how many lines stand from a first to a last
abbrev pub line_span : ℤ → ℤ → ℤ
line_span first last = (last -ℤ first) +ℤ pos 1

-- the rectangle from a first line to a last, on the same cross lines
abbrev pub with_lines : Along → MergedCell → ℤ → ℤ → MergedCell
with_lines a r first last = record {
  row = (a.with_line (anchor_place r) first).row;
  column = (a.with_line (anchor_place r) first).column;
  width = a.count_of r.width (line_span first last);
  height = a.count_of (line_span first last) r.height;
}
