-- The height that a text asks for.
use Rattle.std.proofs.Common.{ℕ, ◌+◌, ◌*◌, ℤ, pos, Option, Some}
use Rattle.std.specs.Prelude.{◌==◌, int_lt, min, unsigned_abs, List, filter, length, if◌then◌else◌}
use Rattle.sheet_grid.specs.declared.LineAttr.{LineAttr}
use Rattle.sheet_grid.specs.Lines.{actual_size, usual_height}
use Rattle.line_sizes.specs.declared.change.LineChange.TheVariants.{Size}
use Rattle.line_sizes.specs.LineChanges.{changed_entry}

-- how many line feeds a text has
abbrev pub line_feeds : List ℕ → ℕ
line_feeds text = length (filter (λ byte. byte == 10) text)

-- three times the size of the font for each line feed, twice the size for the last line, and 16
abbrev pub full_height : ℕ → ℕ → ℕ
full_height feeds size = (3 * feeds + 2) * size + 16

-- that height, at most the greatest number of an i32. The size of a font is at least 1
abbrev pub needed_height : ℕ → ℤ → ℤ
needed_height feeds size = pos (min (full_height feeds (unsigned_abs size)) 2147483647)

-- what a row has where a text asks for a height: that height where it is greater than the row's, which may be hidden
abbrev pub raised_entry : ℤ → Option LineAttr → Option LineAttr
raised_entry needed entry = if int_lt (actual_size usual_height entry) needed then changed_entry (Size (Some needed)) entry else entry
