-- The places of a rectangle, line by line.
use Rattle.std.proofs.Common.{ℕ, ℤ, pos, ◌+ℤ◌}
use Rattle.std.specs.Prelude.{unsigned_abs}
use Rattle.base_values.specs.declared.Position.{Position}
use Rattle.base_axis.specs.declared.MergedCell.{MergedCell}
use Rattle.base_axis.specs.Along.{Along}
use Rattle.base_axis.specs.Rectangles.{across}

-- the place of a rectangle on a line that stands so many cross lines behind its first one
abbrev pub place_across : Along → MergedCell → ℤ → ℕ → Position
place_across a r line index =
    a.with_line (record { row = a.count_of r.column r.row +ℤ pos index; column = a.count_of r.column r.row +ℤ pos index }) line

-- how many places of a rectangle are on each line
abbrev pub count_across : Along → MergedCell → ℕ
count_across a r = unsigned_abs (across a r)
