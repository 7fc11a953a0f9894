-- Where the lines of an axis go when some of them are displaced. An axis has the lines 1 to `last`; any other number goes nowhere.
use Rattle.std.specs.Prelude.{ℤ, pos, ◌+ℤ◌, ◌-ℤ◌, ◌&&◌, if◌then◌else◌, int_lt, int_le, Option, Some, None}
use Rattle.std.specs.Ordering.{int_eq}
use Rattle.base_values.specs.Places.{is_line, as_line}

-- the image of a line of the axis
abbrev pub image_within : (ℤ → Option ℤ) → Option ℤ → Option ℤ
image_within image None = None
image_within image (Some line) = image line

-- the lines from `first` on go on by `delta`. Where that is less than 0, those from `first` to `first - delta - 1` are lost
unfoldable pub goes_on : ℤ → ℤ → ℤ → ℤ → Option ℤ
goes_on last first delta line =
    if int_lt line first then Some line
    else if int_lt line (first -ℤ delta) then None
    else as_line last (line +ℤ delta)

-- the line `moved` goes on by `delta`, and each line that it passes goes one line the other way
unfoldable pub steps : ℤ → ℤ → ℤ → ℤ → Option ℤ
steps last moved delta line =
    if int_eq line moved then as_line last (line +ℤ delta)
    else if int_lt moved line && int_le line (moved +ℤ delta) then as_line last (line -ℤ pos 1)
    else if int_le (moved +ℤ delta) line && int_lt line moved then as_line last (line +ℤ pos 1)
    else Some line

-- where a line goes when lines are shifted, and when one moves
abbrev pub shifted : ℤ → ℤ → ℤ → ℤ → Option ℤ
shifted last first delta line = image_within (goes_on last first delta) (as_line last line)

abbrev pub stepped : ℤ → ℤ → ℤ → ℤ → Option ℤ
stepped last moved delta line = image_within (steps last moved delta) (as_line last line)
