-- Which line is selected where lines are hidden.
use Rattle.std.proofs.Common.{ℕ, zero, suc, ℤ, pos, ◌+ℤ◌, ◌-ℤ◌, Option, Some, None}
use Rattle.std.specs.Prelude.{if◌then◌else◌}
use Rattle.std.specs.Option.{option_or, unwrap_or}
use Rattle.std.specs.Ordering.{int_cmp}
use Rattle.std.specs.FinMap.{FinMap, get}
use Rattle.sheet_grid.specs.declared.LineAttr.{LineAttr}
use Rattle.sheet_grid.specs.Lines.{is_hidden}
use Rattle.line_sizes.specs.LineChanges.{line_count}

-- the first line that is shown of so many from one on
abbrev pub shown_from : FinMap int_cmp LineAttr → ℤ → ℕ → Option ℤ
shown_from lines first zero = None
shown_from lines first (suc more) = if is_hidden (get lines first) then shown_from lines (first +ℤ pos 1) more else Some first

-- the nearest line that is shown of so many up to one
abbrev pub shown_before : FinMap int_cmp LineAttr → ℤ → ℕ → Option ℤ
shown_before lines line zero = None
shown_before lines line (suc more) = if is_hidden (get lines line) then shown_before lines (line -ℤ pos 1) more else Some line

-- the next line that is shown behind those from a first to a last, else the nearest one before them, else the first line of the axis
abbrev pub next_shown : ℤ → FinMap int_cmp LineAttr → ℤ → ℤ → ℤ
next_shown end lines first last =
    unwrap_or (option_or (shown_from lines (last +ℤ pos 1) (line_count (last +ℤ pos 1) end)) (shown_before lines (first -ℤ pos 1) (line_count (pos 1) (first -ℤ pos 1)))) (pos 1)
