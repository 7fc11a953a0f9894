use Rattle.std.proofs.Common.{◌≡◌, ◌-◌, pos, ◌-ℤ◌}
use Rattle.line_sizes.specs.ShownLines.{shown_before}
use Rattle.line_sizes.proofs.shown.shown_before.Given as goal

-- the lines passed are hidden
abbrev pub invariant-loop-index : goal.invariant-loop-index
invariant-loop-index g l = shown_before l.lines l.line l.count ≡ shown_before l.lines (l.line -ℤ pos l.index) (l.count - l.index)
