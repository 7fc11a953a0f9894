use Rattle.std.proofs.Common.{◌≡◌, ◌-◌, pos, ◌+ℤ◌}
use Rattle.line_sizes.specs.ShownLines.{shown_from}
use Rattle.line_sizes.proofs.shown.shown_from.Given as goal

-- the lines passed are hidden
abbrev pub invariant-loop-index : goal.invariant-loop-index
invariant-loop-index g l = shown_from l.lines l.first l.count ≡ shown_from l.lines (l.first +ℤ pos l.index) (l.count - l.index)
