use Rattle.std.specs.List.{All}
use Rattle.std.specs.FinMap.{entries}
use Rattle.base_values.specs.Places.{IsLine}
use Rattle.edit_plans.specs.HiddenLines.{is_hidden_between}
use Rattle.edit_plans.proofs.Counting.{Counts}
use Rattle.edit_plans.proofs.hidden.hidden_in.Given as goal

-- what was seen is counted, and the lines that are left are of the axis
abbrev pub invariant-loop-line : goal.invariant-loop-line
invariant-loop-line g l = Counts (is_hidden_between l.fn.first l.fn.last) (entries l.fn.lines) l.line-iterator l.count × All (λ entry. IsLine g.B.Axis.along.last entry.0) l.line-iterator
