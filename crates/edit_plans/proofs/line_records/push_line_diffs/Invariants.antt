use Rattle.std.proofs.Common.{◌≡◌, ◌++◌}
use Rattle.sheet_history.specs.Diffs.{IsCanonicalList}
use Rattle.edit_plans.specs.LineRecords.{line_diffs}
use Rattle.edit_plans.proofs.line_records.push_line_diffs.Given as goal

-- the diffs of the lines passed stand behind the others
abbrev pub invariant-loop-index : goal.invariant-loop-index
invariant-loop-index g l = (l.list ≡ l.initial.list ++ line_diffs l.sheet l.axis l.change l.lines l.first l.index) × IsCanonicalList l.list
