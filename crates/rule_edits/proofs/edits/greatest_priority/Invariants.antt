use Rattle.std.proofs.Common.{◌≡◌, max, drop}
use Rattle.rule_edits.specs.RuleEdits.{greatest_priority}
use Rattle.rule_edits.proofs.edits.greatest_priority.Given as goal

-- with those of the other rules it gives the greatest
abbrev pub invariant-loop-formatting : goal.invariant-loop-formatting
invariant-loop-formatting l = max l.greatest (greatest_priority (drop l.formatting-index l.rules)) ≡ greatest_priority l.rules
