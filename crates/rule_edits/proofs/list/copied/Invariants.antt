use Rattle.std.proofs.Common.{◌≡◌, take}
use Rattle.rule_edits.proofs.list.copied.Given as goal

abbrev pub invariant-loop-formatting : goal.invariant-loop-formatting
invariant-loop-formatting l = l.copies ≡ take l.formatting-index l.rules
