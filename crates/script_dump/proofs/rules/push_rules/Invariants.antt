use Rattle.std.proofs.Common.{◌≡◌, ◌++◌, take}
use Rattle.std.specs.List.{flat_map}
use Rattle.script_dump.specs.Dump.{rule_line}
use Rattle.script_dump.proofs.rules.push_rules.Given as goal

abbrev pub invariant-loop-formatting : goal.invariant-loop-formatting
invariant-loop-formatting l = l.out.items ≡ l.fn.out.items ++ flat_map rule_line (take l.formatting-index l.formatting-items)
