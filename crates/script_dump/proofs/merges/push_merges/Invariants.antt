use Rattle.std.proofs.Common.{◌≡◌, ◌++◌, take}
use Rattle.std.specs.List.{flat_map}
use Rattle.script_dump.specs.Dump.{merge_line}
use Rattle.script_dump.proofs.merges.push_merges.Given as goal

abbrev pub invariant-loop-merge : goal.invariant-loop-merge
invariant-loop-merge l = l.out.items ≡ l.fn.out.items ++ flat_map merge_line (take l.merge-index l.merge-items)
