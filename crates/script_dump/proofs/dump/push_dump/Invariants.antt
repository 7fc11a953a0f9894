use Rattle.std.proofs.Common.{◌≡◌, ◌++◌, take}
use Rattle.std.specs.List.{flat_map}
use Rattle.script_dump.specs.Dump.{head_lines, sheet_lines}
use Rattle.script_dump.proofs.dump.push_dump.Given as goal

abbrev pub invariant-loop-sheet : goal.invariant-loop-sheet
invariant-loop-sheet l = l.out.items ≡ (l.fn.out.items ++ head_lines l.workbook) ++ flat_map sheet_lines (take l.sheet-index l.sheet-items)
