use Rattle.std.proofs.Common.{◌≡◌, ◌++◌}
use Rattle.std.specs.List.{flat_map}
use Rattle.script_dump.specs.Dump.{attr_line}
use Rattle.script_dump.proofs.lines.push_attrs.Given as goal

-- what is written, and the rows or columns that are left
abbrev pub invariant-loop-number : goal.invariant-loop-number
invariant-loop-number l =
    (goal.iterator-loop-number).can_next l.number-iterator ×
    (goal.iterator-loop-number).is_finite l.number-iterator ×
    (l.out.items ++ flat_map (attr_line l.word) l.number-iterator ≡ l.fn.out.items ++ flat_map (attr_line l.word) l.fn.attrs)
