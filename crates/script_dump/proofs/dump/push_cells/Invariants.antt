use Rattle.std.proofs.Common.{◌≡◌, ◌++◌}
use Rattle.std.specs.Prelude.{All}
use Rattle.std.specs.FinMap as fin
use Rattle.std.specs.List.{flat_map}
use Rattle.base_values.specs.Places.{IsPlace}
use Rattle.script_dump.specs.Dump.{cell_line}
use Rattle.script_dump.proofs.dump.push_cells.Given as goal

-- what is written, and the cells that are left
abbrev pub invariant-loop-place : goal.invariant-loop-place
invariant-loop-place l =
    (goal.iterator-loop-place).can_next l.place-iterator ×
    (goal.iterator-loop-place).is_finite l.place-iterator ×
    All (λ entry. IsPlace entry.0) l.place-iterator ×
    (l.out.items ++ flat_map cell_line l.place-iterator ≡ l.fn.out.items ++ flat_map cell_line (fin.entries l.sheet.cells))
