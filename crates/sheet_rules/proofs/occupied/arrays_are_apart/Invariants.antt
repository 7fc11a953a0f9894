use Rattle.std.proofs.Common.{◌≡◌, length, map}
use Rattle.sheet_grid.specs.Arrays.{large_arrays_of}
use Rattle.sheet_rules.specs.Occupied.{are_apart}
use Rattle.sheet_rules.proofs.occupied.arrays_are_apart.Given as goal

-- no two of what is left meet exactly where no two of all do
abbrev pub invariant-loop-first : goal.invariant-loop-first
invariant-loop-first l = are_apart (map (λ array. array.1) l.rest) ≡ are_apart (large_arrays_of l.fn.sheet)

abbrev pub decreases-loop-first : goal.decreases-loop-first
decreases-loop-first l = length l.rest
