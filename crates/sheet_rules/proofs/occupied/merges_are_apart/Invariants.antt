use Rattle.std.proofs.Common.{◌≡◌, length}
use Rattle.sheet_rules.specs.Occupied.{are_apart}
use Rattle.sheet_rules.proofs.occupied.merges_are_apart.Given as goal

-- no two of what is left meet exactly where no two of all do
abbrev pub invariant-loop-first : goal.invariant-loop-first
invariant-loop-first l = are_apart l.rest ≡ are_apart l.fn.merges

abbrev pub decreases-loop-first : goal.decreases-loop-first
decreases-loop-first l = length l.rest
