use Rattle.std.proofs.Common.{◌≡◌, ◌==◌, length}
use Rattle.sheet_rules.specs.WellFormed.{are_distinct, ids_of}
use Rattle.sheet_rules.proofs.ids.have_distinct_ids.Given as goal

-- what is left is distinct exactly where all of it is
abbrev pub invariant-loop-first : goal.invariant-loop-first
invariant-loop-first l = are_distinct (λ a b. a == b) (ids_of l.rest) ≡ are_distinct (λ a b. a == b) (ids_of l.fn.sheets)

abbrev pub decreases-loop-first : goal.decreases-loop-first
decreases-loop-first l = length l.rest
