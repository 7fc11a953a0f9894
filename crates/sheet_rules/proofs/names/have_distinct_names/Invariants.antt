use Rattle.std.proofs.Common.{◌≡◌, length}
use Rattle.base_tables.specs.Folding.{same_folded}
use Rattle.sheet_rules.specs.WellFormed.{are_distinct, names_of}
use Rattle.sheet_rules.proofs.names.have_distinct_names.Given as goal

-- what is left is distinct exactly where all of it is
abbrev pub invariant-loop-first : goal.invariant-loop-first
invariant-loop-first l = are_distinct same_folded (names_of l.rest) ≡ are_distinct same_folded (names_of l.fn.sheets)

abbrev pub decreases-loop-first : goal.decreases-loop-first
decreases-loop-first l = length l.rest
