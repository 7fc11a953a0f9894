use Rattle.std.proofs.Common.{◌≡◌, length}
use Rattle.defined_names.specs.Names.{is_same_name}
use Rattle.sheet_rules.specs.Distinct.{are_distinct}
use Rattle.sheet_rules.proofs.defined.are_distinct.Given as goal

-- what is left is distinct exactly where all of it is
abbrev pub invariant-loop-first : goal.invariant-loop-first
invariant-loop-first l = are_distinct is_same_name l.rest ≡ are_distinct is_same_name l.fn.names

abbrev pub decreases-loop-first : goal.decreases-loop-first
decreases-loop-first l = length l.rest
