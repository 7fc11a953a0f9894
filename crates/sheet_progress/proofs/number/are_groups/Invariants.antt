use Rattle.std.proofs.Common.{◌≡◌, length}
use Rattle.sheet_progress.specs.Numbers.{are_groups}
use Rattle.sheet_progress.proofs.number.are_groups.Given as goal

-- the groups that are left decide
abbrev pub invariant-loop-rest : goal.invariant-loop-rest
invariant-loop-rest l = are_groups l.sign l.text ≡ are_groups l.sign l.rest

abbrev pub decreases-loop-rest : goal.decreases-loop-rest
decreases-loop-rest l = length l.rest
