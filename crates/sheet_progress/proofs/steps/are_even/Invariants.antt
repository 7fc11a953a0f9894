use Rattle.std.proofs.Common.{◌≡◌, ◌^◌, length}
use Rattle.std.specs.List.{All}
use Rattle.sheet_progress.specs.Steps.{are_even, IsWithin}
use Rattle.sheet_progress.proofs.steps.are_even.Given as goal

-- the numbers that are left decide
abbrev pub invariant-loop-rest : goal.invariant-loop-rest
invariant-loop-rest l = record {
  small : All (IsWithin (10 ^ 30)) l.rest;
  same : (are_even l.step l.numbers ≡ are_even l.step l.rest);
}

abbrev pub decreases-loop-rest : goal.decreases-loop-rest
decreases-loop-rest l = length l.rest
