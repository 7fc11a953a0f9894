use Rattle.std.proofs.Common.{◌≡◌, ◌≤◌}
use Rattle.base_decimal.specs.Value.{trim}
use Rattle.base_decimal.proofs.digits.trim.Given as goal

abbrev pub invariant-loop-places : goal.invariant-loop-places
invariant-loop-places l = record {
  same : (trim l.number l.places ≡ trim l.initial.number l.initial.places);
  below : (l.number ≤ l.initial.number);
}

abbrev pub decreases-loop-places : goal.decreases-loop-places
decreases-loop-places l = l.places
