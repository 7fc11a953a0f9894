use Rattle.std.proofs.Common.{◌≡◌, ◌+◌, ◌^◌, ◌<◌, ◌≤◌, length}
use Rattle.std.specs.Int.Digits.{digits_of}
use Rattle.base_decimal.proofs.decimal.excess.Given as goal

abbrev pub invariant-loop-rest : goal.invariant-loop-rest
invariant-loop-rest l = record {
  total : (length (digits_of 10 l.initial.rest) ≡ l.dropped + length (digits_of 10 l.rest));
  large : (0 < l.dropped → 10 ^ 14 ≤ l.rest);
}

abbrev pub decreases-loop-rest : goal.decreases-loop-rest
decreases-loop-rest l = l.rest
