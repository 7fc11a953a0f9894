use Rattle.std.proofs.Common.{◌≡◌, ◌≤◌, min, drop}
use Rattle.base_tables.specs.Word.{number_after}
use Rattle.base_tables.proofs.digits.capped_number.Given as goal

abbrev pub invariant-loop-c : goal.invariant-loop-c
invariant-loop-c l = record {
  so_far : (min (number_after l.number (drop l.c-index l.digits)) l.cap ≡ min (number_after l.initial.number l.digits) l.cap);
  small : (l.number ≤ l.cap);
}
