use Rattle.std.proofs.Common.{◌≡◌, ◌+◌, drop}
use Rattle.std.specs.List.{prefix_len}
use Rattle.sheet_progress.specs.Numbers.{is_other}
use Rattle.sheet_progress.proofs.number.place_of.Given as goal

abbrev pub invariant-loop-at : goal.invariant-loop-at
invariant-loop-at l = prefix_len (is_other l.sign) l.text ≡ l.at + prefix_len (is_other l.sign) (drop l.at l.text)
