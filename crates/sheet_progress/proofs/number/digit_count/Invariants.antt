use Rattle.std.proofs.Common.{◌≡◌, ◌+◌, drop}
use Rattle.std.specs.List.{prefix_len}
use Rattle.base_tables.specs.Word.{is_digit}
use Rattle.sheet_progress.proofs.number.digit_count.Given as goal

abbrev pub invariant-loop-at : goal.invariant-loop-at
invariant-loop-at l = prefix_len is_digit l.text ≡ l.at + prefix_len is_digit (drop l.at l.text)
