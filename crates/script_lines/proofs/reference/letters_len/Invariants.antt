use Rattle.std.proofs.Common.{◌≡◌, ◌+◌, drop}
use Rattle.std.specs.List.{prefix_len}
use Rattle.base_tables.specs.Column.{is_letter}
use Rattle.script_lines.proofs.reference.letters_len.Given as goal

abbrev pub invariant-loop-at : goal.invariant-loop-at
invariant-loop-at l = prefix_len is_letter l.bytes ≡ l.at + prefix_len is_letter (drop l.at l.bytes)
