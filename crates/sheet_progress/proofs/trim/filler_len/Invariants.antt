use Rattle.std.proofs.Common.{◌≡◌, ◌+◌, drop}
use Rattle.std.specs.List.{prefix_len}
use Rattle.sheet_progress.specs.Names.{is_filler}
use Rattle.sheet_progress.proofs.trim.filler_len.Given as goal

abbrev pub invariant-loop-at : goal.invariant-loop-at
invariant-loop-at l = prefix_len is_filler l.text ≡ l.at + prefix_len is_filler (drop l.at l.text)
