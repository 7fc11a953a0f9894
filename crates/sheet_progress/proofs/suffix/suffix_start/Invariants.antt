use Rattle.std.proofs.Common.{◌≡◌, ◌+◌, ◌<◌, ◌≤◌, length, take}
use Rattle.std.specs.List.{suffix_len, slice_index}
use Rattle.base_tables.specs.Word.{is_digit}
use Rattle.sheet_progress.proofs.suffix.suffix_start.Given as goal

-- the start so far, and how many digits stand before it
abbrev pub invariant-loop-start : goal.invariant-loop-start
invariant-loop-start l = record {
  within : l.start ≤ length l.text;
  ascii : (l.start < length l.text → slice_index l.text l.start < 128);
  left : (l.start + suffix_len is_digit l.text ≡ length l.text + suffix_len is_digit (take l.start l.text));
}

abbrev pub decreases-loop-start : goal.decreases-loop-start
decreases-loop-start l = l.start
