use Rattle.std.proofs.Common.{◌≡◌, ◌+◌, ◌≤◌, length, take}
use Rattle.std.specs.List.{suffix_len}
use Rattle.sheet_progress.specs.Names.{is_filler}
use Rattle.sheet_progress.proofs.trim.trimmed_end.Given as goal

-- the end so far, and what is still to be cut off before it
abbrev pub invariant-loop-end : goal.invariant-loop-end
invariant-loop-end l = record {
  within : l.end ≤ length l.text;
  left : (l.end + suffix_len is_filler l.text ≡ length l.text + suffix_len is_filler (take l.end l.text));
}

abbrev pub decreases-loop-end : goal.decreases-loop-end
decreases-loop-end l = l.end
