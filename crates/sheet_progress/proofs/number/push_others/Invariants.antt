use Rattle.std.proofs.Common.{◌≡◌, ◌++◌}
use Rattle.std.specs.Prelude.{string_bytes, encode_utf8_all, filter}
use Rattle.sheet_progress.specs.Numbers.{is_other}
use Rattle.sheet_progress.proofs.number.push_others.Given as goal

abbrev pub invariant-loop-c : goal.invariant-loop-c
invariant-loop-c l = string_bytes l.out ≡ string_bytes l.initial.out ++ encode_utf8_all (filter (is_other l.sign) l.yielded)
