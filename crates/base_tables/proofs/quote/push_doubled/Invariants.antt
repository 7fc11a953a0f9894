use Rattle.std.proofs.Common.{◌≡◌, ◌++◌}
use Rattle.std.specs.Prelude.{string_bytes, encode_utf8_all}
use Rattle.base_tables.specs.Word.{doubled}
use Rattle.base_tables.proofs.quote.push_doubled.Given as goal

abbrev pub invariant-loop-c : goal.invariant-loop-c
invariant-loop-c l = string_bytes l.out ≡ string_bytes l.initial.out ++ encode_utf8_all (doubled l.quote l.yielded)
