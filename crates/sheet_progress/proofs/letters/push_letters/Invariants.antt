use Rattle.std.proofs.Common.{◌≡◌, ◌++◌, take, map}
use Rattle.std.specs.Prelude.{string_bytes, encode_utf8_all}
use Rattle.sheet_progress.specs.Names.{letter}
use Rattle.sheet_progress.proofs.letters.push_letters.Given as goal

abbrev pub invariant-loop-c : goal.invariant-loop-c
invariant-loop-c l = string_bytes l.out ≡ string_bytes l.initial.out ++ encode_utf8_all (map (letter l.letters) (take l.c-index l.text))
