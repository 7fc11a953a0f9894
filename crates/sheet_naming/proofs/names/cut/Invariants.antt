use Rattle.std.proofs.Common.{◌≡◌, ◌-◌, ◌++◌, take}
use Rattle.std.specs.Str.{chars, encode_utf8_all, IsUtf8}
use Rattle.std.specs.Str.Iter.{chars_rest}
use Rattle.std.specs.String.{string_bytes}
use Rattle.sheet_naming.proofs.names.cut.Given as goal

-- with the characters that are still to be taken the text is whole
abbrev pub invariant-loop : goal.invariant-loop
invariant-loop l = record {
  valid : IsUtf8 (chars_rest l.characters);
  whole : (string_bytes l.text ++ encode_utf8_all (take (l.room - l.counter) (chars (chars_rest l.characters))) ≡ encode_utf8_all (take l.room (chars l.name)));
}
