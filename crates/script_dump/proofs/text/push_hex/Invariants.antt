use Rattle.std.proofs.Common.{◌≡◌, ◌++◌, take}
use Rattle.script_dump.specs.Text.{hex}
use Rattle.script_dump.proofs.text.push_hex.Given as goal

abbrev pub invariant-loop-byte : goal.invariant-loop-byte
invariant-loop-byte l = l.out.items ≡ l.fn.out.items ++ hex (take l.byte-index l.bytes)
