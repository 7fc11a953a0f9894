use Rattle.std.proofs.Common.{◌≡◌, ◌++◌, length, option_map}
use Rattle.script_lines.specs.Escapes.{unescaped}
use Rattle.script_lines.proofs.escape.unescape_bytes.Given as goal

abbrev pub invariant-bytes : goal.invariant-bytes
invariant-bytes l = unescaped l.fn.bytes ≡ option_map (λ rest. l.text.items ++ rest) (unescaped l.rest)

abbrev pub decreases-bytes : goal.decreases-bytes
decreases-bytes l = length l.rest
