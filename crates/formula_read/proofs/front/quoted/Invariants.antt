use Rattle.std.proofs.Common.{◌≡◌, length}
use Rattle.std.specs.Prelude.{string_bytes}
use Rattle.std.specs.Str.{chars}
use Rattle.formula_read.specs.laws.Lex.{quoted_text}
use Rattle.formula_read.proofs.Lexing.{after}
use Rattle.formula_read.proofs.front.quoted.Given as goal
use denote.Shadow.{shadow}
use denote.Text.{Utf8}

abbrev pub invariant-loop-next : goal.invariant-loop-next
invariant-loop-next l = record {
  utf8 : shadow (Utf8 l.rest);
  so_far : quoted_text l.quote (chars l.text) ≡ after (string_bytes l.value) (quoted_text l.quote (chars l.rest));
}

abbrev pub decreases-loop-next : goal.decreases-loop-next
decreases-loop-next l = length l.rest
