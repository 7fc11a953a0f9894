use Rattle.std.proofs.Common.{◌≡◌, length}
use Rattle.std.specs.Str.{chars}
use Rattle.formula_read.specs.laws.Lex.{tokens_of}
use Rattle.formula_read.proofs.Tokens.{ahead}
use Rattle.formula_read.proofs.lex.tokens.Given as goal
use denote.Shadow.{shadow}
use denote.Text.{Utf8}

abbrev pub invariant-loop-more : goal.invariant-loop-more
invariant-loop-more l = record {
  utf8 : shadow (Utf8 l.rest);
  so_far : tokens_of l.profile.locale l.profile.language (chars l.text) ≡ ahead l.tokens.items (tokens_of l.profile.locale l.profile.language (chars l.rest));
}

abbrev pub decreases-loop-more : goal.decreases-loop-more
decreases-loop-more l = length (chars l.rest)
