use Rattle.std.proofs.Common.{◌≡◌, drop}
use Rattle.std.specs.Str.{chars}
use Rattle.formula_read.specs.laws.Lex.{english_error}
use Rattle.formula_read.proofs.errors.english_error.Given as goal

abbrev pub invariant-loop-error : goal.invariant-loop-error
invariant-loop-error l = english_error l.errors (chars l.text) ≡ english_error (drop l.error-index l.errors) (chars l.text)
