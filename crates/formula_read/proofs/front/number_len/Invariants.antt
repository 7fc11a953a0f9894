use Rattle.std.proofs.Common.{length, false}
use Rattle.formula_read.specs.laws.Lex.{number_span}
use Rattle.formula_read.proofs.Lexing.{Went}
use Rattle.formula_read.proofs.front.number_len.Given as goal

abbrev pub invariant-loop-c : goal.invariant-loop-c
invariant-loop-c l = Went l.text l.rest (number_span l.locale false) (number_span l.locale l.after_letter)

abbrev pub decreases-loop-c : goal.decreases-loop-c
decreases-loop-c l = length l.rest
