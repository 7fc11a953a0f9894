use Rattle.std.proofs.Common.{length}
use Rattle.base_decimal.specs.Digits.{span}
use Rattle.formula_read.specs.laws.Classes.{passes}
use Rattle.formula_read.proofs.Lexing.{Went}
use Rattle.formula_read.proofs.characters.run_len.Given as goal

abbrev pub invariant-loop-c : goal.invariant-loop-c
invariant-loop-c l = Went l.text l.rest (span (passes l.class)) (span (passes l.class))

abbrev pub decreases-loop-c : goal.decreases-loop-c
decreases-loop-c l = length l.rest
