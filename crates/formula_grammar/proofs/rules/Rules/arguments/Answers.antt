use Rattle.std.proofs.Common.{arith}
use Rattle.formula_grammar.proofs.Loops.{argument_next, argument_done}
use Rattle.formula_grammar.proofs.rules.Rules.arguments.Goals as goal

pub returns-in_err-argument : goal.returns-in_err-argument
returns-in_err-argument g c = grind (arith, argument_next)

pub returns-in_err-separator : goal.returns-in_err-separator
returns-in_err-separator g c = grind (arith, argument_next)

pub returns-then-not-branch : goal.returns-then-not-branch
returns-then-not-branch g c = grind (arith, argument_next)

pub loop-turn-preserved : goal.loop-turn-preserved
loop-turn-preserved g c = grind (arith, argument_next)

pub returns : goal.returns
returns g c = grind (arith, argument_done)
