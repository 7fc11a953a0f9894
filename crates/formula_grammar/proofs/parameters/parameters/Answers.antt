use Rattle.std.proofs.Common.{arith}
use Rattle.formula_grammar.proofs.Loops.{parameter_next, parameter_done}
use Rattle.formula_grammar.proofs.parameters.parameters.Goals as goal

pub returns-in_default : goal.returns-in_default
returns-in_default c = grind (arith, parameter_next)

pub loop-turn-preserved : goal.loop-turn-preserved
loop-turn-preserved c = grind (arith, parameter_next)

pub returns : goal.returns
returns c = grind (arith, parameter_done)
