use Rattle.std.proofs.Common.{rules, arith}
use Rattle.std.proofs.lemmas.Grind.{common_steps}
use Rattle.formula_grammar.proofs.words.range.Goals as goal

pub returns : goal.returns
returns c = first_of (grind (arith, common_steps), search rules)
