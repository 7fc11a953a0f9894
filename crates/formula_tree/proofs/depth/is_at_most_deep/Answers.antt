use Rattle.std.proofs.Common.{arith}
use Rattle.std.proofs.lemmas.Bool.Decides.{nat_tests}
use Rattle.formula_tree.specs.Depth.{is_within}
use Rattle.formula_tree.proofs.depth.is_at_most_deep.Goals as goal

pub returns : goal.returns
unfolding is_within
returns c = grind (arith, nat_tests)
