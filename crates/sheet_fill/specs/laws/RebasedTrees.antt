-- A tree that is filled to another place keeps its numbers.
use Rattle.std.proofs.Common.{◌≡◌}
use Rattle.base_values.specs.declared.Position.{Position}
use Rattle.formula_tree.specs.declared.Node.{Node}
use Rattle.formula_tree.specs.declared.numbers.NumberRule.{NumberRule}
use Rattle.formula_tree.specs.Numbers.{numbers_follow}
use Rattle.formula_tree.specs.Rebase.{filling, rebased}
use Rattle.formula_back.specs.laws.MovedNumbers.{numbers-moved}

pub numbers_rebased : (rule : NumberRule) (place : Position) (tree : Node) → numbers_follow rule (rebased place tree) ≡ numbers_follow rule tree
unfolding rebased
numbers_rebased rule place tree = numbers-moved rule place (filling place) tree
