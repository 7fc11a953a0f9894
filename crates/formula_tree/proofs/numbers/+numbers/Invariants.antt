use Rattle.std.proofs.Common.{◌≡◌, take, true}
use Rattle.std.specs.List.{list_all}
use Rattle.formula_tree.specs.Numbers.{numbers_follow}
use Rattle.formula_tree.proofs.numbers.+numbers.Given as goal

-- the numbers of the first trees follow the rule
abbrev pub invariant-all_follow-loop-node : goal.invariant-all_follow-loop-node
invariant-all_follow-loop-node l = list_all (numbers_follow l.rule) (take l.node-index l.node-items) ≡ true
