use Rattle.std.proofs.Common.{◌≡◌, take, true}
use Rattle.std.specs.List.{list_all}
use Rattle.formula_tree.specs.Depth.{is_within}
use Rattle.formula_tree.proofs.depth.+depth.Given as goal

-- the first trees are at most so deep
abbrev pub invariant-are_within-loop-node : goal.invariant-are_within-loop-node
invariant-are_within-loop-node l = list_all (is_within l.most) (take l.node-index l.node-items) ≡ true
