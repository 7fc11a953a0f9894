use Rattle.std.proofs.Common.{◌≡◌, take}
use Rattle.formula_tree.proofs.sameness.+same.Given as goal

-- the first nodes are equal
abbrev pub invariant-same_nodes-loop-index : goal.invariant-same_nodes-loop-index
invariant-same_nodes-loop-index l = take l.index l.xs ≡ take l.index l.ys
