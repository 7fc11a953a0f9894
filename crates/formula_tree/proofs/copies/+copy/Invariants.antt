use Rattle.std.proofs.Common.{◌≡◌, take}
use Rattle.formula_tree.proofs.copies.+copy.Given as goal

-- the copies are those of the first nodes
abbrev pub invariant-copy_nodes-loop-node : goal.invariant-copy_nodes-loop-node
invariant-copy_nodes-loop-node l = l.copies ≡ take l.node-index l.node-items
