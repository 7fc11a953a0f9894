use Rattle.std.proofs.Common.{◌≡◌, take, map}
use Rattle.formula_tree.specs.Moved.{moved}
use Rattle.formula_tree.proofs.moved.+moving.Given as goal

-- the first trees are moved
abbrev pub invariant-children-loop-node : goal.invariant-children-loop-node
invariant-children-loop-node g l = l.trees ≡ map (moved l.to (g.M.CornerMap.mapping l.corners)) (take l.node-index l.node-items)
