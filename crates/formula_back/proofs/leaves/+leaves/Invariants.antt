use Rattle.std.proofs.Common.{◌≡◌, take, false}
use Rattle.std.specs.List.{list_any}
use Rattle.formula_back.specs.Leaves.{has_leaf}
use Rattle.formula_back.proofs.leaves.+leaves.Given as goal

-- no leaf of the first trees passes
abbrev pub invariant-have_leaf-loop-node : goal.invariant-have_leaf-loop-node
invariant-have_leaf-loop-node g l = list_any (has_leaf (g.T.LeafTest.tests l.test)) (take l.node-index l.node-items) ≡ false
