use Rattle.std.proofs.Common.{◌≡◌, take, true}
use Rattle.std.specs.List.{list_all}
use Rattle.formula_tree.specs.Placed.{is_placed}
use Rattle.formula_tree.proofs.placed.+placed.Given as goal

-- the first trees are placed
abbrev pub invariant-are_placed-loop-node : goal.invariant-are_placed-loop-node
invariant-are_placed-loop-node l = list_all (is_placed l.place) (take l.node-index l.node-items) ≡ true
