use Rattle.std.proofs.Common.{◌≡◌, take, map}
use Rattle.formula_names.specs.Renamed.{tree_renamed}
use Rattle.formula_names.proofs.rename.+renaming.Given as goal

-- the first trees are renamed
abbrev pub invariant-children-loop-node : goal.invariant-children-loop-node
invariant-children-loop-node l = l.trees ≡ map (tree_renamed l.reach l.old l.new) (take l.node-index l.node-items)
