use Rattle.std.proofs.Common.{◌≡◌, ◌++◌, take}
use Rattle.std.specs.List.{flat_map, list_all}
use Rattle.formula_tree.specs.Numbers.{has_canonical_numbers}
use Rattle.formula_wire.specs.Carried.{is_carried}
use Rattle.formula_wire.specs.NodeBytes.{encode_node}
use Rattle.formula_wire.proofs.writing.+nodes.Given as goal

-- the first nodes stand after what the loop began with, and of them only the numbers may not fit
abbrev pub invariant-push_nodes-loop-node : goal.invariant-push_nodes-loop-node
invariant-push_nodes-loop-node l =
    (l.out.items ≡ l.initial.out.items ++ flat_map encode_node (take l.node-index l.nodes)) ×
    (list_all is_carried (take l.node-index l.nodes) ≡ list_all has_canonical_numbers (take l.node-index l.nodes))
