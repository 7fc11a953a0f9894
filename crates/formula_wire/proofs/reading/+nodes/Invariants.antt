use Rattle.std.proofs.Common.{◌≡◌, ◌-◌, ◌+◌, ◌*◌}
use Rattle.base_wire.specs.laws.Reading.{many_at}
use Rattle.base_wire.specs.laws.Many.{with_front}
use Rattle.formula_wire.specs.laws.Reading.{node_within}
use Rattle.formula_wire.proofs.reading.+nodes.Given as goal

-- each level of a tree counts, and the calls that lead from one to the next
abbrev pub decreases-node_within : goal.decreases-node_within
decreases-node_within l = l.most * 8

abbrev pub decreases-level_at : goal.decreases-level_at
decreases-level_at l = l.below * 8 + 7

abbrev pub decreases-operator_at : goal.decreases-operator_at
decreases-operator_at l = l.below * 8 + 6

abbrev pub decreases-kinded_at : goal.decreases-kinded_at
decreases-kinded_at l = l.below * 8 + 5

abbrev pub decreases-call_at : goal.decreases-call_at
decreases-call_at l = l.below * 8 + 4

abbrev pub decreases-pair_at : goal.decreases-pair_at
decreases-pair_at l = l.most * 8 + 3

abbrev pub decreases-nodes_at : goal.decreases-nodes_at
decreases-nodes_at l = l.most * 8 + 3

abbrev pub decreases-nodes_of : goal.decreases-nodes_of
decreases-nodes_of l = l.most * 8 + 2

abbrev pub decreases-boxed_at : goal.decreases-boxed_at
decreases-boxed_at l = l.most * 8 + 1

-- what was read so far and what is still to be read are the whole
abbrev pub invariant-nodes_of-reads : goal.invariant-nodes_of-reads
invariant-nodes_of-reads l = with_front l.nodes.items (many_at (node_within l.most) (l.count - l.counter) l.rest) ≡ many_at (node_within l.most) l.count l.bytes
