use Rattle.base_values.specs.laws.CodedEq.{is_same_value}
use Rattle.formula_tree.specs.contracts.node.Node.{the_row}
use Rattle.formula_tree.proofs.node.NodePartialEq.eq.Goals as goal

pub returns : goal.returns
returns c = is_same_value the_row.coded c.args.self.now c.args.other.now c.same_node.result c.same_node.ensures
