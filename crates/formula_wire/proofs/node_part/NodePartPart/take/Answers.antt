use Rattle.std.proofs.Common.{arith}
use Rattle.base_wire.specs.laws.Format.{reads}
use Rattle.formula_wire.specs.laws.NodeLaws.{node_format}
use Rattle.formula_wire.proofs.node_part.NodePartPart.take.Goals as goal

pub returns : goal.returns
returns c = reads node_format c.args.bytes.now _ (λ i. omega (arith, c.type_inv.bytes i)) c.read_node.ensures
