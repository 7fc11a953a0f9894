use Rattle.std.proofs.Common.{arith}
use Rattle.base_wire.specs.laws.Format.{reads}
use Rattle.grid_wire.specs.laws.StateLaws.{state_format}
use Rattle.grid_wire.proofs.states.StatePartPart.take.Goals as goal

pub returns : goal.returns
returns c = reads state_format c.args.bytes.now _ (λ i. omega (arith, c.type_inv.bytes i)) c.state_at.ensures
