use Rattle.std.proofs.Common.{arith}
use Rattle.base_wire.specs.laws.Format.{reads}
use Rattle.base_wire.proofs.shared.SharedPart.take.Goals as goal

pub returns : goal.returns
returns g c = reads g.met.P.Part.format c.args.bytes.now _ (λ i. omega (arith, c.type_inv.bytes i)) c.shared_at.ensures
