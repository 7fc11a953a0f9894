use Rattle.std.proofs.Common.{arith}
use Rattle.base_wire.specs.laws.Format.{reads}
use Rattle.base_wire.specs.laws.Parts.{signed_format}
use Rattle.base_wire.proofs.values.I32Part.take.Goals as goal

pub returns : goal.returns
returns c = reads signed_format c.args.bytes.now _ (λ i. omega (arith, c.type_inv.bytes i)) c.i32_at.ensures
