use Rattle.std.proofs.Common.{arith}
use Rattle.base_wire.specs.laws.Format.{reads}
use Rattle.base_wire.specs.laws.Parts.{long_format}
use Rattle.base_wire.proofs.values.U64Part.take.Goals as goal

pub returns : goal.returns
returns c = reads long_format c.args.bytes.now _ (λ i. omega (arith, c.type_inv.bytes i)) c.u64_at.ensures.read
