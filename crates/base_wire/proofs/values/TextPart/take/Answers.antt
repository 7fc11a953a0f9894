use Rattle.std.proofs.Common.{arith}
use Rattle.base_wire.specs.laws.Format.{reads}
use Rattle.base_wire.specs.laws.Parts.{text_format}
use Rattle.base_wire.proofs.values.TextPart.take.Goals as goal

pub returns : goal.returns
returns c = reads text_format c.args.bytes.now _ (λ i. omega (arith, c.type_inv.bytes i)) c.text_at.ensures.read
