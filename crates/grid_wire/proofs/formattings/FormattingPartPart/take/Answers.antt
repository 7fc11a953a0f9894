use Rattle.std.proofs.Common.{arith}
use Rattle.base_wire.specs.laws.Format.{reads}
use Rattle.grid_wire.specs.laws.FormattingLaws.{formatting_format}
use Rattle.grid_wire.proofs.formattings.FormattingPartPart.take.Goals as goal

pub returns : goal.returns
returns c = reads formatting_format c.args.bytes.now _ (λ i. omega (arith, c.type_inv.bytes i)) c.formatting_at.ensures
