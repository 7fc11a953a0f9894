use Rattle.std.proofs.Common.{arith}
use Rattle.base_wire.specs.laws.Format.{reads}
use Rattle.sheet_wire.specs.laws.QueueFormats.{diff_format}
use Rattle.sheet_wire.proofs.parts.DiffPartPart.take.Goals as goal

pub returns : goal.returns
returns c = reads diff_format c.args.bytes.now _ (λ i. omega (arith, c.type_inv.bytes i)) c.diff_at.ensures
