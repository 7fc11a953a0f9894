use Rattle.std.proofs.Common.{arith}
use Rattle.base_wire.specs.laws.Format.{reads}
use Rattle.sheet_wire.specs.laws.QueueFormats.{entry_format}
use Rattle.sheet_wire.proofs.parts.EntryPartPart.take.Goals as goal

pub returns : goal.returns
returns c = reads entry_format c.args.bytes.now _ (λ i. omega (arith, c.type_inv.bytes i)) c.entry_at.ensures
