use Rattle.std.proofs.Common.{arith}
use Rattle.base_wire.specs.laws.Format.{reads}
use Rattle.base_wire.specs.laws.Formats.{both_format}
use Rattle.base_wire.proofs.entries.EntryPartPart.take.Goals as goal

pub returns : goal.returns
returns g c = reads (both_format g.met.K.Part.format g.met.P.Part.format) c.args.bytes.now _ (λ i. omega (arith, c.type_inv.bytes i)) c.entry_at.ensures
