use Rattle.std.proofs.Common.{arith}
use Rattle.base_wire.specs.laws.Format.{reads}
use Rattle.sheet_wire.specs.laws.EditLaws.{edit_format}
use Rattle.sheet_wire.proofs.edits.EditPartPart.take.Goals as goal

pub returns : goal.returns
returns c = reads edit_format c.args.bytes.now _ (λ i. omega (arith, c.type_inv.bytes i)) c.edit_at.ensures
