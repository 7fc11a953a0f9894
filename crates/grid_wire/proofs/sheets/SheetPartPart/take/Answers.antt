use Rattle.std.proofs.Common.{arith}
use Rattle.base_wire.specs.laws.Format.{reads}
use Rattle.grid_wire.specs.laws.SheetLaws.{sheet_format}
use Rattle.grid_wire.proofs.sheets.SheetPartPart.take.Goals as goal

pub returns : goal.returns
returns c = reads sheet_format c.args.bytes.now _ (λ i. omega (arith, c.type_inv.bytes i)) c.sheet_at.ensures
