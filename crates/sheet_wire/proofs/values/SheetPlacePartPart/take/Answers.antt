use Rattle.std.proofs.Common.{arith}
use Rattle.base_wire.specs.laws.Format.{reads}
use Rattle.sheet_wire.specs.laws.PartLaws.{sheet_place_format}
use Rattle.sheet_wire.proofs.values.SheetPlacePartPart.take.Goals as goal

pub returns : goal.returns
returns c = reads sheet_place_format c.args.bytes.now _ (λ i. omega (arith, c.type_inv.bytes i)) c.sheet_place_at.ensures
