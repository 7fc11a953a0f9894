use Rattle.std.proofs.Common.{arith}
use Rattle.base_wire.specs.laws.Format.{reads}
use Rattle.grid_wire.specs.laws.KeyLaws.{place_format}
use Rattle.grid_wire.proofs.keys.PlacePartPart.take.Goals as goal

pub returns : goal.returns
returns c = reads place_format c.args.bytes.now _ (λ i. omega (arith, c.type_inv.bytes i)) c.place_at.ensures
