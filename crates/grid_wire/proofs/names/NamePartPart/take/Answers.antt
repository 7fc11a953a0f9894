use Rattle.std.proofs.Common.{arith}
use Rattle.base_wire.specs.laws.Format.{reads}
use Rattle.grid_wire.specs.laws.NameLaws.{name_format}
use Rattle.grid_wire.proofs.names.NamePartPart.take.Goals as goal

pub returns : goal.returns
returns c = reads name_format c.args.bytes.now _ (λ i. omega (arith, c.type_inv.bytes i)) c.name_at.ensures
