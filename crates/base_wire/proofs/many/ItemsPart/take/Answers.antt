use Rattle.std.proofs.Common.{arith}
use Rattle.base_wire.specs.laws.Format.{list_format, reads}
use Rattle.base_wire.proofs.many.ItemsPart.take.Goals as goal

pub returns : goal.returns
returns g c = reads (list_format g.met.P.Part.format g.met.P.Part.some) c.args.bytes.now _ (λ i. omega (arith, c.type_inv.bytes i)) c.list_at.ensures.read
