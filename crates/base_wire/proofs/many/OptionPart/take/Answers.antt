use Rattle.std.proofs.Common.{arith}
use Rattle.base_wire.specs.laws.Format.{option_format, reads}
use Rattle.base_wire.proofs.many.OptionPart.take.Goals as goal

pub returns : goal.returns
returns g c = reads (option_format g.met.P.Part.format) c.args.bytes.now _ (λ i. omega (arith, c.type_inv.bytes i)) c.option_at.ensures
