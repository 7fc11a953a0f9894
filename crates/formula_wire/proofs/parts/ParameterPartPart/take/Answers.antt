use Rattle.std.proofs.Common.{arith}
use Rattle.base_wire.specs.laws.Format.{reads}
use Rattle.formula_wire.specs.laws.PartLaws.{parameter_form}
use Rattle.formula_wire.proofs.parts.ParameterPartPart.take.Goals as goal

pub returns : goal.returns
returns c = reads parameter_form c.args.bytes.now _ (λ i. omega (arith, c.type_inv.bytes i)) c.parameter_at.ensures
