use Rattle.std.proofs.Common.{arith}
use Rattle.base_wire.specs.laws.Format.{reads}
use Rattle.grid_wire.specs.laws.KeyLaws.{axis_line_format}
use Rattle.grid_wire.proofs.keys.AxisLinePartPart.take.Goals as goal

pub returns : goal.returns
returns g c = reads (axis_line_format g.A.Axis.along.last g.met.A.Axis.lawful.last_high) c.args.bytes.now _ (λ i. omega (arith, c.type_inv.bytes i)) c.axis_line_at.ensures
