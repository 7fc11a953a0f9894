use Rattle.std.proofs.Common.{arith}
use Rattle.base_wire.specs.laws.Format.{answers}
use Rattle.grid_wire.specs.laws.KeyLaws.{axis_map_format}
use Rattle.grid_wire.proofs.keys.axis_map_at.Goals as goal

pub map_at-requires : goal.map_at-requires
map_at-requires g c = record { inside = λ line inside. inside }

pub returns : goal.returns
returns g c = answers (axis_map_format g.A.Axis.along.last g.met.A.Axis.lawful.last_high g.met.P.Part.format) c.args.bytes.now _ (λ i. omega (arith, c.type_inv.bytes i)) c.map_at.ensures
