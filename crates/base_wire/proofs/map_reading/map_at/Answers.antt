use Rattle.std.proofs.Common.{arith}
use Rattle.base_wire.specs.laws.Format.{reads}
use Rattle.base_wire.specs.laws.KeyOrder.{order_total, order_exact}
use Rattle.base_wire.specs.laws.MapLaws.{map_format}
use Rattle.base_wire.proofs.map_reading.map_at.Goals as goal

pub map_by_steps-requires : goal.map_by_steps-requires
map_by_steps-requires g c = record { inside = c.requires.inside }

pub returns : goal.returns
returns g c =
    let same = g.met.X.MapKey.ordered in
    reads (map_format (order_total same g.met.X.Key.Ord.total) (order_exact same g.met.X.Key.Exact.equals g.met.X.Key.Ord.matches_eq) g.met.K.Part.format g.met.P.Part.format g.met.K.Part.some
    g.X.MapKey.seen g.X.MapKey.model g.X.MapKey.seen_model g.X.MapKey.model_seen)
    c.args.bytes.now _ (λ i. omega (arith, c.type_inv.bytes i)) c.map_by_steps.ensures
