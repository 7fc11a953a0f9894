use Rattle.base_wire.proofs.maps.MapPartPart.take.Goals as goal

pub map_at-requires : goal.map_at-requires
map_at-requires g c = record { inside = λ key fits. g.met.X.PlainKey.plain key }
