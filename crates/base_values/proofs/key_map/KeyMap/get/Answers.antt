use Rattle.base_values.proofs.Seen.{read}
use Rattle.base_values.proofs.key_map.KeyMap.get.Goals as goal

pub returns : goal.returns
returns g c = read g.met.K.MapKey.ordered g.met.K.Key.Ord.total g.met.K.Key.Exact.equals g.met.K.Key.Ord.matches_eq g.K.MapKey.model g.K.MapKey.seen g.K.MapKey.seen_model c.self.inside.map c.args.self.now c.self.view_is c.args.key _ c.get.ensures.value
