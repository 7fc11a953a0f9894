use Rattle.base_values.proofs.Seen.{first-seen, none_from-seen}
use Rattle.base_values.proofs.key_map.KeyMap.first_from.Goals as goal

pub returns-in-Some : goal.returns-in-Some
returns-in-Some g c = first-seen g.met.K.MapKey.ordered g.met.K.Key.Ord.total g.met.K.Key.Exact.equals g.met.K.Key.Ord.matches_eq g.K.MapKey.model g.K.MapKey.seen g.K.MapKey.seen_model c.self.inside.map c.args.self.now c.self.view_is c.args.key _ (c.range.ensures.in_range tt) _ _ c.in-Some.ensures.steps

pub returns-in-None : goal.returns-in-None
returns-in-None g c = none_from-seen g.met.K.MapKey.ordered g.met.K.Key.Ord.total g.met.K.Key.Exact.equals g.met.K.Key.Ord.matches_eq g.K.MapKey.model g.K.MapKey.seen g.K.MapKey.seen_model c.self.inside.map c.args.self.now c.self.view_is c.args.key _ (c.range.ensures.in_range tt) c.in-None.ensures.steps.0
