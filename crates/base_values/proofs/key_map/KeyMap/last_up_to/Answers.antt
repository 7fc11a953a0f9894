use Rattle.base_values.proofs.Seen.{last-seen, none_up_to-seen}
use Rattle.base_values.proofs.key_map.KeyMap.last_up_to.Goals as goal

pub returns-in-Some : goal.returns-in-Some
returns-in-Some g c = last-seen g.met.K.MapKey.ordered g.met.K.Key.Ord.total g.met.K.Key.Exact.equals g.met.K.Key.Ord.matches_eq g.K.MapKey.model g.K.MapKey.seen g.K.MapKey.seen_model c.self.inside.map c.args.self.now c.self.view_is c.args.key _ (c.range.ensures.in_range tt) _ _ c.in-Some.ensures.steps

pub returns-in-None : goal.returns-in-None
returns-in-None g c = none_up_to-seen g.met.K.MapKey.ordered g.met.K.Key.Ord.total g.met.K.Key.Exact.equals g.met.K.Key.Ord.matches_eq g.K.MapKey.model g.K.MapKey.seen g.K.MapKey.seen_model c.self.inside.map c.args.self.now c.self.view_is c.args.key _ (c.range.ensures.in_range tt) c.in-None.ensures.steps.0
