use Rattle.std.proofs.Common.{◌∙◌}
use Rattle.base_values.proofs.Seen.{len-seen}
use Rattle.base_values.proofs.key_map.KeyMap.len.Goals as goal

pub returns-clause-count : goal.returns-clause-count
returns-clause-count g c = c.len.ensures.len ∙ len-seen g.met.K.MapKey.ordered g.met.K.Key.Ord.total g.met.K.Key.Exact.equals g.met.K.Key.Ord.matches_eq g.K.MapKey.model g.K.MapKey.seen g.K.MapKey.seen_model c.self.inside.map c.args.self.now c.self.view_is c.self.invariant.ordered
