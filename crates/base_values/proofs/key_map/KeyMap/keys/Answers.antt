use Rattle.std.proofs.Common.{◌≡◌, ◌∙◌, rules}
use Rattle.std.specs.BTreeMap.{keys}
use Rattle.base_values.proofs.Seen.{keys-seen}
use Rattle.base_values.proofs.key_map.KeyMap.keys.Goals as goal

pub returns-clause-keys : goal.returns-clause-keys
returns-clause-keys g c = let listed : c.new.result ≡ keys c.self.inside.map = search rules in listed ∙ keys-seen g.met.K.MapKey.ordered g.met.K.Key.Ord.total g.met.K.Key.Exact.equals g.met.K.Key.Ord.matches_eq g.K.MapKey.model g.K.MapKey.seen g.K.MapKey.seen_model c.self.inside.map c.args.self.now c.self.view_is c.self.invariant.ordered
