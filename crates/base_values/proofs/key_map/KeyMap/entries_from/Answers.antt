use Rattle.std.proofs.lemmas.List.Elements.{All-filter}
use Rattle.base_values.specs.laws.KeyMap.{All-unmap}
use Rattle.base_values.proofs.Seen.{from_key-seen}
use Rattle.base_values.proofs.key_map.KeyMap.entries_from.Goals as goal

pub returns-clause-entries : goal.returns-clause-entries
returns-clause-entries g c = from_key-seen g.met.K.MapKey.ordered g.met.K.Key.Ord.total g.met.K.Key.Exact.equals g.met.K.Key.Ord.matches_eq g.K.MapKey.model g.K.MapKey.seen g.K.MapKey.seen_model c.self.inside.map c.args.self.now c.self.view_is c.self.invariant.ordered c.args.key _ (c.range.ensures.between tt)

pub returns-clause-inside : goal.returns-clause-inside
returns-clause-inside g c = rw (c.range.ensures.between tt) (All-filter _ (λ e. g.K.MapKey.fits e.0) _ (All-unmap g.K.MapKey.fits (λ e. e.0) _ c.self.invariant.inside))
