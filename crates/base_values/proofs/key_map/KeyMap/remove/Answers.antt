use Rattle.std.proofs.Common.{None}
use Rattle.base_values.proofs.Seen.{read, changed, inside-without}
use Rattle.base_values.proofs.key_map.KeyMap.remove.Goals as goal

pub returns-clause-before : goal.returns-clause-before
returns-clause-before g c = read g.met.K.MapKey.ordered g.met.K.Key.Ord.total g.met.K.Key.Exact.equals g.met.K.Key.Ord.matches_eq g.K.MapKey.model g.K.MapKey.seen g.K.MapKey.seen_model c.self.inside.map c.args.self.now c.self.view_is c.args.key _ c.remove.ensures.value

pub returns-clause-removed : goal.returns-clause-removed
returns-clause-removed g c = changed g.met.K.MapKey.ordered g.met.K.Key.Ord.total g.met.K.Key.Exact.equals g.met.K.Key.Ord.matches_eq g.K.MapKey.model g.K.MapKey.seen g.K.MapKey.seen_model c.self.inside.map c.args.self.now c.self.view_is c.remove.new.self c.args.key None c.remove.ensures.updates.0

pub invariant_of-self : goal.invariant_of-self
invariant_of-self g c =
    inside-without g.met.K.MapKey.ordered g.K.MapKey.fits c.self.inside.map c.remove.new.self c.self.invariant c.remove.ensures.ordered _ c.remove.ensures.entries
