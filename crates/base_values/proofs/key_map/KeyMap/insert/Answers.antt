use Rattle.std.proofs.Common.{Some, None, sym}
use Rattle.base_values.proofs.Seen.{read, changed, inside-put}
use Rattle.base_values.proofs.key_map.KeyMap.insert.Goals as goal

pub returns-clause-before : goal.returns-clause-before
returns-clause-before g c = read g.met.K.MapKey.ordered g.met.K.Key.Ord.total g.met.K.Key.Exact.equals g.met.K.Key.Ord.matches_eq g.K.MapKey.model g.K.MapKey.seen g.K.MapKey.seen_model c.self.inside.map c.args.self.now c.self.view_is c.args.key _ c.in_ok-insert.ensures.old

pub returns-clause-ok : goal.returns-clause-ok
returns-clause-ok g c = changed g.met.K.MapKey.ordered g.met.K.Key.Ord.total g.met.K.Key.Exact.equals g.met.K.Key.Ord.matches_eq g.K.MapKey.model g.K.MapKey.seen g.K.MapKey.seen_model c.self.inside.map c.args.self.now c.self.view_is c.insert.new.self c.args.key (Some c.args.value) c.in_ok-insert.ensures.updates.0

pub returns-in_err-insert-clause-there : goal.returns-in_err-insert-clause-there
returns-in_err-insert-clause-there g c = λ there. absurd (there (sym (read g.met.K.MapKey.ordered g.met.K.Key.Ord.total g.met.K.Key.Exact.equals g.met.K.Key.Ord.matches_eq g.K.MapKey.model g.K.MapKey.seen g.K.MapKey.seen_model c.self.inside.map c.args.self.now c.self.view_is c.args.key None (sym c.in_err-insert.ensures.absent))))

pub invariant_of-self-2 : goal.invariant_of-self-2
invariant_of-self-2 g c =
    inside-put g.met.K.MapKey.ordered g.K.MapKey.fits c.self.inside.map c.insert.new.self c.self.invariant c.insert.ensures.ordered c.args.key c.args.value c.requires c.in_ok-insert.ensures.entries
