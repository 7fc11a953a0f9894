use Rattle.std.proofs.Common.{◌∙◌}
use Rattle.base_values.proofs.Seen.{same-seen}
use Rattle.base_values.proofs.key_map.KeyMapPartialEq.eq.Goals as goal

pub returns : goal.returns
returns g c =
    c.eq.ensures
    ∙ same-seen g.met.K.MapKey.ordered g.met.K.Key.Ord.total g.met.K.Key.Exact.equals g.met.K.Key.Ord.matches_eq g.K.MapKey.model g.K.MapKey.seen g.K.MapKey.seen_model g.V.PartialEq.eq c.self.inside.map c.args.self.now c.self.view_is c.self.invariant.ordered
    c.other.inside.map c.args.other.now c.other.view_is c.other.invariant.ordered
