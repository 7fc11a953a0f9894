use Rattle.std.proofs.Common.{Some, ap, sym, ◌∙◌}
use Rattle.line_map.specs.Keys.{rekeyed}
use Rattle.line_map.specs.laws.UnderLaws.{rekeyed_back}
use Rattle.line_map.proofs.key_map.KeyMapFollower.carry_with_part.Goals as goal

pub returns-clause-part : goal.returns-clause-part
returns-clause-part g c =
    let keys = g.met.K.RouteKeys.are_keys in
    let own = g.met.K.MapKey.ordered in
    let lost = c.in_ok-carried.kept.lost in
    let parts = c.in_ok-carried.kept.parts in
    λ i. Some (record {
      lost = (sym (g.K.Lost.MapKey.model_seen lost) ∙ ap g.K.Lost.MapKey.model
          (sym (rekeyed_back keys.total keys.exact own g.met.K.Lost.MapKey.ordered (g.K.Lost.MapKey.seen lost)) ∙ ap rekeyed c.in_ok-carried.ensures.lost)) i;
      parts = (sym (g.K.Parts.MapKey.model_seen parts) ∙ ap g.K.Parts.MapKey.model
          (sym (rekeyed_back keys.total keys.exact own g.met.K.Parts.MapKey.ordered (g.K.Parts.MapKey.seen parts))
          ∙ ap rekeyed c.in_ok-carried.ensures.parts)) i;
    })
