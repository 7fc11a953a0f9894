use Rattle.std.proofs.Common.{ap, subst, ◌∙◌}
use Rattle.std.proofs.lemmas.Map.Lookups.{CmpEqualImpliesEq}
use Rattle.std.specs.Prelude.{All}
use Rattle.std.specs.Cmp.{IsTotalOrder}
use Rattle.std.specs.Ordering.{is_eq}
use Rattle.base_maps.specs.laws.Each.{keys_listed}
use Rattle.sheet_lines.proofs.inside.places_inside.Goals as goal

pub returns : goal.returns
returns g c =
    let key = g.met.K.Key in
    let ordered = g.met.K.MapKey.ordered in
    keys_listed g.K.MapKey.order (subst IsTotalOrder ordered key.Ord.total)
    (subst CmpEqualImpliesEq ordered (λ a b tied. (key.Exact.equals a b).0 (key.Ord.matches_eq a b ∙ ap is_eq tied)))
    g.K.MapKey.fits (g.K.MapKey.seen c.args.map.now) (subst (All (λ e. g.K.MapKey.fits e.0)) c.iter.ensures.entries c.iter.ensures.inside)
