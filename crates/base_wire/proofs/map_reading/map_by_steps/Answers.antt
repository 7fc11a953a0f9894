use Rattle.std.proofs.Common.{◌≡◌, Ok, ap, sym, ◌∙◌}
use Rattle.std.specs.FinMap.{from_entries}
use Rattle.base_wire.specs.laws.Ascending.{put_in_turn}
use Rattle.base_wire.specs.laws.KeyOrder.{order_total, order_exact}
use Rattle.base_wire.specs.laws.MapFits.{keys_hold}
use Rattle.base_wire.proofs.map_reading.map_by_steps.Goals as goal

pub of_entries-requires : goal.of_entries-requires
of_entries-requires g c = record { inside = λ k d within. c.requires.inside _ (keys_hold g.K.Part.Fits g.P.Part.Fits c.in_ok-entries.entries c.in_ok-entries.ensures.fits k d within) }

pub returns : goal.returns
returns g c =
    let same = g.met.X.MapKey.ordered in
    let in_turn = put_in_turn g.X.MapKey.order (order_total same g.met.X.Key.Ord.total) (order_exact same g.met.X.Key.Exact.equals g.met.X.Key.Ord.matches_eq) c.in_ok-entries.entries c.in_ok-entries.ensures.sorted in
    let model : g.X.MapKey.model (from_entries {R = g.X.MapKey.order} c.in_ok-entries.entries) ≡ c.in_ok-map.map =
    ap g.X.MapKey.model (sym (c.in_ok-map.ensures.map ∙ in_turn)) ∙ g.X.MapKey.model_seen c.in_ok-map.map in
    record { done = rw c.in_ok-entries.ensures.read.done (ap (λ map. Ok (map, c.in_ok-entries.rest.now)) model); refused = tt }
