use Rattle.std.proofs.Common.{◌≡◌, ap, rules}
use Rattle.std.specs.FinMap.{entries}
use Rattle.std.specs.List.{fold}
use Rattle.std.proofs.lemmas.Map.Iter.{rest_all, rest_more}
use Rattle.std.specs.Map.Iter.{deref_pair}
use Rattle.base_values.specs.Places.{IsPlace}
use Rattle.base_maps.specs.laws.Turns.{first_holds, rest_hold}
use Rattle.range_styles.proofs.PlanLoops.{all_stand, ends, goes_on, place_put}
use Rattle.range_styles.proofs.walk.put_entries.Goals as goal

pub put_place-requires : goal.put_place-requires
put_place-requires g c =
    first_holds (λ e. IsPlace e.0) c.loop-place.invariant.1
    (rest_more deref_pair c.loop-place.place-iterator c.next.new.self c.next.result (c.in-Some.place, c.in-Some._entry) c.in-Some.is c.next.ensures.steps)

pub loop-place-preserved : goal.loop-place-preserved
loop-place-preserved g c =
    let step = rest_more deref_pair c.loop-place.place-iterator c.next.new.self c.next.result (c.in-Some.place, c.in-Some._entry) c.in-Some.is
    c.next.ensures.steps in (
      goes_on (place_put (g.E.PlaceEdit.make c.args.edit.now)) c.loop-place.invariant.0
          (deref_pair (c.in-Some.place, c.in-Some._entry)) c.next.new.self step c.in_ok-put_place.ensures.put,
      rest_hold (λ e. IsPlace e.0) c.loop-place.invariant.1 step,
    )

pub returns-clause-put : goal.returns-clause-put
returns-clause-put g c =
    ends (place_put (g.E.PlaceEdit.make c.args.edit.now)) c.loop-place.invariant.0
    (rest_all deref_pair c.loop-place.place-iterator c.next.new.self c.next.result c.in-None.is c.next.ensures.steps)

pub loop-place-init : goal.loop-place-init
loop-place-init g c =
    let all : c.into_iter-place-iterator.result ≡ entries c.args.there.now = search rules in
    let gives : c.into_iter-place-iterator.result ≡ c.iter-place-items.result = search rules in (
      ap (fold (place_put (g.E.PlaceEdit.make c.args.edit.now)) c.args.planned.now) all,
      all_stand gives c.iter-place-items.ensures.inside,
    )
