use Rattle.std.proofs.Common.{Some, ap, ◌∙◌}
use Rattle.std.proofs.lemmas.Map.Iter.{rest_more}
use Rattle.std.specs.Map.Iter.{deref_pair}
use Rattle.base_values.specs.Places.{IsPlace}
use Rattle.base_values.specs.laws.Places.{position_total, exact_positions}
use Rattle.base_maps.specs.Carried.{entry_made}
use Rattle.base_maps.specs.laws.Gathering.{with_made}
use Rattle.base_maps.specs.laws.Inverses.{own_inverse}
use Rattle.base_maps.specs.laws.Loops.{made_on, made_all}
use Rattle.base_maps.specs.laws.Turns.{first_holds, rest_hold}
use Rattle.sheet_grid.specs.declared.cell.Cell.{Cell}
use Rattle.sheet_grid.specs.Arrays.{large_array_at}
use Rattle.sheet_grid.proofs.cell_map.arrays_by_place.Goals as goal

pub note_array-requires : goal.note_array-requires
note_array-requires c =
    first_holds (λ e. IsPlace e.0) c.loop-place.invariant.1 (rest_more deref_pair c.loop-place.place-iterator c.next.new.self c.next.result (c.in-Some.place, c.in-Some.cell) c.in-Some.is c.next.ensures.steps)

pub loop-place-preserved : goal.loop-place-preserved
loop-place-preserved c = (
  made_on position_total exact_positions c.loop-place.invariant.0 own_inverse (c.in-Some.place, c.in-Some.cell) c.in-Some.is c.next.ensures.steps
      (c.in_ok-note_array.ensures.arrays ∙ ap (λ (cell : Cell). with_made (entry_made Some (λ _ q x. large_array_at q x.content) (c.in-Some.place.now, cell)) c.loop-place.arrays) c.get.ensures),
  rest_hold (λ e. IsPlace e.0) c.loop-place.invariant.1 (rest_more deref_pair c.loop-place.place-iterator c.next.new.self c.next.result (c.in-Some.place, c.in-Some.cell) c.in-Some.is c.next.ensures.steps),
)

pub returns-clause-arrays : goal.returns-clause-arrays
returns-clause-arrays c = made_all position_total exact_positions c.loop-place.invariant.0 own_inverse c.next.new.self c.in-None.is c.next.ensures.steps
