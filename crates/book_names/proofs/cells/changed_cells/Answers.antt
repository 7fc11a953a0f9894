use Rattle.std.proofs.Common.{◌≡◌, [], ◌∷◌, ◌++◌, ap, subst, ◌∙◌}
use Rattle.std.proofs.lemmas.Result.{IfOk-weaker}
use Rattle.base_values.specs.Places.{IsPlace}
use Rattle.base_values.specs.laws.Places.{position_total, exact_positions}
use Rattle.base_maps.specs.laws.Inverses.{own_inverse}
use Rattle.base_maps.specs.laws.Listed.{listed_held, listed_on, listed_all}
use Rattle.book_names.proofs.cells.changed_cells.Goals as goal

pub loop-place-preserved : goal.loop-place-preserved
loop-place-preserved g c =
    let inside = c.places_inside.ensures _ _ (listed_held position_total exact_positions c.loop-place.invariant c.next.new.self
    (c.in-Some.place, c.in-Some.cell) c.in-Some.is c.next.ensures.steps) in
    listed_on position_total exact_positions c.loop-place.invariant (c.in-Some.place, c.in-Some.cell) c.in-Some.is c.next.ensures.steps
    (λ q there. let same : c.in-Some.place.now ≡ q = cc in subst IsPlace same inside)
    (c.in_ok-put_last.ensures.output ∙ ap (λ cell. c.loop-place.output ++ (c.in-Some.place.now, cell) ∷ []) c.in_ok-changed.ensures.cell)

pub of_entries-requires : goal.of_entries-requires
of_entries-requires g c = record { inside = c.loop-place.invariant.inside }

pub returns-clause-cells : goal.returns-clause-cells
returns-clause-cells g c =
    IfOk-weaker c.of_entries.result _ _ (λ output is. is ∙ listed_all position_total exact_positions c.loop-place.invariant own_inverse c.next.new.self c.in-None.is c.next.ensures.steps)
    c.of_entries.ensures.map
