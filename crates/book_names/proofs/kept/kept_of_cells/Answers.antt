use Rattle.base_values.specs.laws.Places.{position_total, exact_positions}
use Rattle.base_maps.specs.laws.Inverses.{own_inverse}
use Rattle.base_maps.specs.laws.Loops.{made_on, made_all}
use Rattle.book_names.proofs.kept.kept_of_cells.Goals as goal

pub loop-place-preserved : goal.loop-place-preserved
loop-place-preserved c = made_on position_total exact_positions c.loop-place.invariant own_inverse
    (c.in-Some.place, c.in-Some.cell) c.in-Some.is c.next.ensures.steps c.in_ok-keep_cell.ensures.kept

pub returns-clause-kept : goal.returns-clause-kept
returns-clause-kept c = made_all position_total exact_positions c.loop-place.invariant own_inverse c.next.new.self c.in-None.is c.next.ensures.steps
