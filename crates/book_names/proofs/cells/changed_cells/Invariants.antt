use Rattle.std.proofs.Common.{Some}
use Rattle.std.specs.Map.Iter.{deref_pair}
use Rattle.base_values.specs.Places.{IsPlace}
use Rattle.base_maps.specs.laws.Listed.{Listed}
use Rattle.book_names.proofs.cells.changed_cells.Given as goal

abbrev pub invariant-loop-place : goal.invariant-loop-place
invariant-loop-place g l =
    Listed IsPlace deref_pair Some (λ _ place cell. Some (g.C.CellChange.change l.fn.change place cell)) l.fn.cells l.yielded l.place-iterator l.output
