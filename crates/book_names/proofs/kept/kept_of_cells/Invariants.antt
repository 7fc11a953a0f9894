use Rattle.std.proofs.Common.{Some}
use Rattle.std.specs.Map.Iter.{deref_pair}
use Rattle.base_maps.specs.laws.Loops.{Made}
use Rattle.book_names.specs.Renaming.{cell_kept}
use Rattle.book_names.proofs.kept.kept_of_cells.Given as goal

abbrev pub invariant-loop-place : goal.invariant-loop-place
invariant-loop-place l = Made deref_pair Some (λ _ _ cell. cell_kept l.fn.there l.fn.back l.fn.old l.fn.new cell) l.fn.cells l.yielded l.place-iterator l.kept
