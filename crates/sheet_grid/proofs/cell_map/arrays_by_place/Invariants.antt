use Rattle.std.proofs.Common.{Some}
use Rattle.std.specs.Map.Iter.{deref_pair}
use Rattle.std.specs.List.{All}
use Rattle.base_values.specs.Places.{IsPlace}
use Rattle.base_maps.specs.laws.Loops.{Made}
use Rattle.sheet_grid.specs.Arrays.{large_array_at}
use Rattle.sheet_grid.proofs.cell_map.arrays_by_place.Given as goal

abbrev pub invariant-loop-place : goal.invariant-loop-place
invariant-loop-place l = Made deref_pair Some (λ _ q x. large_array_at q x.content) l.fn.cells l.yielded l.place-iterator l.arrays × All (λ entry. IsPlace entry.0) l.place-iterator
