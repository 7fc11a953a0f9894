use Rattle.std.specs.List.{All}
use Rattle.base_values.specs.Places.{IsPlace}
use Rattle.range_styles.proofs.PlanLoops.{PlacesLeft}
use Rattle.range_styles.proofs.walk.put_entries.Given as goal

-- the entries that are left complete the plan, and stand in the sheet
abbrev pub invariant-loop-place : goal.invariant-loop-place
invariant-loop-place g l =
    PlacesLeft (g.E.PlaceEdit.make l.fn.edit) l.initial.planned l.planned l.fn.there l.place-iterator × All (λ entry. IsPlace entry.0) l.place-iterator
