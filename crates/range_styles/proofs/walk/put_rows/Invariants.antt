use Rattle.std.proofs.Common.{◌≡◌}
use Rattle.planned_maps.specs.laws.PlanWalks.{rows_put}
use Rattle.range_styles.proofs.walk.put_rows.Given as goal

-- the places of the rows passed are planned
abbrev pub invariant-loop-index : goal.invariant-loop-index
invariant-loop-index g l = l.planned ≡ rows_put (g.E.PlaceEdit.make l.edit) l.area l.initial.planned l.index
