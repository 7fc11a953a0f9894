use Rattle.std.proofs.Common.{◌≡◌}
use Rattle.planned_maps.specs.laws.PlanWalks.{line_put}
use Rattle.range_styles.proofs.walk.put_line.Given as goal

-- the places passed are planned
abbrev pub invariant-loop-index : goal.invariant-loop-index
invariant-loop-index g l = l.planned ≡ line_put (g.E.PlaceEdit.make l.edit) g.A.Axis.along l.area l.line l.initial.planned l.index
