use Rattle.std.proofs.Common.{◌≡◌}
use Rattle.planned_maps.specs.laws.PlanWalks.{line_all}
use Rattle.range_styles.specs.Styled.{place_accepts}
use Rattle.range_styles.proofs.accept.accepts_line.Given as goal

-- the places passed decide so far
abbrev pub invariant-loop-index : goal.invariant-loop-index
invariant-loop-index g l = l.all ≡ line_all (place_accepts l.range (g.C.StyleChange.takes l.change) l.sheet) g.A.Axis.along l.range.area l.line l.index
