use Rattle.std.proofs.Common.{◌≡◌}
use Rattle.base_axis.specs.Rectangles.{first_line}
use Rattle.planned_maps.specs.laws.PlanWalks.{lines_all}
use Rattle.range_styles.specs.Styled.{line_accepts}
use Rattle.range_styles.proofs.lines.accepts_each.Given as goal

-- the lines passed decide so far
abbrev pub invariant-loop-index : goal.invariant-loop-index
invariant-loop-index g l =
    l.all ≡ lines_all (line_accepts g.A.Axis.along l.range (g.C.StyleChange.takes l.change) l.lines) (first_line g.A.Axis.along l.range.area) l.index
