use Rattle.std.proofs.Common.{◌≡◌}
use Rattle.base_axis.specs.Rectangles.{first_line}
use Rattle.planned_maps.specs.laws.PlanWalks.{lines_put}
use Rattle.range_styles.specs.Styled.{line_styled}
use Rattle.range_styles.proofs.lines.put_each.Given as goal

-- the lines passed are planned
abbrev pub invariant-loop-index : goal.invariant-loop-index
invariant-loop-index g l =
    l.planned ≡ lines_put (line_styled g.A.Axis.along l.range (g.C.StyleChange.made_of l.change) l.lines) (first_line g.A.Axis.along l.range.area) l.index
