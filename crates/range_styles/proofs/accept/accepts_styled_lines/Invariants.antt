use Rattle.std.proofs.Common.{◌≡◌, ◌&&◌}
use Rattle.std.specs.List.{All, list_all}
use Rattle.base_values.specs.Places.{IsLine}
use Rattle.planned_maps.specs.laws.PlanWalks.{chosen_all}
use Rattle.range_styles.specs.StyleRanges.{has_own_style}
use Rattle.range_styles.specs.Styled.{place_accepts}
use Rattle.range_styles.proofs.PlanLoops.{line_test}
use Rattle.range_styles.proofs.accept.accepts_styled_lines.Given as goal

-- the lines that are left decide with those passed, and are of the axis
abbrev pub invariant-loop-line : goal.invariant-loop-line
invariant-loop-line g l =
    ((l.all && list_all (line_test (place_accepts l.fn.range (g.C.StyleChange.takes l.fn.change) l.fn.sheet) has_own_style g.A.Axis.along l.fn.range.area)
    l.line-iterator)
    ≡ chosen_all (place_accepts l.fn.range (g.C.StyleChange.takes l.fn.change) l.fn.sheet) has_own_style g.A.Axis.along l.fn.range.area l.fn.lines)
    × All (λ entry. IsLine g.A.Axis.along.last entry.0) l.line-iterator
