use Rattle.std.specs.List.{All}
use Rattle.base_values.specs.Places.{IsLine}
use Rattle.range_styles.specs.StyleRanges.{has_own_style}
use Rattle.range_styles.proofs.PlanLoops.{LinesLeft}
use Rattle.range_styles.proofs.cells.put_styled_lines.Given as goal

-- the lines that are left complete the plan, and are of the axis
abbrev pub invariant-loop-line : goal.invariant-loop-line
invariant-loop-line g l =
    LinesLeft (g.E.PlaceEdit.make l.fn.edit) has_own_style g.A.Axis.along (g.E.PlaceEdit.area_of l.fn.edit)
    l.initial.cells l.cells l.fn.lines l.line-iterator
    × All (λ entry. IsLine g.A.Axis.along.last entry.0) l.line-iterator
