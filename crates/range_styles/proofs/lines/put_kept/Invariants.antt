use Rattle.std.proofs.Common.{Some}
use Rattle.std.specs.List.{All}
use Rattle.std.specs.Map.Iter.{deref_pair}
use Rattle.base_maps.specs.laws.Loops.{Made}
use Rattle.base_values.specs.Places.{IsLine}
use Rattle.range_styles.specs.Styled.{line_styled}
use Rattle.range_styles.proofs.lines.put_kept.Given as goal

-- the lines seen are planned, and those that are left are of the axis
abbrev pub invariant-loop-line : goal.invariant-loop-line
invariant-loop-line g l =
    Made deref_pair Some (λ _ line attr. line_styled g.A.Axis.along l.fn.range (g.C.StyleChange.made_of l.fn.change) l.fn.lines line) l.fn.lines
    l.yielded l.line-iterator l.planned
    × All (λ entry. IsLine g.A.Axis.along.last entry.0) l.line-iterator
