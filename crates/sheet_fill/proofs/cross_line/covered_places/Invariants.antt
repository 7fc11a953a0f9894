use Rattle.std.proofs.Common.{◌≡◌}
use Rattle.sheet_fill.specs.Targets.{covered_among}
use Rattle.sheet_fill.proofs.cross_line.covered_places.Given as goal

-- the places passed are told
abbrev pub invariant-loop-index : goal.invariant-loop-index
invariant-loop-index g l = l.hidden.items ≡ covered_among g.A.Axis.along l.fill.range l.fill.sheet.now l.at l.index
