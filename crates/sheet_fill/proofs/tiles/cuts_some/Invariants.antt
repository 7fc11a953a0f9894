use Rattle.std.proofs.Common.{◌≡◌}
use Rattle.sheet_fill.specs.Tiles.{cuts_some}
use Rattle.sheet_fill.proofs.tiles.cuts_some.Given as goal

-- whether a tile of the repetitions passed is cut
abbrev pub invariant-loop-index : goal.invariant-loop-index
invariant-loop-index g l = l.is_any ≡ cuts_some g.A.Axis.along l.range l.merge l.index
