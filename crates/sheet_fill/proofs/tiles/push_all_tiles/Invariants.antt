use Rattle.std.proofs.Common.{◌≡◌, ◌++◌}
use Rattle.sheet_fill.specs.Tiles.{tiles}
use Rattle.sheet_fill.proofs.tiles.push_all_tiles.Given as goal

-- the tiles of the repetitions passed stand behind the others
abbrev pub invariant-loop-index : goal.invariant-loop-index
invariant-loop-index g l = l.list ≡ l.initial.list ++ tiles g.A.Axis.along l.range l.merges l.index
