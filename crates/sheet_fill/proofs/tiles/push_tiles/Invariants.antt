use Rattle.std.proofs.Common.{◌≡◌, ◌++◌, take}
use Rattle.std.specs.List.{filter_map}
use Rattle.sheet_fill.specs.Tiles.{tile_in}
use Rattle.sheet_fill.proofs.tiles.push_tiles.Given as goal

-- the tiles of the merges passed stand behind the others
abbrev pub invariant-loop-merge : goal.invariant-loop-merge
invariant-loop-merge g l = l.list ≡ l.initial.list ++ filter_map (tile_in g.A.Axis.along l.range l.index) (take l.merge-index l.merges)
