use Rattle.std.specs.Map.Iter.{deref_pair}
use Rattle.base_maps.specs.laws.Loops.{Laid}
use Rattle.line_map.specs.Keys.{rekeyed}
use Rattle.line_map.proofs.restored.laid_over.Given as goal

abbrev pub invariant-loop-key : goal.invariant-loop-key
invariant-loop-key g l = Laid deref_pair (rekeyed (g.K.Lost.MapKey.seen l.fn.over)) (g.K.MapKey.seen l.fn.map) l.yielded l.key-iterator
    (g.K.MapKey.seen l.output)
