use Rattle.base_wire.specs.laws.Ascending.{RisesTo}
use Rattle.base_wire.proofs.map_reading.ascends.Given as goal

-- each key so far is below the next
abbrev pub invariant-loop-i : goal.invariant-loop-i
invariant-loop-i g l = RisesTo g.X.Key.Ord.cmp g.met.X.Key.Ord.total l.entries l.i
