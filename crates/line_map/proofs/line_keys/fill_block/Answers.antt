use Rattle.std.proofs.Common.{w64, to_z, of_z, arith, add-one}
use Rattle.std.proofs.lemmas.Int.{ints}
use Rattle.line_map.specs.laws.HeirLaws.{filled_more}
use Rattle.line_map.proofs.line_keys.fill_block.Goals as goal

pub loop-i-preserved : goal.loop-i-preserved
loop-i-preserved g c = rw add-one (filled_more g.B.Axis.along.last c.args.block.first c.loop-i.i (to_z w64 (of_z w64 c.line_after-line.result))
    c.args.value.now _ _ _ (omega (arith, ints)) c.loop-i.invariant c.in_ok-fill_line.ensures.map)
