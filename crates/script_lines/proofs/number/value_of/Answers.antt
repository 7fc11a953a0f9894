use Rattle.std.proofs.Common.{arith}
use Rattle.script_lines.proofs.Digits.{value_of-take, value_below_past}
use Rattle.script_lines.proofs.number.value_of.Goals as goal

pub returns-then-value-limit : goal.returns-then-value-limit
returns-then-value-limit c = value_below_past c.args.digits.now c.loop-byte.byte-index c.loop-byte-test.true c.args.limit (omega (arith, c.from.ensures))

pub loop-byte-preserved : goal.loop-byte-preserved
loop-byte-preserved c = record {
  value = let step = value_of-take c.args.digits.now c.loop-byte.byte-index c.loop-byte-test.true in omega (arith, c.from.ensures);
  small = omega arith;
}
