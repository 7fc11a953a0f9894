use Rattle.std.proofs.Common.{arith}
use Rattle.base_decimal.proofs.Rounds.{digits_most, excess_step, excess_ends}
use Rattle.base_decimal.proofs.decimal.excess.Goals as goal

pub overflow_add-dropped : goal.overflow_add-dropped
overflow_add-dropped c = let most = digits_most c.args.number 39 (omega arith) in omega arith

pub loop-rest-preserved : goal.loop-rest-preserved
loop-rest-preserved c = let step = excess_step c.loop-rest.rest c.loop-rest.dropped (omega arith) in record { total = omega arith; large = omega arith }

pub returns : goal.returns
returns c = excess_ends c.args.number c.loop-rest.dropped c.loop-rest.rest c.loop-rest.invariant.total c.loop-rest.invariant.large c.loop-rest-test.false
