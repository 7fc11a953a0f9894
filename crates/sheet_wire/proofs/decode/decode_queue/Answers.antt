use Rattle.std.proofs.Common.{arith}
use Rattle.sheet_wire.specs.laws.QueueLaws.{queue_reads}
use Rattle.sheet_wire.proofs.decode.decode_queue.Goals as goal

pub returns-clause-read : goal.returns-clause-read
returns-clause-read c = queue_reads c.args.bytes.now c.queue_of.result (λ i. omega (arith, c.type_inv.bytes i)) c.queue_of.ensures.read
