use Rattle.std.proofs.Common.{Err, sym}
use Rattle.std.proofs.lemmas.Result.{err_from_is_err_and}
use Rattle.sheet_wire.specs.laws.QueueLaws.{front_error, front_never, queue_refused}
use Rattle.sheet_wire.proofs.decode.queue_at.Goals as goal

pub returns-in_err-counted_after-clause-read : goal.returns-in_err-counted_after-clause-read
returns-in_err-counted_after-clause-read c =
    let p = err_from_is_err_and c.from_residual.result c.from_residual.ensures.1 in
    rw (p.1, p.2) (record { done = tt; refused = λ other. queue_refused c.args.bytes.now c.in_err-counted_after.field-0.0 (sym c.in_err-counted_after.ensures) })

pub returns-in_err-counted_after-clause-early : goal.returns-in_err-counted_after-clause-early
returns-in_err-counted_after-clause-early c =
    let p = err_from_is_err_and c.from_residual.result c.from_residual.ensures.1 in
    rw (p.1, p.2) (λ none. let same = front_error c.args.bytes.now c.in_err-counted_after.field-0.0 (sym c.in_err-counted_after.ensures) none in λ i. Err (same i))

pub returns-clause-early : goal.returns-clause-early
returns-clause-early c = λ none. absurd (front_never c.args.bytes.now c.in_ok-counted_after.field-0.now (sym c.in_ok-counted_after.ensures) none)
