use Rattle.std.proofs.lemmas.Result.{err_from_is_err_and}
use Rattle.base_wire.specs.laws.Many.{goes_on, ends, is_done}
use Rattle.base_wire.proofs.many.many_at.Goals as goal

pub returns-in_err-item : goal.returns-in_err-item
returns-in_err-item g c =
    let p = err_from_is_err_and c.from_residual.result c.from_residual.ensures.1 in
    rw (p.1, p.2) (record {
      done = tt;
      refused = λ other. ends g.P.Part.reading c.reads.items.items c.args.count c.reads.counter c.reads.rest.now _ c.reads.invariant c.in_err-item.field-0.0 c.reads-test.true (c.in_err-item.ensures.refused other);
    })

pub reads-preserved : goal.reads-preserved
reads-preserved g c =
    rw c.in_ok-push.ensures.items (goes_on g.P.Part.reading c.reads.items.items c.args.count c.reads.counter c.reads.rest.now _ c.reads.invariant c.in_ok-item.item c.in_ok-item.after.now c.reads-test.true c.in_ok-item.ensures.done)

pub returns : goal.returns
returns g c = record { done = is_done g.P.Part.reading c.reads.items.items c.args.count c.reads.counter c.reads.rest.now _ c.reads.invariant c.reads-test.false; refused = tt }
