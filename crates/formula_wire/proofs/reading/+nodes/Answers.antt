use Rattle.std.proofs.lemmas.Result.{err_from_is_err_and}
use Rattle.formula_wire.specs.laws.Reading.{node_within}
use Rattle.base_wire.specs.laws.Many.{goes_on, ends, is_done}
use Rattle.formula_wire.proofs.reading.+nodes.Goals as goal

pub nodes_of-returns-in_err-node : goal.nodes_of-returns-in_err-node
nodes_of-returns-in_err-node t c =
    let p = err_from_is_err_and c.from_residual.result c.from_residual.ensures.1 in
    rw (p.1, p.2) (record {
      done = tt;
      refused = λ other. ends (node_within c.args.most) c.reads.nodes.items c.args.count c.reads.counter c.reads.rest.now _ c.reads.invariant c.in_err-node.field-0.0 c.reads-test.true (c.in_err-node.ensures.refused other);
    })

pub nodes_of-reads-preserved : goal.nodes_of-reads-preserved
nodes_of-reads-preserved t c =
    rw c.in_ok-push.ensures.items (goes_on (node_within c.args.most) c.reads.nodes.items c.args.count c.reads.counter c.reads.rest.now _ c.reads.invariant c.in_ok-node.node c.in_ok-node.after.now c.reads-test.true c.in_ok-node.ensures.done)

pub nodes_of-returns : goal.nodes_of-returns
nodes_of-returns t c = record { done = is_done (node_within c.args.most) c.reads.nodes.items c.args.count c.reads.counter c.reads.rest.now _ c.reads.invariant c.reads-test.false; refused = tt }
