use Rattle.std.proofs.Common.{refl}
use Rattle.script_runs.proofs.Steps.{redo_keeps, step_runs}
use Rattle.script_runs.proofs.session.Session.redo.Goals as goal

pub returns : goal.returns
returns c = λ state stands.
    step_runs c.push_outcome.result c.redo-done.result c.args.self.now _ state _ (redo_keeps state) stands
    (c.redo-done.ensures.next state stands.model)
    c.redo-done.ensures.err refl c.push_outcome.ensures.text c.push_outcome.ensures.memory c.push_outcome.ensures.only
