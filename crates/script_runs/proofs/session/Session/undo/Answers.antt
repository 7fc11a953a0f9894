use Rattle.std.proofs.Common.{refl}
use Rattle.script_runs.proofs.Steps.{undo_keeps, step_runs}
use Rattle.script_runs.proofs.session.Session.undo.Goals as goal

pub returns : goal.returns
returns c = λ state stands.
    step_runs c.push_outcome.result c.undo-done.result c.args.self.now _ state _ (undo_keeps state) stands
    (c.undo-done.ensures.next state stands.model)
    c.undo-done.ensures.err refl c.push_outcome.ensures.text c.push_outcome.ensures.memory c.push_outcome.ensures.only
