use Rattle.std.proofs.Common.{refl}
use Rattle.script_runs.proofs.Steps.{zone_keeps, moves_turn, step_runs}
use Rattle.script_runs.proofs.session.Session.zone.Goals as goal

pub returns : goal.returns
returns c = λ state stands.
    step_runs c.push_outcome.result c.set_timezone-done.result c.args.self.now _ state _ (zone_keeps c.args.name.now state) stands
    (moves_turn _ _ _ (c.set_timezone-done.ensures.next state stands.model))
    c.set_timezone-done.ensures.err refl c.push_outcome.ensures.text c.push_outcome.ensures.memory c.push_outcome.ensures.only
