use Rattle.std.proofs.Common.{refl}
use Rattle.edit_plans.specs.Edits.Edit.{AddSheet}
use Rattle.script_runs.proofs.Steps.{edit_keeps, moves_turn, step_runs}
use Rattle.script_runs.proofs.session.Session.new_sheet.Goals as goal

pub returns : goal.returns
returns c = λ state stands.
    step_runs c.push_outcome.result c.new_sheet-done.result c.args.self.now _ state _ (edit_keeps AddSheet state) stands
    (moves_turn _ _ _ (c.new_sheet-done.ensures.next state stands.model))
    c.new_sheet-done.ensures.err refl c.push_outcome.ensures.text c.push_outcome.ensures.memory c.push_outcome.ensures.only
