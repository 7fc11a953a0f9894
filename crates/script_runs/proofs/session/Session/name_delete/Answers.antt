use Rattle.std.proofs.Common.{refl}
use Rattle.name_edits.specs.NameEdits.NameEdit.{Remove}
use Rattle.edit_plans.specs.Edits.Edit.{ChangeNames}
use Rattle.script_runs.proofs.Steps.{edit_keeps, moves_turn, step_runs}
use Rattle.script_runs.proofs.session.Session.name_delete.Goals as goal

pub returns : goal.returns
returns c = λ state stands.
    step_runs c.push_outcome.result c.delete_defined_name-done.result c.args.self.now _ state _ (edit_keeps (ChangeNames (Remove c.args.scope c.args.name.now)) state) stands
    (moves_turn _ _ _ (c.delete_defined_name-done.ensures.next state stands.model))
    c.delete_defined_name-done.ensures.err refl c.push_outcome.ensures.text c.push_outcome.ensures.memory c.push_outcome.ensures.only
