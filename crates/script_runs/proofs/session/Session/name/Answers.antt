use Rattle.std.proofs.Common.{refl, pos}
use Rattle.name_edits.specs.NameEdits.NameEdit.{Add}
use Rattle.edit_plans.specs.Edits.Edit.{ChangeNames}
use Rattle.user_model.specs.Reading.{formula_typed}
use Rattle.script_runs.proofs.Steps.{edit_keeps, step_runs}
use Rattle.script_runs.proofs.session.Session.name.Goals as goal

pub returns : goal.returns
returns c = λ state stands.
    step_runs c.push_outcome.result c.new_defined_name-done.result c.args.self.now _ state _ (edit_keeps (ChangeNames (Add c.args.scope c.args.name.now (formula_typed state.present state.language (pos 1) (pos 1) c.args.text.now))) state) stands
    (c.new_defined_name-done.ensures.next state stands.model)
    c.new_defined_name-done.ensures.err refl c.push_outcome.ensures.text c.push_outcome.ensures.memory c.push_outcome.ensures.only
