use Rattle.std.proofs.Common.{refl}
use Rattle.rule_edits.specs.RuleEdits.RuleEdit.{Delete}
use Rattle.edit_plans.specs.Edits.Edit.{EditRules}
use Rattle.script_runs.proofs.Steps.{edit_keeps, moves_turn, step_runs}
use Rattle.script_runs.proofs.session.Session.rule_delete.Goals as goal

pub returns : goal.returns
returns c = λ state stands.
    step_runs c.push_outcome.result c.delete_conditional_formatting-done.result c.args.self.now _ state _ (edit_keeps (EditRules (Delete c.args.named.sheet c.args.named.index)) state) stands
    (moves_turn _ _ _ (c.delete_conditional_formatting-done.ensures.next state stands.model))
    c.delete_conditional_formatting-done.ensures.err refl c.push_outcome.ensures.text c.push_outcome.ensures.memory c.push_outcome.ensures.only
