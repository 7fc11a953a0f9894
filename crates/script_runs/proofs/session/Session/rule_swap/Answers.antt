use Rattle.std.proofs.Common.{refl}
use Rattle.rule_edits.specs.RuleEdits.RuleEdit.{Swap}
use Rattle.edit_plans.specs.Edits.Edit.{EditRules}
use Rattle.script_runs.proofs.Steps.{edit_keeps, moves_turn, step_runs}
use Rattle.script_runs.proofs.session.Session.rule_swap.Goals as goal

pub returns : goal.returns
returns c = λ state stands.
    step_runs c.push_outcome.result c.swap_conditional_formatting_priority-done.result c.args.self.now _ state _ (edit_keeps (EditRules (Swap c.args.named.sheet c.args.named.index_a c.args.named.index_b)) state) stands
    (moves_turn _ _ _ (c.swap_conditional_formatting_priority-done.ensures.next state stands.model))
    c.swap_conditional_formatting_priority-done.ensures.err refl c.push_outcome.ensures.text c.push_outcome.ensures.memory c.push_outcome.ensures.only
