use Rattle.std.proofs.Common.{◌≡◌, [], ◌∷◌, subst}
use Rattle.std.proofs.lemmas.Result.{err_from_is_err_and}
use Rattle.base_values.specs.declared.EditError.TheVariants.{NoMemory}
use Rattle.format_rules.specs.declared.CfRule.{CfRule}
use Rattle.rule_edits.specs.RuleEdits.RuleEdit.{Add}
use Rattle.edit_plans.specs.Edits.Edit.{EditRules}
use Rattle.open_book.specs.Machine.{edit_of}
use Rattle.open_book.specs.Stands.{Moves}
use Rattle.script_runs.specs.Script.{rule_typed}
use Rattle.script_runs.proofs.Rules.{rule_is, short_turns, unread_turns}
use Rattle.script_runs.proofs.Steps.{moves_turn}
use Rattle.script_runs.proofs.session.add_rule.Goals as goal

pub returns-in_err-formula-clause-next : goal.returns-in_err-formula-clause-next
returns-in_err-formula-clause-next c =
    let p = err_from_is_err_and c.from_residual.result c.from_residual.ensures.1 in
    rw (p.1, p.2) (λ state stands. unread_turns c.args.named c.args.text.now c.args.model.now.document state c.in_err-formula.field-0.0 stands c.in_err-formula.ensures.read.refused)

pub returns-in_err-rule-clause-next : goal.returns-in_err-rule-clause-next
returns-in_err-rule-clause-next c =
    let short : c.in_err-rule.field-0.0 ≡ NoMemory = c.in_err-rule.ensures.only in
    let p = err_from_is_err_and c.from_residual-in_err-rule.result c.from_residual-in_err-rule.ensures.1 in
    rw (p.1, p.2) (λ state stands. short_turns c.in_err-rule.field-0.0 c.args.model.now.document (rule_typed c.args.named c.args.text.now state) short)

pub returns-clause-next : goal.returns-clause-next
returns-clause-next c = λ state stands.
    let value = rule_is c.args.named c.args.text.now c.args.model.now.document state c.in_ok-formula.formula c.in_ok-rule.rule stands (c.in_ok-formula.ensures {u = _}).read.done (c.in_ok-rule.ensures {u = _}).value in
    moves_turn _ _ _
    (subst
    (λ (rule : CfRule). Moves c.add_conditional_formatting.result c.add_conditional_formatting.new.self.document (edit_of (EditRules (Add c.args.named.sheet (c.args.named.area ∷ []) rule)) state))
    value (c.add_conditional_formatting.ensures.next state stands))
