use Rattle.std.proofs.Common.{[], ◌∷◌, ap, sym}
use Rattle.std.proofs.lemmas.Result.{err_from_is_err_and}
use Rattle.base_values.specs.Answers.{map_ok}
use Rattle.rule_edits.specs.RuleEdits.RuleEdit.{Add}
use Rattle.edit_plans.specs.laws.RulePlans.{mapped_refused, rules_no_sheet, rules_planned, rules_refused}
use Rattle.edit_plans.proofs.rules.plan_new_rule.Goals as goal

pub returns-in_err-found : goal.returns-in_err-found
returns-in_err-found c =
    let p = err_from_is_err_and c.from_residual.result c.from_residual.ensures.1 in
    let refused = rules_no_sheet (Add c.args.sheet c.args.parts.now c.args.rule.now) c.args.workbook.now c.in_err-found.field-0.0 (sym c.in_err-found.ensures) in
    rw (p.1, p.2) (record { planned = refused })

pub returns-in_err-change : goal.returns-in_err-change
returns-in_err-change c =
    let p = err_from_is_err_and c.from_residual-in_err-change.result c.from_residual-in_err-change.ensures.1 in
    let refused = rules_refused (Add c.args.sheet c.args.parts.now c.args.rule.now) c.args.workbook.now c.in_ok-found.found.now (sym (c.in_ok-found.ensures {u = _}))
    c.in_err-change.field-0.0 (mapped_refused (λ change. change ∷ []) _ c.in_err-change.field-0.0 (c.in_err-change.ensures {u = _}).change) in
    rw (p.1, p.2) (record { planned = refused })

pub returns : goal.returns
returns c =
    let output = ap (map_ok (λ change. change ∷ [])) (c.in_ok-change.ensures {u = _}).change.done in
    record {
      planned = rules_planned (Add c.args.sheet c.args.parts.now c.args.rule.now) c.args.workbook.now c.in_ok-found.found.now (sym (c.in_ok-found.ensures {u = _}))
          (c.in_ok-change.change ∷ []) output c.requires.rules c.list_of_change.result c.list_of_change.ensures.only c.list_of_change.ensures.output c.list_of_change.ensures.canonical;
    }
