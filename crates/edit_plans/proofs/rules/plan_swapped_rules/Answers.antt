use Rattle.std.proofs.Common.{ap, sym}
use Rattle.std.proofs.lemmas.Result.{err_from_is_err_and}
use Rattle.base_values.specs.Answers.{map_ok}
use Rattle.rule_edits.specs.RuleEdits.{maybe_two}
use Rattle.rule_edits.specs.RuleEdits.RuleEdit.{Swap}
use Rattle.edit_plans.specs.laws.RulePlans.{mapped_refused, rules_no_sheet, rules_planned, rules_refused}
use Rattle.edit_plans.proofs.rules.plan_swapped_rules.Goals as goal

pub returns-in_err-found : goal.returns-in_err-found
returns-in_err-found c =
    let p = err_from_is_err_and c.from_residual.result c.from_residual.ensures.1 in
    let refused = rules_no_sheet (Swap c.args.sheet c.args.index_a c.args.index_b) c.args.workbook.now c.in_err-found.field-0.0 (sym c.in_err-found.ensures) in
    rw (p.1, p.2) (record { planned = refused })

pub returns-in_err-changes : goal.returns-in_err-changes
returns-in_err-changes c =
    let p = err_from_is_err_and c.from_residual-in_err-changes.result c.from_residual-in_err-changes.ensures.1 in
    let refused = rules_refused (Swap c.args.sheet c.args.index_a c.args.index_b) c.args.workbook.now c.in_ok-found.found.now (sym (c.in_ok-found.ensures {u = _}))
    c.in_err-changes.field-0.0 (mapped_refused maybe_two _ c.in_err-changes.field-0.0 (c.in_err-changes.ensures {u = _}).changes) in
    rw (p.1, p.2) (record { planned = refused })

pub returns : goal.returns
returns c =
    let output = ap (map_ok maybe_two) (c.in_ok-changes.ensures {u = _}).changes.done in
    record {
      planned = rules_planned (Swap c.args.sheet c.args.index_a c.args.index_b) c.args.workbook.now c.in_ok-found.found.now (sym (c.in_ok-found.ensures {u = _}))
          (maybe_two c.in_ok-changes.changes) output c.requires.rules c.list_of_changes.result c.list_of_changes.ensures.only c.list_of_changes.ensures.output c.list_of_changes.ensures.canonical;
    }
