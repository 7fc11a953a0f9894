use Rattle.std.proofs.Common.{◌≡◌, true, false, sym, rules}
use Rattle.std.proofs.lemmas.Result.{err_from_is_err_and}
use Rattle.sheet_history.specs.Fields.{may_have}
use Rattle.edit_plans.specs.laws.FieldPlans.{field_planned, field_no_sheet, field_refused}
use Rattle.edit_plans.proofs.field.plan_field.Goals as goal

pub returns-in_err-found : goal.returns-in_err-found
returns-in_err-found c =
    let p = err_from_is_err_and c.from_residual.result c.from_residual.ensures.1 in
    let refused = field_no_sheet c.args.workbook.now c.args.sheet c.args.value c.in_err-found.field-0.0 (sym c.in_err-found.ensures) in
    rw (p.1, p.2) (record { planned = refused })

pub returns-then-not-may_stand : goal.returns-then-not-may_stand
returns-then-not-may_stand c =
    let may : may_have c.args.value ≡ false = search rules in
    record { planned = field_refused c.args.workbook.now c.args.sheet c.args.value c.in_ok-found.found.now (sym (c.in_ok-found.ensures {u = _})) may }

pub returns : goal.returns
returns c =
    let may : may_have c.args.value ≡ true = search rules in
    record {
      planned = field_planned c.args.workbook.now c.args.sheet c.args.value may c.requires.rules c.in_ok-found.found.now
          (sym (c.in_ok-found.ensures {u = _})) c.field_list.result c.field_list.ensures.output c.field_list.ensures.canonical c.field_list.ensures.only;
    }
