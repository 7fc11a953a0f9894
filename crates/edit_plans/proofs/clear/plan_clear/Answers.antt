use Rattle.std.proofs.Common.{◌≡◌, Result, Ok, Err, ap, sym}
use Rattle.std.proofs.lemmas.Result.{err_from_is_err_and}
use Rattle.base_values.specs.declared.EditError.{EditError}
use Rattle.range_styles.specs.declared.SheetPlan.{SheetPlan}
use Rattle.edit_plans.proofs.Ranges.{cleared_no_sheet, cleared_refused, cleared_short, cleared_planned}
use Rattle.edit_plans.proofs.clear.plan_clear.Goals as goal

pub returns-in_err-found : goal.returns-in_err-found
returns-in_err-found c =
    let p = err_from_is_err_and c.from_residual.result c.from_residual.ensures.1 in
    rw (p.1, p.2) (record { planned = cleared_no_sheet c.args.workbook.now c.args.sheet c.args.clearing c.args.area c.in_err-found.field-0.0 (sym c.in_err-found.ensures) })

pub returns-in_err-area : goal.returns-in_err-area
returns-in_err-area c =
    let p = err_from_is_err_and c.from_residual-in_err-area.result c.from_residual-in_err-area.ensures.1 in
    rw (p.1, p.2)
    (record {
      planned = cleared_refused c.args.workbook.now c.args.sheet c.args.clearing c.args.area c.in_ok-found.found.now (sym (c.in_ok-found.ensures {u = _})) c.in_err-area.field-0.0 (sym c.in_err-area.ensures.area)
          (λ short. c.in_err-area.ensures.sure (ap Err short));
    })

pub returns-in_err-plan : goal.returns-in_err-plan
returns-in_err-plan c =
    let p = err_from_is_err_and c.from_residual-in_err-plan.result c.from_residual-in_err-plan.ensures.1 in
    rw (p.1, p.2)
    (record {
      planned = cleared_short c.args.workbook.now c.args.sheet c.args.clearing c.args.area c.in_ok-found.found.now (sym (c.in_ok-found.ensures {u = _})) c.in_ok-area.area (sym c.in_ok-area.ensures.area)
          c.in_err-plan.field-0.0 c.in_err-plan.ensures.plan;
    })

one_plan : (p q : SheetPlan) → ◌≡◌ {A = Result SheetPlan EditError} (Ok p) (Ok q) → p ≡ q
one_plan p q is = cc

pub returns : goal.returns
returns c = record {
  planned = cleared_planned c.args.workbook.now c.args.sheet c.args.clearing c.args.area c.in_ok-found.found.now (sym (c.in_ok-found.ensures {u = _})) c.requires.rules c.in_ok-area.area (sym c.in_ok-area.ensures.area)
      c.in_ok-plan.plan (one_plan _ _ c.in_ok-plan.ensures.plan.done) c.plan_list.result c.plan_list.ensures.output c.plan_list.ensures.canonical c.plan_list.ensures.only;
}
