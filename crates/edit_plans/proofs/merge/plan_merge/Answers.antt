use Rattle.std.proofs.Common.{Err, ap, sym}
use Rattle.std.proofs.lemmas.Result.{err_from_is_err_and}
use Rattle.edit_plans.proofs.MergePlans.{merge_no_sheet, merge_refused, merge_planned}
use Rattle.edit_plans.proofs.merge.plan_merge.Goals as goal

pub returns-in_err-found : goal.returns-in_err-found
returns-in_err-found c =
    let p = err_from_is_err_and c.from_residual.result c.from_residual.ensures.1 in
    rw (p.1, p.2) (record { planned = merge_no_sheet c.args.workbook.now c.args.sheet c.args.area c.in_err-found.field-0.0 (sym c.in_err-found.ensures) })

pub returns-in_err-test_merge : goal.returns-in_err-test_merge
returns-in_err-test_merge c =
    let p = err_from_is_err_and c.from_residual-in_err-test_merge.result c.from_residual-in_err-test_merge.ensures.1 in
    rw (p.1, p.2)
    (record {
      planned = merge_refused c.args.workbook.now c.args.sheet c.in_ok-found.found.now
          (sym (c.in_ok-found.ensures {u = _})) c.args.area c.in_err-test_merge.field-0.0
          (λ short. c.in_err-test_merge.ensures.sure (ap Err short)) (sym c.in_err-test_merge.ensures.tested);
    })

pub returns : goal.returns
returns c =
    record {
      planned = merge_planned c.args.workbook.now c.args.sheet c.in_ok-found.found.now (sym (c.in_ok-found.ensures {u = _})) c.requires.rules
          c.merge_record.result c.merge_record.ensures.canonical c.merge_record.ensures.only c.args.area
          (sym (c.in_ok-test_merge.ensures {u = _}).tested) c.merge_record.ensures.output;
    }
