use Rattle.std.proofs.Common.{Err, ap, sym}
use Rattle.std.proofs.lemmas.Result.{err_from_is_err_and}
use Rattle.edit_plans.proofs.ArrayPlans.{array_named, array_no_sheet, array_refused, array_planned}
use Rattle.edit_plans.proofs.array.plan_array.Goals as goal

pub returns-in_err-found : goal.returns-in_err-found
returns-in_err-found c =
    let p = err_from_is_err_and c.from_residual.result c.from_residual.ensures.1 in
    rw (p.1, p.2) (record { planned = array_no_sheet c.args.workbook.now c.args.sheet c.args.area c.args.tree c.in_err-found.field-0.0 (sym c.in_err-found.ensures) })

pub returns-in_err-free : goal.returns-in_err-free
returns-in_err-free c =
    let p = err_from_is_err_and c.from_residual-in_err-free.result c.from_residual-in_err-free.ensures.1 in
    rw (p.1, p.2)
    (record {
      planned = array_refused c.args.workbook.now c.args.sheet c.args.area c.args.tree c.in_ok-found.found.now (sym (c.in_ok-found.ensures {u = _})) c.in_err-free.field-0.0 (sym c.in_err-free.ensures.area)
          (λ short. c.in_err-free.ensures.sure (ap Err short));
    })

pub array_list-requires-clause-place : goal.array_list-requires-clause-place
array_list-requires-clause-place c = array_named c.in_ok-found.found.now c.args.area c.in_ok-free.free (sym (c.in_ok-free.ensures {u = _}).area)

pub returns : goal.returns
returns c = record {
  planned = array_planned c.args.workbook.now c.args.sheet c.args.area c.args.tree c.in_ok-found.found.now (sym (c.in_ok-found.ensures {u = _})) c.requires.rules c.requires.fits
      c.in_ok-free.free (sym (c.in_ok-free.ensures {u = _}).area) c.array_list.result c.array_list.ensures.output c.array_list.ensures.canonical c.array_list.ensures.only;
}
