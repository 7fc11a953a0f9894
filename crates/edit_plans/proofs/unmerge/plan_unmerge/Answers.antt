use Rattle.std.proofs.Common.{w32, SFits, Err, ap, sym}
use Rattle.std.proofs.lemmas.Int.{to_z-of_z}
use Rattle.std.proofs.lemmas.Result.{err_from_is_err_and}
use Rattle.edit_plans.proofs.MergePlans.{unmerge_no_sheet, unmerge_refused, unmerge_planned}
use Rattle.edit_plans.proofs.unmerge.plan_unmerge.Goals as goal

pub returns-in_err-found : goal.returns-in_err-found
returns-in_err-found c =
    let p = err_from_is_err_and c.from_residual.result c.from_residual.ensures.1 in
    rw (p.1, p.2)
    (record {
      planned = unmerge_no_sheet c.args.workbook.now c.args.sheet c.args.row c.args.column c.in_err-found.field-0.0
          (sym c.in_err-found.ensures);
    })

pub returns-in_err-place : goal.returns-in_err-place
returns-in_err-place c =
    let row_fits : SFits w32 c.args.row = c.ranges.row in
    let column_fits : SFits w32 c.args.column = c.ranges.column in
    let p = err_from_is_err_and c.from_residual-in_err-place.result c.from_residual-in_err-place.ensures.1 in
    let refused = simp to_z-of_z at c.in_err-place.ensures.place in
    rw (p.1, p.2)
    (record {
      planned = unmerge_refused c.args.workbook.now c.args.sheet c.in_ok-found.found.now
          (sym (c.in_ok-found.ensures {u = _})) c.args.row c.args.column c.in_err-place.field-0.0
          (λ short. c.in_err-place.ensures.sure (ap Err short)) (sym refused);
    })

pub returns : goal.returns
returns c =
    let row_fits : SFits w32 c.args.row = c.ranges.row in
    let column_fits : SFits w32 c.args.column = c.ranges.column in
    let goes = simp to_z-of_z at (c.in_ok-place.ensures {u = _}).place in
    let named = simp to_z-of_z at (c.in_ok-place.ensures {u = _}).named in
    record {
      planned = unmerge_planned c.args.workbook.now c.args.sheet c.in_ok-found.found.now (sym (c.in_ok-found.ensures {u = _})) c.requires.rules
          c.unmerge_record.result c.unmerge_record.ensures.canonical c.unmerge_record.ensures.only c.args.row c.args.column c.in_ok-place.place named
          (sym goes) c.unmerge_record.ensures.output;
    }
