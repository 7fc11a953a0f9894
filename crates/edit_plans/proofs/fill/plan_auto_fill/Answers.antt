use Rattle.std.proofs.Common.{w32, SFits, sym}
use Rattle.std.proofs.lemmas.Int.{to_z-of_z}
use Rattle.std.proofs.lemmas.Result.{err_from_is_err_and}
use Rattle.edit_plans.specs.laws.FillLaws.{fill_refused, fill_taken, never_without}
use Rattle.edit_plans.proofs.fill.plan_auto_fill.Goals as goal

pub returns-in_err-plan : goal.returns-in_err-plan
returns-in_err-plan c =
    let to_fits : SFits w32 c.args.to = c.ranges.to in
    let p = err_from_is_err_and c.from_residual.result c.from_residual.ensures.1 in
    rw (p.1, p.2)
    (record { planned = fill_refused c.args.axis c.args.area.now c.args.to c.args.language c.args.workbook.now c.in_err-plan.field-0.0 (simp to_z-of_z at c.in_err-plan.ensures.planned) })

pub returns-in_err-found : goal.returns-in_err-found
returns-in_err-found c =
    let to_fits : SFits w32 c.args.to = c.ranges.to in
    absurd (never_without c.args.axis c.args.area.now c.args.to c.args.language c.args.workbook.now c.in_err-found.field-0.0 c.in_ok-plan.plan (sym c.in_err-found.ensures)
    (simp to_z-of_z at (c.in_ok-plan.ensures {u = _}).planned).done)

pub returns : goal.returns
returns c =
    let to_fits : SFits w32 c.args.to = c.ranges.to in
    record {
      planned = fill_taken c.args.axis c.args.area.now c.args.to c.args.language c.args.workbook.now c.requires.rules c.in_ok-found.found.now (sym (c.in_ok-found.ensures {u = _}))
          c.in_ok-plan.plan (simp to_z-of_z at (c.in_ok-plan.ensures {u = _}).planned) c.fill_list.result c.fill_list.ensures.output c.fill_list.ensures.canonical c.fill_list.ensures.only;
    }
