use Rattle.std.proofs.Common.{Err, false, refl, ap, sym}
use Rattle.std.proofs.lemmas.Result.{err_from_is_err_and}
use Rattle.base_axis.specs.declared.MergedCell.{MergedCell}
use Rattle.range_styles.specs.declared.AreaKind.{AreaKind}
use Rattle.edit_plans.specs.RangeEdits.{may_update, update_refusal, updates, whole_range}
use Rattle.edit_plans.proofs.Ranges.{area_no_sheet, area_outside, given_planned, given_stopped, updates_sized, styles_plans}
use Rattle.edit_plans.proofs.styles.plan_styles.Goals as goal

pub returns-in_err-found : goal.returns-in_err-found
returns-in_err-found c =
    let p = err_from_is_err_and c.from_residual.result c.from_residual.ensures.1 in
    rw (p.1, p.2)
    (record {
      planned = styles_plans c.args.workbook.now c.args.sheet c.args.area c.args.path.now c.args.value.now _
          (area_no_sheet c.args.workbook.now c.args.sheet c.args.area (λ (area : MergedCell). whole_range area false) (updates c.args.path.now c.args.value.now) (updates_sized c.args.path.now c.args.value.now) (may_update c.args.path.now c.args.value.now) (update_refusal c.args.path.now c.args.value.now) c.in_err-found.field-0.0 (sym c.in_err-found.ensures));
    })

pub returns-in_err-area : goal.returns-in_err-area
returns-in_err-area c =
    let p = err_from_is_err_and c.from_residual-in_err-area.result c.from_residual-in_err-area.ensures.1 in
    rw (p.1, p.2)
    (record {
      planned = styles_plans c.args.workbook.now c.args.sheet c.args.area c.args.path.now c.args.value.now _
          (area_outside c.args.workbook.now c.args.sheet c.args.area (λ (area : MergedCell). whole_range area false) (updates c.args.path.now c.args.value.now) (updates_sized c.args.path.now c.args.value.now) (may_update c.args.path.now c.args.value.now) (update_refusal c.args.path.now c.args.value.now) c.in_ok-found.found.now (sym (c.in_ok-found.ensures {u = _}))
          c.in_err-area.field-0.0 (sym c.in_err-area.ensures.area) (λ short. c.in_err-area.ensures.sure (ap Err short)));
    })

pub returns-in_err-plan : goal.returns-in_err-plan
returns-in_err-plan c =
    let p = err_from_is_err_and c.from_residual-in_err-plan.result c.from_residual-in_err-plan.ensures.1 in
    rw (p.1, p.2)
    (record {
      planned = styles_plans c.args.workbook.now c.args.sheet c.args.area c.args.path.now c.args.value.now _
          (given_stopped c.args.workbook.now c.args.sheet c.args.area (λ (area : MergedCell). whole_range area false) (updates c.args.path.now c.args.value.now) (updates_sized c.args.path.now c.args.value.now) (may_update c.args.path.now c.args.value.now) (update_refusal c.args.path.now c.args.value.now) c.in_ok-found.found.now (sym (c.in_ok-found.ensures {u = _}))
          c.in_ok-area.area (sym c.in_ok-area.ensures.area) _ (ap (λ (kind : AreaKind). record { area = c.in_ok-area.area; kind = kind; clears = false }) c.kind_of-kind.ensures) c.in_err-plan.field-0.0 c.in_err-plan.ensures.plan);
    })

pub returns : goal.returns
returns c = record {
  planned = styles_plans c.args.workbook.now c.args.sheet c.args.area c.args.path.now c.args.value.now _
      (given_planned c.args.workbook.now c.args.sheet c.args.area (λ (area : MergedCell). whole_range area false) (updates c.args.path.now c.args.value.now) (updates_sized c.args.path.now c.args.value.now) (may_update c.args.path.now c.args.value.now) (update_refusal c.args.path.now c.args.value.now) c.in_ok-found.found.now (sym (c.in_ok-found.ensures {u = _}))
      c.in_ok-area.area (sym c.in_ok-area.ensures.area) _ (ap (λ (kind : AreaKind). record { area = c.in_ok-area.area; kind = kind; clears = false }) c.kind_of-kind.ensures) c.requires.rules refl c.in_ok-plan.plan c.in_ok-plan.ensures.plan
      c.plan_list.result c.plan_list.ensures.output c.plan_list.ensures.canonical c.plan_list.ensures.only);
}
