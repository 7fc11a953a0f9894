use Rattle.std.proofs.Common.{Vec, Global, Ok, Err, true, map, refl, ap, sym, subst}
use Rattle.std.proofs.lemmas.Result.{err_from_is_err_and}
use Rattle.base_values.specs.declared.EditError.TheVariants.{StyleValue}
use Rattle.base_values.specs.Answers.{Returns}
use Rattle.base_axis.specs.declared.MergedCell.{MergedCell}
use Rattle.base_axis.specs.Rectangles.{anchor_place}
use Rattle.base_styles.specs.declared.Style.{Style}
use Rattle.range_styles.specs.declared.SheetPlan.{SheetPlan}
use Rattle.range_styles.specs.Styled.{planned_styles}
use Rattle.range_styles.specs.Tiles.{tiles}
use Rattle.edit_plans.specs.RangeEdits.{tiled_range}
use Rattle.edit_plans.proofs.Ranges.{area_no_sheet, area_outside, given_planned, given_stopped, tiles_keep}
use Rattle.edit_plans.proofs.paste.plan_tiles.Goals as goal

pub returns-in_err-found : goal.returns-in_err-found
returns-in_err-found c =
    let p = err_from_is_err_and c.from_residual.result c.from_residual.ensures.1 in
    let styles = map (λ (row : Vec Style Global). row.items) c.args.styles.now in
    rw (p.1, p.2)
    (record {
      planned = area_no_sheet c.args.workbook.now c.args.sheet c.args.area tiled_range (tiles styles (anchor_place c.args.area))
          (tiles_keep styles c.args.area) (λ place style. true) StyleValue
          c.in_err-found.field-0.0 (sym c.in_err-found.ensures);
    })

pub returns-in_err-area : goal.returns-in_err-area
returns-in_err-area c =
    let p = err_from_is_err_and c.from_residual-in_err-area.result c.from_residual-in_err-area.ensures.1 in
    let styles = map (λ (row : Vec Style Global). row.items) c.args.styles.now in
    rw (p.1, p.2)
    (record {
      planned = area_outside c.args.workbook.now c.args.sheet c.args.area tiled_range (tiles styles (anchor_place c.args.area))
          (tiles_keep styles c.args.area) (λ place style. true) StyleValue
          c.in_ok-found.found.now (sym (c.in_ok-found.ensures {u = _})) c.in_err-area.field-0.0 (sym c.in_err-area.ensures.area)
          (λ short. c.in_err-area.ensures.sure (ap Err short));
    })

pub returns-in_err-plan : goal.returns-in_err-plan
returns-in_err-plan c =
    let p = err_from_is_err_and c.from_residual-in_err-plan.result c.from_residual-in_err-plan.ensures.1 in
    let styles = map (λ (row : Vec Style Global). row.items) c.args.styles.now in
    rw (p.1, p.2)
    (record {
      planned = given_stopped c.args.workbook.now c.args.sheet c.args.area tiled_range (tiles styles (anchor_place c.args.area))
          (tiles_keep styles c.args.area) (λ place style. true) StyleValue
          c.in_ok-found.found.now (sym (c.in_ok-found.ensures {u = _})) c.in_ok-area.area (sym c.in_ok-area.ensures.area)
          (tiled_range c.in_ok-area.area) refl c.in_err-plan.field-0.0
          (subst
          (λ (r : MergedCell). Returns {T = SheetPlan} (Err c.in_err-plan.field-0.0)
          (planned_styles (tiled_range c.in_ok-area.area) (tiles styles (anchor_place r)) (λ place style. true) StyleValue c.in_ok-found.found.now))
          c.in_ok-area.ensures.same c.in_err-plan.ensures.plan);
    })

pub returns : goal.returns
returns c =
    let styles = map (λ (row : Vec Style Global). row.items) c.args.styles.now in
    record {
      planned = given_planned c.args.workbook.now c.args.sheet c.args.area tiled_range (tiles styles (anchor_place c.args.area))
          (tiles_keep styles c.args.area) (λ place style. true) StyleValue
          c.in_ok-found.found.now (sym (c.in_ok-found.ensures {u = _})) c.in_ok-area.area (sym c.in_ok-area.ensures.area)
          (tiled_range c.in_ok-area.area) refl c.requires.rules refl c.in_ok-plan.plan
          (subst
          (λ (r : MergedCell). Returns {T = SheetPlan} (Ok c.in_ok-plan.plan)
          (planned_styles (tiled_range c.in_ok-area.area) (tiles styles (anchor_place r)) (λ place style. true) StyleValue c.in_ok-found.found.now))
          c.in_ok-area.ensures.same c.in_ok-plan.ensures.plan)
          c.plan_list.result c.plan_list.ensures.output c.plan_list.ensures.canonical c.plan_list.ensures.only;
    }
