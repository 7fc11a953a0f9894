use Rattle.std.proofs.Common.{Ok, Err, ap, sym, ◌∙◌, w32, SFits}
use Rattle.std.proofs.lemmas.Int.{to_z-of_z}
use Rattle.std.proofs.lemmas.Result.{err_from_is_err_and}
use Rattle.sheet_fill.specs.FillRanges.{range_of}
use Rattle.sheet_fill.specs.Plans.{fill_planned, plan_of}
use Rattle.sheet_fill.proofs.Planned.{late, planned_all, planned_blocked, planned_free, planned_nowhere, planned_outside}
use Rattle.sheet_fill.proofs.plan.plan_fill.Goals as goal

pub returns-in_err-sheet-clause-planned : goal.returns-in_err-sheet-clause-planned
returns-in_err-sheet-clause-planned g c =
    let to_fits : SFits w32 c.args.to = c.ranges.to in
    let p = err_from_is_err_and c.from_residual.result c.from_residual.ensures.1 in
    rw (p.1, p.2) (planned_nowhere g.A.Axis.along c.args.area.now c.args.to c.args.language c.args.workbook.now c.in_err-sheet.field-0.0 (sym c.in_err-sheet.ensures))

pub returns-in_err-wanted-clause-planned : goal.returns-in_err-wanted-clause-planned
returns-in_err-wanted-clause-planned g c =
    let a = g.A.Axis.along in
    let p = err_from_is_err_and c.from_residual-in_err-wanted.result c.from_residual-in_err-wanted.ensures.1 in
    rw (p.1, p.2) (planned_outside a c.args.area.now c.args.to c.args.language c.args.workbook.now c.in_ok-sheet.sheet.now (sym c.in_ok-sheet.ensures)
    c.in_err-wanted.field-0.0 (λ same. c.in_err-wanted.ensures.sure (ap Err same))
    (sym (c.in_err-wanted.ensures.range ∙ (λ i. range_of a (c.source_of.ensures i) (to_z-of_z w32 c.args.to c.ranges.to i)))))

pub returns-in_err-range-clause-planned : goal.returns-in_err-range-clause-planned
returns-in_err-range-clause-planned g c =
    let a = g.A.Axis.along in
    let p = err_from_is_err_and c.from_residual-in_err-range.result c.from_residual-in_err-range.ensures.1 in
    rw (p.1, p.2) (planned_blocked a c.args.area.now c.args.to c.args.language c.args.workbook.now c.in_ok-sheet.sheet.now (sym c.in_ok-sheet.ensures)
    c.in_ok-wanted.wanted (sym (c.in_ok-wanted.ensures.range ∙ (λ i. range_of a (c.source_of.ensures i) (to_z-of_z w32 c.args.to c.ranges.to i))))
    c.in_err-range.field-0.0 (λ same. c.in_err-range.ensures.sure (ap Err same)) (sym c.in_err-range.ensures.tested))

pub returns-in_err-default-clause-planned : goal.returns-in_err-default-clause-planned
returns-in_err-default-clause-planned g c =
    let a = g.A.Axis.along in
    let p = err_from_is_err_and c.from_residual-in_err-default.result c.from_residual-in_err-default.ensures.1 in
    let free = planned_free a c.args.area.now c.args.to c.args.language c.args.workbook.now c.in_ok-sheet.sheet.now (sym c.in_ok-sheet.ensures)
    c.in_ok-wanted.wanted (sym (c.in_ok-wanted.ensures.range ∙ (λ i. range_of a (c.source_of.ensures i) (to_z-of_z w32 c.args.to c.ranges.to i))))
    c.in_ok-range.range (sym c.in_ok-range.ensures.tested) in
    rw (p.1, p.2) (late (fill_planned a c.args.area.now c.args.to c.args.language c.args.workbook.now) _ free c.in_err-default.field-0.0 _ c.in_err-default.ensures)

pub returns-clause-planned : goal.returns-clause-planned
returns-clause-planned g c =
    let a = g.A.Axis.along in
    let free = planned_free a c.args.area.now c.args.to c.args.language c.args.workbook.now c.in_ok-sheet.sheet.now (sym c.in_ok-sheet.ensures)
    c.in_ok-wanted.wanted (sym (c.in_ok-wanted.ensures.range ∙ (λ i. range_of a (c.source_of.ensures i) (to_z-of_z w32 c.args.to c.ranges.to i))))
    c.in_ok-range.range (sym c.in_ok-range.ensures.tested) in
    planned_all (fill_planned a c.args.area.now c.args.to c.args.language c.args.workbook.now)
    (plan_of a c.locale.result c.args.language c.in_ok-sheet.sheet.now c.in_ok-range.range)
    (free ∙ ap (λ locale. Ok (plan_of a locale c.args.language c.in_ok-sheet.sheet.now c.in_ok-range.range)) (sym c.locale.ensures))
    c.plan_of.result c.plan_of.ensures.plan c.plan_of.ensures.only
