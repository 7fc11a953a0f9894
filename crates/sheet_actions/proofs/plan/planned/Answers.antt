use Rattle.std.proofs.Common.{◌≡◌, ◌∙◌, Some, ap, subst, sym}
use Rattle.std.specs.Prelude.{IsTrue, is_some}
use Rattle.base_values.specs.declared.EditError.TheVariants.{NoMemory}
use Rattle.line_edits.specs.Edit.{IsValid}
use Rattle.sheet_ids.specs.Ids.{sheet_of}
use Rattle.sheet_actions.specs.Whole.{IsAllowed}
use Rattle.sheet_actions.specs.laws.PlannedLaws.{valid_unrefused, sheet_there, refusal_sure, planned_allowed}
use Rattle.sheet_actions.proofs.plan.planned.Goals as goal

pub returns-in-Some-clause-sure : goal.returns-in-Some-clause-sure
returns-in-Some-clause-sure g c h =
    let same : c.in-Some.refusal ≡ NoMemory = cc in
    refusal_sure g.A.Axis.along c.args.kind c.in_ok-found.found.now (sym c.in-Some.ensures ∙ ap Some same)

pub returns-in-None-clause-valid : goal.returns-in-None-clause-valid
returns-in-None-clause-valid g c =
    subst (IsValid g.A.Axis.along.last) (sym c.new.ensures) (valid_unrefused g.A.Axis.along c.args.kind c.in_ok-found.found.now (sym c.in-None.ensures))

pub returns-in-None-clause-there : goal.returns-in-None-clause-there
returns-in-None-clause-there g c =
    subst (λ id. IsTrue (is_some (sheet_of c.args.workbook.now id))) (sym c.get_sheet_id.ensures)
    (sheet_there c.args.workbook.now c.args.sheet c.in_ok-found.found.now c.in_ok-found.ensures)

pub returns-in-None-clause-allowed : goal.returns-in-None-clause-allowed
returns-in-None-clause-allowed g c rules =
    let allowed = planned_allowed g.A.Axis.along c.args.kind c.args.workbook.now c.args.sheet c.in_ok-found.found.now c.in_ok-found.ensures (sym c.in-None.ensures) rules in
    subst (λ id. IsAllowed g.A.Axis.along c.new.result.kind id c.args.workbook.now) (sym c.get_sheet_id.ensures)
    (subst (λ kind. IsAllowed g.A.Axis.along kind c.in_ok-found.found.now.id c.args.workbook.now) (sym c.new.ensures) allowed)
