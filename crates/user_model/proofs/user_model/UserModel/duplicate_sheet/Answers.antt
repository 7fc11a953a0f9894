use Rattle.std.proofs.Common.{refl, sym}
use Rattle.edit_plans.specs.Edits.Edit.{CopySheet}
use Rattle.open_book.specs.Opened.{document_in}
use Rattle.open_book.proofs.Moving.{reached_rules, sheet_plan_of}
use Rattle.user_model.proofs.user_model.UserModel.duplicate_sheet.Goals as goal

pub plan_copied_sheet-plan-requires : goal.plan_copied_sheet-plan-requires
plan_copied_sheet-plan-requires g c = record { rules = reached_rules (document_in c.self.inside.book) c.self.invariant }

pub make-requires : goal.make-requires
make-requires g c = (
  CopySheet c.args.sheet,
  sheet_plan_of _ c.plan_copied_sheet-plan.result _ c.self.inside.book c.self.inside.results _ c.self.view_is c.self.invariant (λ accepted. sym c.selected_by_copy-selected.ensures) c.sheet_edits_go_both_ways.ensures refl refl
      c.plan_copied_sheet-plan.ensures.planned,
)

pub returns-clause-next : goal.returns-clause-next
returns-clause-next g c = λ state.
    c.make.ensures.next _ state
    (sheet_plan_of (CopySheet c.args.sheet) c.plan_copied_sheet-plan.result _ c.self.inside.book c.self.inside.results _ c.self.view_is c.self.invariant (λ accepted. sym c.selected_by_copy-selected.ensures) c.sheet_edits_go_both_ways.ensures refl refl
    c.plan_copied_sheet-plan.ensures.planned)
