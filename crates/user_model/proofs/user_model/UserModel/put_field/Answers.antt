use Rattle.std.proofs.Common.{refl, sym}
use Rattle.edit_plans.specs.Edits.Edit.{SetField}
use Rattle.open_book.specs.Opened.{document_in}
use Rattle.open_book.proofs.Moving.{field_there, plan_of, reached_rules}
use Rattle.user_model.proofs.user_model.UserModel.put_field.Goals as goal

pub plan_field-plan-requires : goal.plan_field-plan-requires
plan_field-plan-requires g c = record { rules = reached_rules (document_in c.self.inside.book) c.self.invariant }

pub make-requires : goal.make-requires
make-requires g c =
    (SetField c.args.sheet c.args.value, plan_of _ c.plan_field-plan.result _ c.self.inside.book c.self.inside.results _ c.self.view_is c.self.invariant (λ accepted. sym (c.selected_after_field-selected.ensures (field_there c.args.sheet c.args.value c.self.inside.book.workbook accepted))) refl c.plan_field-plan.ensures.planned)

pub returns-clause-next : goal.returns-clause-next
returns-clause-next g c = λ state.
    c.make.ensures.next _ state
    (plan_of (SetField c.args.sheet c.args.value) c.plan_field-plan.result _ c.self.inside.book c.self.inside.results _ c.self.view_is c.self.invariant (λ accepted. sym (c.selected_after_field-selected.ensures (field_there c.args.sheet c.args.value c.self.inside.book.workbook accepted))) refl c.plan_field-plan.ensures.planned)
