use Rattle.std.proofs.Common.{refl}
use Rattle.edit_plans.specs.Edits.{Edit}
use Rattle.edit_plans.specs.Edits.Edit.{ClearRange}
use Rattle.open_book.specs.Opened.{document_in}
use Rattle.open_book.proofs.Moving.{plan_of, reached_rules}
use Rattle.user_model.proofs.user_model.UserModel.clear.Goals as goal

pub plan_clear-plan-requires : goal.plan_clear-plan-requires
plan_clear-plan-requires g c = record { rules = reached_rules (document_in c.self.inside.book) c.self.invariant }

pub make-requires : goal.make-requires
make-requires g c =
    let edit : Edit = ClearRange c.args.sheet c.args.clearing c.args.area in
    (edit, plan_of edit c.plan_clear-plan.result _ c.self.inside.book c.self.inside.results _ c.self.view_is c.self.invariant (λ accepted. refl) refl c.plan_clear-plan.ensures.planned)

pub returns-clause-next : goal.returns-clause-next
returns-clause-next g c = λ state.
    let edit : Edit = ClearRange c.args.sheet c.args.clearing c.args.area in
    c.make.ensures.next edit state
    (plan_of edit c.plan_clear-plan.result _ c.self.inside.book c.self.inside.results _ c.self.view_is c.self.invariant (λ accepted. refl) refl c.plan_clear-plan.ensures.planned)
