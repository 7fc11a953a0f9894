use Rattle.std.proofs.Common.{refl}
use Rattle.edit_plans.specs.Edits.Edit.{ArrayInput}
use Rattle.open_book.specs.Opened.{document_in}
use Rattle.open_book.proofs.Moving.{plan_of, reached_rules}
use Rattle.user_model.proofs.user_model.UserModel.set_array.Goals as goal

pub plan_array-plan-requires-clause-rules : goal.plan_array-plan-requires-clause-rules
plan_array-plan-requires-clause-rules g c = reached_rules (document_in c.self.inside.book) c.self.invariant

pub make-requires : goal.make-requires
make-requires g c =
    (ArrayInput c.args.sheet c.args.area c.args.tree, plan_of _ c.plan_array-plan.result _ c.self.inside.book c.self.inside.results _ c.self.view_is c.self.invariant (λ accepted. refl) refl c.plan_array-plan.ensures.planned)

pub returns-clause-next : goal.returns-clause-next
returns-clause-next g c = λ state.
    c.make.ensures.next _ state (plan_of (ArrayInput c.args.sheet c.args.area c.args.tree) c.plan_array-plan.result _ c.self.inside.book c.self.inside.results _ c.self.view_is c.self.invariant (λ accepted. refl) refl c.plan_array-plan.ensures.planned)
