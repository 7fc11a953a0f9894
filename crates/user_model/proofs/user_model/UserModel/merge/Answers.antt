use Rattle.std.proofs.Common.{refl}
use Rattle.edit_plans.specs.Edits.Edit.{Merge}
use Rattle.open_book.specs.Opened.{document_in}
use Rattle.open_book.proofs.Moving.{plan_of, reached_rules}
use Rattle.user_model.proofs.user_model.UserModel.merge.Goals as goal

pub plan_merge-plan-requires : goal.plan_merge-plan-requires
plan_merge-plan-requires g c = record { rules = reached_rules (document_in c.self.inside.book) c.self.invariant }

pub make-requires : goal.make-requires
make-requires g c =
    (Merge c.args.sheet c.args.area, plan_of _ c.plan_merge-plan.result _ c.self.inside.book c.self.inside.results _ c.self.view_is c.self.invariant (λ accepted. refl) refl c.plan_merge-plan.ensures.planned)

pub returns-clause-next : goal.returns-clause-next
returns-clause-next g c = λ state.
    c.make.ensures.next _ state (plan_of (Merge c.args.sheet c.args.area) c.plan_merge-plan.result _ c.self.inside.book c.self.inside.results _ c.self.view_is c.self.invariant (λ accepted. refl) refl c.plan_merge-plan.ensures.planned)
