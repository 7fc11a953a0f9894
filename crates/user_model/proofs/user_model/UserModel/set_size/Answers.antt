use Rattle.std.proofs.Common.{refl, w32, SFits}
use Rattle.std.proofs.lemmas.Int.{to_z-of_z}
use Rattle.edit_plans.specs.Edits.{Edit}
use Rattle.edit_plans.specs.Edits.Edit.{SetSize}
use Rattle.open_book.specs.Opened.{document_in}
use Rattle.open_book.proofs.Moving.{plan_of, reached_rules}
use Rattle.user_model.proofs.user_model.UserModel.set_size.Goals as goal

pub plan_size-plan-requires : goal.plan_size-plan-requires
plan_size-plan-requires g c = record { rules = reached_rules (document_in c.self.inside.book) c.self.invariant }

pub make-requires : goal.make-requires
make-requires g c =
    let first_fits : SFits w32 c.args.first = c.ranges.first in
    let last_fits : SFits w32 c.args.last = c.ranges.last in
    let size_fits : SFits w32 c.args.size = c.ranges.size in
    let edit : Edit = SetSize c.args.sheet c.args.axis c.args.first c.args.last c.args.size in
    (edit, plan_of edit c.plan_size-plan.result _ c.self.inside.book c.self.inside.results _ c.self.view_is c.self.invariant (λ accepted. refl) refl (simp to_z-of_z at c.plan_size-plan.ensures.planned))

pub returns-clause-next : goal.returns-clause-next
returns-clause-next g c = λ state.
    let first_fits : SFits w32 c.args.first = c.ranges.first in
    let last_fits : SFits w32 c.args.last = c.ranges.last in
    let size_fits : SFits w32 c.args.size = c.ranges.size in
    let edit : Edit = SetSize c.args.sheet c.args.axis c.args.first c.args.last c.args.size in
    c.make.ensures.next edit state
    (plan_of edit c.plan_size-plan.result _ c.self.inside.book c.self.inside.results _ c.self.view_is c.self.invariant (λ accepted. refl) refl (simp to_z-of_z at c.plan_size-plan.ensures.planned))
