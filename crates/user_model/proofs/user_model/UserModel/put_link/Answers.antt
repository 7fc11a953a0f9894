use Rattle.std.proofs.Common.{refl, w32, SFits}
use Rattle.std.proofs.lemmas.Int.{to_z-of_z}
use Rattle.edit_plans.specs.Edits.Edit.{SetLink}
use Rattle.open_book.specs.Opened.{document_in}
use Rattle.open_book.proofs.Moving.{plan_of, reached_rules}
use Rattle.user_model.proofs.user_model.UserModel.put_link.Goals as goal

pub plan_link-plan-requires : goal.plan_link-plan-requires
plan_link-plan-requires g c = record { rules = reached_rules (document_in c.self.inside.book) c.self.invariant }

pub make-requires : goal.make-requires
make-requires g c =
    let row_fits : SFits w32 c.args.row = c.ranges.row in
    let column_fits : SFits w32 c.args.column = c.ranges.column in
    (SetLink c.args.sheet c.args.row c.args.column c.args.link, plan_of _ c.plan_link-plan.result _ c.self.inside.book c.self.inside.results _ c.self.view_is c.self.invariant (λ accepted. refl) refl (simp to_z-of_z at c.plan_link-plan.ensures.planned))

pub returns-clause-next : goal.returns-clause-next
returns-clause-next g c = λ state.
    let row_fits : SFits w32 c.args.row = c.ranges.row in
    let column_fits : SFits w32 c.args.column = c.ranges.column in
    c.make.ensures.next _ state (plan_of (SetLink c.args.sheet c.args.row c.args.column c.args.link) c.plan_link-plan.result _ c.self.inside.book c.self.inside.results _ c.self.view_is c.self.invariant (λ accepted. refl) refl (simp to_z-of_z at c.plan_link-plan.ensures.planned))
