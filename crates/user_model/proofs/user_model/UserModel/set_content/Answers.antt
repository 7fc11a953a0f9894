use Rattle.std.proofs.Common.{refl, w32, SFits}
use Rattle.std.proofs.lemmas.Int.{to_z-of_z}
use Rattle.edit_plans.specs.Edits.Edit.{Input}
use Rattle.open_book.specs.Opened.{document_in}
use Rattle.open_book.proofs.Moving.{plan_of, reached_rules}
use Rattle.user_model.proofs.user_model.UserModel.set_content.Goals as goal

pub plan_input-plan-requires-clause-rules : goal.plan_input-plan-requires-clause-rules
plan_input-plan-requires-clause-rules g c = reached_rules (document_in c.self.inside.book) c.self.invariant

pub make-requires : goal.make-requires
make-requires g c =
    let row_fits : SFits w32 c.args.row = c.ranges.row in
    let column_fits : SFits w32 c.args.column = c.ranges.column in
    (Input c.args.sheet c.args.row c.args.column c.args.content c.args.feeds, plan_of _ c.plan_input-plan.result _ c.self.inside.book c.self.inside.results _ c.self.view_is c.self.invariant (λ accepted. refl) refl (simp to_z-of_z at c.plan_input-plan.ensures.planned))

pub returns-clause-next : goal.returns-clause-next
returns-clause-next g c = λ state.
    let row_fits : SFits w32 c.args.row = c.ranges.row in
    let column_fits : SFits w32 c.args.column = c.ranges.column in
    c.make.ensures.next _ state (plan_of (Input c.args.sheet c.args.row c.args.column c.args.content c.args.feeds) c.plan_input-plan.result _ c.self.inside.book c.self.inside.results _ c.self.view_is c.self.invariant (λ accepted. refl) refl (simp to_z-of_z at c.plan_input-plan.ensures.planned))
