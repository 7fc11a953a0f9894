use Rattle.std.proofs.Common.{refl, sym, w32, SFits, ◌∙◌}
use Rattle.std.proofs.lemmas.Int.{to_z-of_z}
use Rattle.edit_plans.specs.Edits.{Edit}
use Rattle.edit_plans.specs.Edits.Edit.{SetHidden}
use Rattle.open_book.specs.Opened.{document_in}
use Rattle.user_model.proofs.HiddenLines.{hidden_lines, seen_asked}
use Rattle.open_book.proofs.Moving.{reached_rules, seen_plan_of}
use Rattle.user_model.proofs.user_model.UserModel.set_hidden.Goals as goal

pub plan_hidden-plan-requires : goal.plan_hidden-plan-requires
plan_hidden-plan-requires g c = record { rules = reached_rules (document_in c.self.inside.book) c.self.invariant }

pub make_seen-requires : goal.make_seen-requires
make_seen-requires g c =
    let first_fits : SFits w32 c.args.first = c.ranges.first in
    let last_fits : SFits w32 c.args.last = c.ranges.last in
    let edit : Edit = SetHidden c.args.sheet c.args.axis c.args.first c.args.last c.args.hidden in (
      edit,
      seen_plan_of edit c.plan_hidden-plan.result _ c.self.inside.book c.self.inside.results _ c.self.view_is c.self.invariant (λ accepted. refl) c.seen_by_hiding-seen.result
          (λ accepted. sym ((simp to_z-of_z at c.seen_by_hiding-seen.ensures) ∙ seen_asked c.args.sheet c.args.axis c.args.first c.args.last c.args.hidden c.self.inside.book.workbook c.self.inside.book.view
          (hidden_lines c.args.sheet c.args.axis c.args.first c.args.last c.args.hidden c.self.inside.book.workbook accepted))) refl
          (simp to_z-of_z at c.plan_hidden-plan.ensures.planned),
    )

pub returns-clause-next : goal.returns-clause-next
returns-clause-next g c = λ state.
    let first_fits : SFits w32 c.args.first = c.ranges.first in
    let last_fits : SFits w32 c.args.last = c.ranges.last in
    let edit : Edit = SetHidden c.args.sheet c.args.axis c.args.first c.args.last c.args.hidden in
    c.make_seen.ensures.next edit state
    (seen_plan_of edit c.plan_hidden-plan.result _ c.self.inside.book c.self.inside.results _ c.self.view_is c.self.invariant (λ accepted. refl) c.seen_by_hiding-seen.result
    (λ accepted. sym ((simp to_z-of_z at c.seen_by_hiding-seen.ensures) ∙ seen_asked c.args.sheet c.args.axis c.args.first c.args.last c.args.hidden c.self.inside.book.workbook c.self.inside.book.view
    (hidden_lines c.args.sheet c.args.axis c.args.first c.args.last c.args.hidden c.self.inside.book.workbook accepted))) refl
    (simp to_z-of_z at c.plan_hidden-plan.ensures.planned))
