use Rattle.std.proofs.Common.{◌≡◌, ◌∙◌, ap, refl, subst, w32, SFits}
use Rattle.std.proofs.lemmas.Int.{to_z-of_z}
use Rattle.base_tables.specs.declared.Language.{Language}
use Rattle.edit_plans.specs.Edits.{Edit}
use Rattle.edit_plans.specs.Edits.Edit.{Fill}
use Rattle.open_book.specs.Document.{Document}
use Rattle.open_book.specs.Machine.{edit_of}
use Rattle.open_book.specs.Opened.{document_in}
use Rattle.user_model.specs.Reading.{rectangle_of}
use Rattle.open_book.specs.Stands.{Moves}
use Rattle.open_book.specs.Values.{Session}
use Rattle.open_book.proofs.Moving.{plan_of, reached_rules}
use Rattle.user_model.proofs.user_model.UserModel.auto_fill.Goals as goal

pub plan_auto_fill-plan-requires : goal.plan_auto_fill-plan-requires
plan_auto_fill-plan-requires g c = record { rules = reached_rules (document_in c.self.inside.book) c.self.invariant }

pub make-requires : goal.make-requires
make-requires g c =
    let to_fits : SFits w32 c.args.to = c.ranges.to in
    let edit : Edit = Fill c.args.area.now.sheet c.args.axis (rectangle_of c.args.area.now) c.args.to c.self.inside.book.language in
    (edit, plan_of edit c.plan_auto_fill-plan.result _ c.self.inside.book c.self.inside.results _ c.self.view_is c.self.invariant (λ accepted. refl) refl (simp to_z-of_z at c.plan_auto_fill-plan.ensures.planned))

pub returns-clause-next : goal.returns-clause-next
returns-clause-next g c = λ state stands.
    let to_fits : SFits w32 c.args.to = c.ranges.to in
    let doc = ap (λ (seen : Session). seen.document) c.self.view_is ∙ stands.document in
    let language : c.self.inside.book.language ≡ state.language = ap (λ (d : Document). d.language) doc in
    let edit : Edit = Fill c.args.area.now.sheet c.args.axis (rectangle_of c.args.area.now) c.args.to c.self.inside.book.language in
    subst (λ (l : Language). Moves c.make.result c.make.new.self.document (edit_of (Fill c.args.area.now.sheet c.args.axis (rectangle_of c.args.area.now) c.args.to l) state)) language
    (c.make.ensures.next edit state
    (plan_of edit c.plan_auto_fill-plan.result _ c.self.inside.book c.self.inside.results _ c.self.view_is c.self.invariant (λ accepted. refl) refl (simp to_z-of_z at c.plan_auto_fill-plan.ensures.planned)) stands)
