use Rattle.std.proofs.Common.{◌≡◌, List, Result, map, refl, ap, sym, subst, ◌∙◌}
use Rattle.base_values.specs.declared.EditError.{EditError}
use Rattle.base_styles.specs.declared.Style.{Style}
use Rattle.sheet_grid.specs.Book.{Book}
use Rattle.sheet_ids.specs.declared.View.{View}
use Rattle.edit_plans.specs.Edits.{Edit}
use Rattle.edit_plans.specs.Edits.Edit.{PasteStyles}
use Rattle.edit_plans.specs.Plans.{Plans}
use Rattle.edit_plans.specs.RangeEdits.{pasted_by}
use Rattle.open_book.specs.Machine.{edit_of}
use Rattle.open_book.specs.Opened.{document_in}
use Rattle.open_book.specs.Stands.{IsReached, Moves}
use Rattle.open_book.specs.Values.{Session}
use Rattle.open_book.proofs.Moving.{reached_rules, seen_plan_of}
use Rattle.user_model.proofs.PastedStyles.{only_refusals, pasted_alike, seen_alike}
use Rattle.user_model.proofs.user_model.UserModel.on_paste_styles.Goals as goal

pub plan_pasted-plan-requires : goal.plan_pasted-plan-requires
plan_pasted-plan-requires g c = record { rules = reached_rules (document_in c.self.inside.book) c.self.invariant }

pub make_seen-requires : goal.make_seen-requires
make_seen-requires g c =
    let rows : List (List Style) = map (λ row. row.items) c.args.styles.now in
    let view : View = c.self.inside.book.view in
    let edit : Edit = PasteStyles view.sheet (pasted_by rows view.range) rows in (
      edit,
      seen_plan_of edit c.plan_pasted-plan.result _ c.self.inside.book c.self.inside.results _ c.self.view_is c.self.invariant (λ accepted. refl) c.seen_by_pasting-seen.result
          (λ accepted. seen_alike view.sheet c.pasted_rectangle-area.result (pasted_by rows view.range) rows c.self.inside.book.workbook view c.pasted_rectangle-area.ensures.inside c.pasted_rectangle-area.ensures.area accepted
          ∙ sym c.seen_by_pasting-seen.ensures) refl
          (subst (λ (expected : Result Book EditError). Plans c.plan_pasted-plan.result c.self.inside.book.workbook expected)
          (pasted_alike view.sheet c.pasted_rectangle-area.result (pasted_by rows view.range) rows c.self.inside.book.workbook c.pasted_rectangle-area.ensures.inside c.pasted_rectangle-area.ensures.area)
          c.plan_pasted-plan.ensures.planned),
    )

pub returns-clause-next : goal.returns-clause-next
returns-clause-next g c = λ state stands.
    let rows : List (List Style) = map (λ row. row.items) c.args.styles.now in
    let view : View = c.self.inside.book.view in
    let edit : Edit = PasteStyles view.sheet (pasted_by rows view.range) rows in
    let seen : view ≡ state.view = ap (λ (session : Session). session.document.view) c.self.view_is ∙ ap (λ document. document.view) stands.document in
    subst (λ (v : View). Moves c.make_seen.result c.make_seen.new.self.document (edit_of (PasteStyles v.sheet (pasted_by rows v.range) rows) state)) seen
    (c.make_seen.ensures.next edit state
    (seen_plan_of edit c.plan_pasted-plan.result _ c.self.inside.book c.self.inside.results _ c.self.view_is c.self.invariant (λ accepted. refl) c.seen_by_pasting-seen.result
    (λ accepted. seen_alike view.sheet c.pasted_rectangle-area.result (pasted_by rows view.range) rows c.self.inside.book.workbook view c.pasted_rectangle-area.ensures.inside c.pasted_rectangle-area.ensures.area accepted
    ∙ sym c.seen_by_pasting-seen.ensures) refl
    (subst (λ (expected : Result Book EditError). Plans c.plan_pasted-plan.result c.self.inside.book.workbook expected)
    (pasted_alike view.sheet c.pasted_rectangle-area.result (pasted_by rows view.range) rows c.self.inside.book.workbook c.pasted_rectangle-area.ensures.inside c.pasted_rectangle-area.ensures.area)
    c.plan_pasted-plan.ensures.planned))
    stands)

pub returns-clause-refusals : goal.returns-clause-refusals
returns-clause-refusals g c =
    only_refusals c.make_seen.result c.args.self.now.document c.make_seen.new.self.document _
    (subst (λ (session : Session). IsReached session.document) c.self.view_is c.self.invariant) (returns-clause-next g c)
