use Rattle.std.proofs.Common.{◌≡◌, ap, subst, sym, ◌∙◌}
use Rattle.std.proofs.lemmas.Result.{IfOk-weaker}
use Rattle.line_routes.specs.RouteModel.{IsRoute, route_model}
use Rattle.sheet_lines.specs.Followed.{book_carried}
use Rattle.sheet_lines.specs.Kept.{kept_lines, lines_kept}
use Rattle.sheet_lines.specs.Sheets.{IsPlacedBook}
use Rattle.sheet_lines.specs.laws.Stays.{followed_placed}
use Rattle.sheet_lines.proofs.edit.line_edit.Goals as goal

pub returns-clause-workbook : goal.returns-clause-workbook
returns-clause-workbook g c = IfOk-weaker c.carried_with_lines.result _ _
    (λ output is. is ∙ (λ i. book_carried (c.book_route-route.ensures i) c.args.workbook.now)) c.carried_with_lines.ensures.workbook

pub returns-clause-placed : goal.returns-clause-placed
returns-clause-placed g c = IfOk-weaker c.carried_with_lines.result _ _
    (λ output is. subst IsPlacedBook (sym is) (followed_placed _ (subst IsRoute c.book_route-route.ensures c.is_route.ensures) c.args.workbook.now.worksheets
    c.requires.placed)) (returns-clause-workbook g c)

pub returns-clause-kept : goal.returns-clause-kept
returns-clause-kept g c =
    let book = c.args.workbook.now in
    IfOk-weaker c.carried_with_lines.result (λ output. output.1 ≡ lines_kept (route_model c.book_route-route.result) book)
    (λ output. output.1 ≡ kept_lines g.A.Axis.along c.args.edit.now.kind c.args.sheet_id book)
    (λ output is. is ∙ ap (λ w. lines_kept w book) c.book_route-route.ensures) c.carried_with_lines.ensures.kept
