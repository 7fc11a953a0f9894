use Rattle.std.proofs.Common.{subst, sym, ◌∙◌}
use Rattle.std.proofs.lemmas.Result.{IfOk-weaker}
use Rattle.line_routes.specs.RouteModel.{IsRoute}
use Rattle.sheet_lines.specs.Back.{book_restored}
use Rattle.sheet_lines.specs.Sheets.{IsPlacedBook}
use Rattle.sheet_lines.specs.laws.Stays.{back_placed}
use Rattle.sheet_lines.proofs.back.line_back.Goals as goal

pub returns-clause-workbook : goal.returns-clause-workbook
returns-clause-workbook g c = IfOk-weaker c.restored_book.result _ _
    (λ output is. is ∙ (λ i. book_restored (c.book_route-route.ensures i) c.args.workbook.now c.args.kept.now)) c.restored_book.ensures.workbook

pub returns-clause-placed : goal.returns-clause-placed
returns-clause-placed g c = λ lines. IfOk-weaker c.restored_book.result _ _
    (λ output is. subst IsPlacedBook (sym is) (back_placed _ (subst IsRoute c.book_route-route.ensures c.is_route.ensures) c.args.kept.now c.requires.inside lines
    c.args.workbook.now.worksheets c.requires.placed)) (returns-clause-workbook g c)
