use Rattle.std.proofs.Common.{subst, sym, ◌∙◌}
use Rattle.std.proofs.lemmas.Result.{IfOk-weaker}
use Rattle.line_routes.specs.RouteModel.{IsRoute}
use Rattle.sheet_lines.specs.Followed.{book_carried}
use Rattle.sheet_lines.specs.Sheets.{IsPlacedBook}
use Rattle.sheet_lines.specs.laws.Stays.{followed_placed}
use Rattle.sheet_lines.proofs.followed.followed_book.Goals as goal

pub returns-clause-book : goal.returns-clause-book
returns-clause-book g c = IfOk-weaker c.carried_book.result _ _
    (λ book is. is ∙ (λ i. book_carried (c.book_route-route.ensures i) c.args.workbook.now)) c.carried_book.ensures.book

pub returns-clause-placed : goal.returns-clause-placed
returns-clause-placed g c = IfOk-weaker c.carried_book.result _ _
    (λ book is. subst IsPlacedBook (sym is) (followed_placed _ (subst IsRoute c.book_route-route.ensures c.is_route.ensures) c.args.workbook.now.worksheets
    c.requires.placed)) (returns-clause-book g c)
