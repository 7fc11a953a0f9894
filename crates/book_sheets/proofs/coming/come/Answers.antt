use Rattle.std.proofs.Common.{◌≡◌, Err, Ok, sym, subst, rules}
use Rattle.base_values.specs.Answers.{Changes}
use Rattle.sheet_grid.specs.Book.{sheet_inserted}
use Rattle.book_sheets.specs.SheetDiffs.{with_sheet_at}
use Rattle.book_sheets.proofs.Edited.{not_changed, inserted_where_may}
use Rattle.book_sheets.proofs.coming.come.Goals as goal

pub returns-in_err-insert_worksheet : goal.returns-in_err-insert_worksheet
returns-in_err-insert_worksheet c =
    let w = c.args.workbook.now in
    let error = c.in_err-insert_worksheet.field-0.0 in
    let next = c.insert_worksheet.new.self in
    let later = with_sheet_at c.args.index c.args.sheet c.args.names w in
    let is : c.from_residual.result ≡ Err error = search rules in
    subst (λ result. Changes result w next (Ok later)) (sym is)
    (not_changed error w next (with_sheet_at c.args.index c.args.sheet w.names w) later (sheet_inserted w c.args.index c.args.sheet) (inserted_where_may c.args.index c.args.sheet w c.requires) c.in_err-insert_worksheet.ensures)
