use Rattle.std.proofs.Common.{◌≡◌, true, Ok, Result, ap, subst, ◌∙◌, rules}
use Rattle.base_values.specs.declared.EditError.{EditError}
use Rattle.sheet_grid.specs.Sheet.{Sheet, new_sheet}
use Rattle.sheet_grid.specs.Book.{sheet_inserted}
use Rattle.sheet_lines.specs.Sheets.{IsPlacedSheet}
use Rattle.book_sheets.specs.SheetDiffs.{may_come, new_forward}
use Rattle.book_sheets.specs.laws.Placed.{placed_new}
use Rattle.book_sheets.proofs.Edited.{edits_as, new_where_may, placed_inserted}
use Rattle.book_sheets.proofs.coming.new_forward.Goals as goal

same_sheet : (output sheet : Sheet) → ◌≡◌ {A = Result Sheet EditError} (Ok output) (Ok sheet) → output ≡ sheet
same_sheet output sheet is = cc

pub returns-clause-edits : goal.returns-clause-edits
returns-clause-edits c =
    let may : may_come c.args.index c.args.id c.args.workbook.now ≡ true = search rules in
    let output = same_sheet (new_sheet c.args.id c.args.name.now) c.in_ok-sheet.sheet c.in_ok-sheet.ensures.done in
    edits_as c.insert_worksheet.result c.args.workbook.now c.insert_worksheet.new.self (new_forward c.args.at c.args.id c.args.index c.args.name.now c.args.workbook.now) (sheet_inserted c.args.workbook.now c.args.index c.in_ok-sheet.sheet)
    (new_where_may c.args.at c.args.id c.args.index c.args.name.now c.args.workbook.now may ∙ ap (sheet_inserted c.args.workbook.now c.args.index) output) c.insert_worksheet.ensures

pub returns-clause-placed : goal.returns-clause-placed
returns-clause-placed c =
    let output = same_sheet (new_sheet c.args.id c.args.name.now) c.in_ok-sheet.sheet c.in_ok-sheet.ensures.done in
    placed_inserted c.insert_worksheet.result c.args.index c.in_ok-sheet.sheet c.args.workbook.now c.insert_worksheet.new.self (subst IsPlacedSheet output (placed_new c.args.id c.args.name.now)) c.requires c.insert_worksheet.ensures
