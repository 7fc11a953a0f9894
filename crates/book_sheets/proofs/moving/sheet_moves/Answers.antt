use Rattle.book_sheets.proofs.Edited.{placed_moved}
use Rattle.book_sheets.proofs.moving.sheet_moves.Goals as goal

pub returns-clause-placed : goal.returns-clause-placed
returns-clause-placed c = placed_moved c.move_worksheet.result c.in-Some.index c.args.to c.args.workbook.now c.move_worksheet.new.self c.requires c.move_worksheet.ensures
