use Rattle.sheet_history.proofs.Placed.{placed_by_rules}
use Rattle.sheet_history.proofs.apply.forward.Goals as goal

pub later_book-requires-clause-placed : goal.later_book-requires-clause-placed
later_book-requires-clause-placed c = placed_by_rules c.args.workbook.now c.requires.rules
