use Rattle.sheet_history.proofs.Placed.{placed_by_rules}
use Rattle.sheet_history.proofs.apply.back_in_place.Goals as goal

pub take_back-requires-clause-placed : goal.take_back-requires-clause-placed
take_back-requires-clause-placed c = placed_by_rules c.args.workbook.now c.requires.rules

pub taken_back-requires-clause-placed : goal.taken_back-requires-clause-placed
taken_back-requires-clause-placed c = placed_by_rules c.args.workbook.now c.requires.rules
