use Rattle.book_sheets.specs.laws.BothWays.{new_both_ways, copy_both_ways, deletion_both_ways, move_both_ways}
use Rattle.book_sheets.proofs.laws.sheet_diffs_lead_both_ways.Goals as goal

pub returns-clause-new : goal.returns-clause-new
returns-clause-new c = new_both_ways

pub returns-clause-copy : goal.returns-clause-copy
returns-clause-copy c = copy_both_ways

pub returns-clause-deletion : goal.returns-clause-deletion
returns-clause-deletion c = deletion_both_ways

pub returns-clause-moved : goal.returns-clause-moved
returns-clause-moved c = move_both_ways
