use Rattle.book_sheets.specs.laws.LaterRules.{new_well_formed, copy_well_formed, deletion_well_formed, move_well_formed}
use Rattle.book_sheets.proofs.laws.later_workbooks_are_well_formed.Goals as goal

pub returns-clause-new : goal.returns-clause-new
returns-clause-new c = new_well_formed

pub returns-clause-copy : goal.returns-clause-copy
returns-clause-copy c = copy_well_formed

pub returns-clause-deletion : goal.returns-clause-deletion
returns-clause-deletion c = deletion_well_formed

pub returns-clause-moved : goal.returns-clause-moved
returns-clause-moved c = move_well_formed
