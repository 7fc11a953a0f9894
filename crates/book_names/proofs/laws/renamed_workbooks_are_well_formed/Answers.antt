use Rattle.book_names.specs.laws.LaterRules.{renamed_well_formed}
use Rattle.book_names.proofs.laws.renamed_workbooks_are_well_formed.Goals as goal

pub returns : goal.returns
returns c = renamed_well_formed
