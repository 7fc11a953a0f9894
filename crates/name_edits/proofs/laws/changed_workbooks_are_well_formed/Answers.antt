use Rattle.name_edits.specs.laws.LaterRules.{edited, later_well_formed}
use Rattle.name_edits.proofs.laws.changed_workbooks_are_well_formed.Goals as goal

pub returns : goal.returns
returns c = λ edit change w rules is. later_well_formed change.index w rules change.old change.new (edited w rules edit change is).may
