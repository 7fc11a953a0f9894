use Rattle.name_edits.specs.laws.BothWays.{name_both_ways}
use Rattle.name_edits.specs.laws.LaterRules.{edited}
use Rattle.name_edits.proofs.laws.changed_names_lead_both_ways.Goals as goal

pub returns : goal.returns
returns c = λ at edit change w rules is. name_both_ways change.index w change.old change.new (edited w rules edit change is).output at
