use Rattle.sheet_rules.specs.laws.WellFormedLaws.{distinct_ids_from_well_formed}
use Rattle.sheet_actions.specs.laws.FollowedWellFormed.{followed_well_formed}
use Rattle.sheet_actions.proofs.laws.edit_keeps_rules.Goals as goal

pub edit_and_back-requires-clause-distinct : goal.edit_and_back-requires-clause-distinct
edit_and_back-requires-clause-distinct g c = distinct_ids_from_well_formed c.args.workbook.now c.requires.rules

pub returns-clause-rules : goal.returns-clause-rules
returns-clause-rules g c =
    followed_well_formed g.A.Axis.along g.met.A.Axis.lawful c.args.edit.now.kind c.requires.valid c.args.sheet_id c.args.workbook.now c.requires.rules c.requires.allowed
