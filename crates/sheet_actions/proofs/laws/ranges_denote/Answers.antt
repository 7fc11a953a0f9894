use Rattle.sheet_actions.specs.laws.DenotedRanges.{ranges_denote}
use Rattle.sheet_actions.proofs.laws.ranges_denote.Goals as goal

pub returns : goal.returns
returns g c = record { ranges = ranges_denote g.A.Axis.along g.met.A.Axis.lawful c.args.edit.now.kind c.requires.valid c.requires.kind c.args.sheet_id c.args.workbook.now }
