use Rattle.edit_plans.specs.laws.SheetEditLaws.{goes_both_ways}
use Rattle.edit_plans.proofs.laws.sheet_edits_go_both_ways.Goals as goal

pub returns : goal.returns
returns c = goes_both_ways
