use Rattle.edit_plans.specs.laws.RuleRecordLaws.{edited_differ}
use Rattle.edit_plans.proofs.laws.rule_changes_are_exact.Goals as goal

pub returns : goal.returns
returns c = λ edit changes rules is output. edited_differ rules edit changes is output
