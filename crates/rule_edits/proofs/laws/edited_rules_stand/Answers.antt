use Rattle.rule_edits.specs.laws.EditLaws.{all_later_stand, edited_go}
use Rattle.rule_edits.proofs.laws.edited_rules_stand.Goals as goal

pub returns-clause-go : goal.returns-clause-go
returns-clause-go c = λ edit changes rules all is. edited_go rules all edit changes is

pub returns-clause-stand : goal.returns-clause-stand
returns-clause-stand c = λ edit changes rules all is. all_later_stand changes rules all (edited_go rules all edit changes is)
