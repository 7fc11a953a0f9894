use Rattle.rule_edits.specs.laws.Lists.{rules_regained}
use Rattle.rule_edits.proofs.laws.changed_rules_come_back.Goals as goal

pub returns : goal.returns
returns c = λ change rules output. rules_regained change.index change.old change.new rules output.at
