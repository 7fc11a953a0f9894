use Rattle.std.proofs.Common.{subst, sym}
use Rattle.format_rules.specs.Canonical.{AreCanonicalRules}
use Rattle.rule_edits.specs.RuleChanges.{change_at}
use Rattle.rule_edits.specs.laws.Lists.{rules_numbers}
use Rattle.rule_edits.proofs.list.changed_list.Goals as goal

pub new-requires : goal.new-requires
new-requires c =
    subst AreCanonicalRules (sym c.in_ok-output.ensures.rules)
    (rules_numbers (change_at c.args.index c.args.old.now c.args.new.now) c.as_slice.result.now c.as_slice.ensures.canonical c.requires.numbers)
