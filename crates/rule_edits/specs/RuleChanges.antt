-- The rules of a sheet after one of them came, went or changed, and when such a change can be made.
use Rattle.std.specs.Prelude.{ℕ, Bool, true, ◌&&◌, ◌||◌, is_some, nat_le, nat_lt, List, Option, Some, None, IfSome, if◌then◌else◌}
use Rattle.std.specs.List.{insert, remove}
use Rattle.std.specs.Option.{option_map_or}
use Rattle.format_rules.specs.declared.ConditionalFormatting.{ConditionalFormatting}
use Rattle.format_rules.specs.Canonical.{IsCanonicalFormatting}
use Rattle.format_rules.specs.Fitting.{has_parts, has_fitting_trees}
use Rattle.rule_edits.specs.declared.change.RuleChange.{RuleChange}

-- a change at an index, by what goes there and what comes there
abbrev pub change_at : ℕ → Option ConditionalFormatting → Option ConditionalFormatting → RuleChange
change_at index old new = record { index = index; old = old; new = new }

-- the change that takes a change back
abbrev pub opposite : RuleChange → RuleChange
opposite change = change_at change.index change.new change.old

-- the numbers of both rules are canonical
pub record IsCanonicalChange (change : RuleChange) : Type 0 where
  pub old : IfSome change.old IsCanonicalFormatting
  pub new : IfSome change.new IsCanonicalFormatting

-- ---- the later rules

-- one rule goes from an index, or none does
abbrev pub rule_gone : ℕ → Option ConditionalFormatting → List ConditionalFormatting → List ConditionalFormatting
rule_gone index None rules = rules
rule_gone index (Some old) rules = remove rules index

-- one rule comes at an index, or none does
abbrev pub rule_come : ℕ → Option ConditionalFormatting → List ConditionalFormatting → List ConditionalFormatting
rule_come index None rules = rules
rule_come index (Some new) rules = insert rules index new

-- the old rule goes, and the new one comes at the same index. Every other rule stays as it is
abbrev pub rules_changed : RuleChange → List ConditionalFormatting → List ConditionalFormatting
rules_changed change rules = rule_come change.index change.new (rule_gone change.index change.old rules)

-- ---- when a change can be made

-- a rule goes, or one comes
abbrev pub is_change : RuleChange → Bool
is_change change = is_some change.old || is_some change.new

-- among so many rules the index is that of one, or where none goes also that behind the last one
abbrev pub has_place : RuleChange → ℕ → Bool
has_place change count = if is_some change.old then nat_lt change.index count else nat_le change.index count

-- a rule may stand on a sheet: it has a part, its parts are inside, and its formulas fit its place
abbrev pub may_stand : ConditionalFormatting → Bool
may_stand formatting = has_parts formatting && has_fitting_trees formatting

-- the rule that comes may
abbrev pub comes_fitting : RuleChange → Bool
comes_fitting change = option_map_or may_stand change.new true

-- whether a change of so many rules can be made. It can be taken back where its opposite can be made
unfoldable pub change_goes : RuleChange → ℕ → Bool
change_goes change count = is_change change && has_place change count && comes_fitting change
