-- Where changes of the rules of a sheet can be made.
use Rattle.std.specs.Prelude.{◌≡◌, ℕ, ◌≤◌, true, List, [], ◌∷◌, length, Option, Some, None, slice_get}
use Rattle.format_rules.specs.declared.ConditionalFormatting.{ConditionalFormatting}
use Rattle.rule_edits.specs.declared.change.RuleChange.{RuleChange}
use Rattle.rule_edits.specs.RuleChanges.{change_at, comes_fitting, is_change, rules_changed}

-- where a change takes place: the rule that goes stands at the index, or where none goes the index is one of the list, or that behind it
abbrev pub IsAt : Option ConditionalFormatting → ℕ → List ConditionalFormatting → Type 0
IsAt None index rules = index ≤ length rules
IsAt (Some old) index rules = slice_get rules index ≡ Some old

-- a change may be made where it takes place in the list, where a rule goes or comes, and where the rule that comes may stand
pub record IsMade (index : ℕ) (old new : Option ConditionalFormatting) (rules : List ConditionalFormatting) : Type 0 where
  pub some : is_change (change_at index old new) ≡ true
  pub at : IsAt old index rules
  pub fits : comes_fitting (change_at index old new) ≡ true

-- each can be made where those before it were
abbrev pub ChangesGo : List RuleChange → List ConditionalFormatting → Type 0
ChangesGo [] rules = Unit {0}
ChangesGo (change ∷ changes) rules = IsMade change.index change.old change.new rules × ChangesGo changes (rules_changed change rules)
