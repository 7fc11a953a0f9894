-- In which conditional rules a list differs from an earlier one.
use Rattle.std.specs.Prelude.{◌≡◌, ◌<◌, ◌==◌, ℕ, Bool, true, false, slice_get, List, [], ◌∷◌, Option, Some, None}
use Rattle.std.specs.List.{find}
use Rattle.format_rules.specs.declared.ConditionalFormatting.{ConditionalFormatting}
use Rattle.rule_edits.specs.declared.RuleChange.{RuleChange}
use Rattle.rule_edits.specs.RuleEdits.{RuleEdit, rule_replaced}
use Rattle.rule_edits.specs.RuleEdits.RuleEdit.{Add, Delete, Swap, Update}

-- the change of the rule at an index: none where both have equal rules there, or one of them has none
abbrev pub difference_at : ℕ → Option ConditionalFormatting → Option ConditionalFormatting → Option RuleChange
difference_at index (Some old) (Some new) = rule_replaced index old new
difference_at index (Some old) None = None
difference_at index None new = None

-- the indexes of changes ascend
abbrev pub AreAscending : List RuleChange → Type 0
AreAscending [] = Unit {0}
AreAscending (change ∷ []) = Unit {0}
AreAscending (first ∷ second ∷ changes) = (first.index < second.index) × AreAscending (second ∷ changes)

-- changes are one for each index at which the rules differ, and no others, by index
pub record AreDifferences (earlier later : List ConditionalFormatting) (changes : List RuleChange) : Type 0 where
  pub ordered : AreAscending changes
  pub exact : (index : ℕ) → find (λ (change : RuleChange). change.index == index) changes ≡ difference_at index (slice_get earlier index) (slice_get later index)

-- whether an edit leaves each rule at its index
abbrev pub leaves_indexes : RuleEdit → Bool
leaves_indexes (Add sheet parts rule) = false
leaves_indexes (Update sheet index parts rule) = true
leaves_indexes (Delete sheet index) = false
leaves_indexes (Swap sheet a b) = true
