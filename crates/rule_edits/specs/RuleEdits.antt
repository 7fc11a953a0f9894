-- Edits of the rules of a sheet: which changes each makes, and when it is refused.
use Rattle.std.specs.Prelude.{ℕ, ◌+◌, ◌&&◌, ◌==◌, not, nat_le, min, max, slice_get, Bool, List, [], ◌∷◌, length, Option, Some, None, Result, Ok, Err, if◌then◌else◌}
use Rattle.std.specs.List.{list_all}
use Rattle.base_values.specs.declared.EditError.{EditError}
use Rattle.base_values.specs.declared.EditError.TheVariants.{InvalidArea, BadFormula, RuleIndex, RuleNumbers}
use Rattle.base_values.specs.declared.Position.{Position}
use Rattle.base_values.specs.Answers.{and_then, map_ok, ok_or}
use Rattle.base_axis.specs.declared.MergedCell.{MergedCell}
use Rattle.base_axis.specs.Rectangles.{is_inside}
use Rattle.formula_tree.specs.declared.Node.{Node}
use Rattle.formula_tree.specs.ParseError.{is_parse_error}
use Rattle.cell_content.specs.Fitting.{tree_fits_at}
use Rattle.format_rules.specs.declared.CfRule.{CfRule}
use Rattle.format_rules.specs.declared.ConditionalFormatting.{ConditionalFormatting}
use Rattle.format_rules.specs.contracts.formatting.ConditionalFormattingPartialEq.TheImpl as equality
use Rattle.format_rules.specs.Fitting.{place_of}
use Rattle.format_rules.specs.RuleTrees.{each_tree}
use Rattle.rule_edits.specs.declared.change.RuleChange.{RuleChange}
use Rattle.rule_edits.specs.RuleChanges.{change_at, rules_changed}

-- an edit of the rules of the sheet at an index, which comes first
pub data RuleEdit : Type 0 where
  -- the parts and the rule of a new one
  Add : ℕ → List MergedCell → CfRule → RuleEdit
  -- the index of one, and the parts and the rule that it gets
  Update : ℕ → ℕ → List MergedCell → CfRule → RuleEdit
  -- the index of the one that goes
  Delete : ℕ → ℕ → RuleEdit
  -- the indexes of two whose priorities are exchanged
  Swap : ℕ → ℕ → ℕ → RuleEdit

-- ---- what is tested

-- a tree is no text outside the grammar, and may stand at a place
abbrev pub is_rule_formula : Position → Node → Bool
is_rule_formula place tree = not (is_parse_error tree) && tree_fits_at place tree

-- parts and a rule whose formulas stand at a place: without one there is no part; a part is not inside; a formula is none, or does not fit
abbrev pub checked_at : Option Position → List MergedCell → CfRule → Result (Unit {0}) EditError
checked_at None parts rule = Err InvalidArea
checked_at (Some place) parts rule =
    if list_all is_inside parts then (if each_tree (is_rule_formula place) rule then Ok tt else Err BadFormula) else Err InvalidArea

abbrev pub checked_rule : List MergedCell → CfRule → Result (Unit {0}) EditError
checked_rule parts rule = checked_at (place_of parts) parts rule

-- the rule at an index: there is none
abbrev pub rule_at : ℕ → List ConditionalFormatting → Result ConditionalFormatting EditError
rule_at index rules = ok_or RuleIndex (slice_get rules index)

-- ---- priorities

abbrev pub greatest_priority : List ConditionalFormatting → ℕ
greatest_priority [] = 0
greatest_priority (formatting ∷ rules) = max formatting.priority (greatest_priority rules)

-- the last number of 32 bits
abbrev pub last_priority : ℕ
last_priority = 4294967295

-- one above the greatest of the priorities, 1 where there is no rule; or the refusal where the greatest is the last one
abbrev pub next_priority : List ConditionalFormatting → Result ℕ EditError
next_priority rules = if nat_le last_priority (greatest_priority rules) then Err RuleNumbers else Ok (greatest_priority rules + 1)

-- ---- the changes

abbrev pub formatting_of : List MergedCell → CfRule → ℕ → ConditionalFormatting
formatting_of parts rule priority = record { parts = parts; rule = rule; priority = priority }

-- a rule comes behind the others
abbrev pub come_behind : List MergedCell → CfRule → List ConditionalFormatting → ℕ → RuleChange
come_behind parts rule rules priority = change_at (length rules) None (Some (formatting_of parts rule priority))

unfoldable pub rule_added : List MergedCell → CfRule → List ConditionalFormatting → Result RuleChange EditError
rule_added parts rule rules = and_then (checked_rule parts rule) (λ _. map_ok (come_behind parts rule rules) (next_priority rules))

-- a rule becomes another one in its place, or nothing changes where they are equal
abbrev pub rule_replaced : ℕ → ConditionalFormatting → ConditionalFormatting → Option RuleChange
rule_replaced index old new = if equality.ghosts.eq old new then None else Some (change_at index (Some old) (Some new))

-- a rule gets other parts and becomes another one, and keeps its priority
unfoldable pub rule_updated : ℕ → List MergedCell → CfRule → List ConditionalFormatting → Result (Option RuleChange) EditError
rule_updated index parts rule rules =
    and_then (rule_at index rules) (λ old. map_ok (λ _. rule_replaced index old (formatting_of parts rule old.priority)) (checked_rule parts rule))

-- a rule goes. The others keep their priorities
unfoldable pub rule_removed : ℕ → List ConditionalFormatting → Result RuleChange EditError
rule_removed index rules = map_ok (λ old. change_at index (Some old) None) (rule_at index rules)

-- a rule gets another priority
abbrev pub priority_change : ℕ → ConditionalFormatting → ℕ → RuleChange
priority_change index old priority = change_at index (Some old) (Some (record old { priority = priority }))

-- two rules exchange their priorities, the change at the lower index first; or nothing changes where they are equal
abbrev pub priorities_swapped : ℕ → ConditionalFormatting → ℕ → ConditionalFormatting → Option (RuleChange × RuleChange)
priorities_swapped first old second other =
    if old.priority == other.priority then None else Some (priority_change first old other.priority, priority_change second other old.priority)

abbrev pub swapped_in_order : ℕ → ℕ → List ConditionalFormatting → Result (Option (RuleChange × RuleChange)) EditError
swapped_in_order first second rules =
    and_then (rule_at first rules) (λ old. map_ok (λ other. priorities_swapped first old second other) (rule_at second rules))

unfoldable pub rules_swapped : ℕ → ℕ → List ConditionalFormatting → Result (Option (RuleChange × RuleChange)) EditError
rules_swapped a b rules = swapped_in_order (min a b) (max a b) rules

-- ---- the edits

abbrev pub maybe_one : Option RuleChange → List RuleChange
maybe_one None = []
maybe_one (Some change) = change ∷ []

abbrev pub maybe_two : Option (RuleChange × RuleChange) → List RuleChange
maybe_two None = []
maybe_two (Some changes) = changes.0 ∷ changes.1 ∷ []

-- the index of the sheet whose rules an edit changes
abbrev pub sheet_index_of : RuleEdit → ℕ
sheet_index_of (Add sheet parts rule) = sheet
sheet_index_of (Update sheet index parts rule) = sheet
sheet_index_of (Delete sheet index) = sheet
sheet_index_of (Swap sheet a b) = sheet

-- the changes of an edit, by index, or its first refusal
abbrev pub rule_changes : RuleEdit → List ConditionalFormatting → Result (List RuleChange) EditError
rule_changes (Add sheet parts rule) rules = map_ok (λ change. change ∷ []) (rule_added parts rule rules)
rule_changes (Update sheet index parts rule) rules = map_ok maybe_one (rule_updated index parts rule rules)
rule_changes (Delete sheet index) rules = map_ok (λ change. change ∷ []) (rule_removed index rules)
rule_changes (Swap sheet a b) rules = map_ok maybe_two (rules_swapped a b rules)

-- the rules after changes, made in order
abbrev pub rules_after : List RuleChange → List ConditionalFormatting → List ConditionalFormatting
rules_after [] rules = rules
rules_after (change ∷ changes) rules = rules_after changes (rules_changed change rules)
