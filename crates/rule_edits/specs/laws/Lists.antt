-- The rules of a sheet after a change: the change is taken back, and the rules that stay keep what holds of them.
use Rattle.std.proofs.Common.{◌≡◌, ℕ, ◌≤◌, Bool, true, false, ◌&&◌, List, length, Option, Some, None, refl, ap, ◌∙◌, arith}
use Rattle.std.specs.Prelude.{IfSome, ◌||◌, is_some, slice_get}
use Rattle.std.specs.List.{All, AllByRecursion, insert, list_all, remove}
use Rattle.std.specs.Option.{option_map_or}
use Rattle.std.proofs.lemmas.List.Elements.{All-from_recursion, recursion_from_All}
use Rattle.format_rules.specs.declared.ConditionalFormatting.{ConditionalFormatting}
use Rattle.format_rules.specs.Canonical.{IsCanonicalFormatting, AreCanonicalRules}
use Rattle.book_sheets.specs.laws.Placed.{all_inserted, all_removed}
use Rattle.book_sheets.specs.laws.ListEdits.{remove_inserted, insert_removed, got_within, length_inserted, length_removed}
use Rattle.book_sheets.specs.laws.ListTests.{all_with, all_without, passes_at}
use Rattle.rule_edits.specs.declared.change.RuleChange.{RuleChange}
use Rattle.rule_edits.specs.Made.{IsAt, IsMade}
use Rattle.rule_edits.specs.RuleChanges.{change_at, change_goes, comes_fitting, has_place, may_stand, opposite, rule_come, rule_gone, rules_changed}

-- ---- there and back

-- an index of the list is one of the list without the rule there, or that behind it
within_left : (index : ℕ) (old : ConditionalFormatting) (rules : List ConditionalFormatting) → slice_get rules index ≡ Some old → index ≤ length (remove rules index)
within_left index old rules at =
    let within = got_within rules index old at in
    let count = length_removed rules index old at in
    omega (arith, within, count)

-- the opposite change gives the rules back
pub rules_regained : (index : ℕ) (old new : Option ConditionalFormatting) (rules : List ConditionalFormatting) → IsAt old index rules
    → rules_changed (opposite (change_at index old new)) (rules_changed (change_at index old new) rules) ≡ rules
rules_regained index None None rules at = refl
rules_regained index None (Some new) rules at = remove_inserted rules index new at
rules_regained index (Some old) None rules at = insert_removed rules index old at
rules_regained index (Some old) (Some new) rules at =
    ap (λ left. insert left index old) (remove_inserted (remove rules index) index new (within_left index old rules at)) ∙ insert_removed rules index old at

-- ---- places

pub place_before : (index : ℕ) (old new : Option ConditionalFormatting) (rules : List ConditionalFormatting) → IsAt old index rules → has_place (change_at index old new) (length rules) ≡ true
place_before index None new rules at = grind (arith, at)
place_before index (Some old) new rules at = let within = got_within rules index old at in grind (arith, within)

-- a rule that stands in the place of another leaves as many
pub same_count : (index : ℕ) (old new : ConditionalFormatting) (rules : List ConditionalFormatting) → slice_get rules index ≡ Some old → length (insert (remove rules index) index new) ≡ length rules
same_count index old new rules at = length_inserted (remove rules index) index new (within_left index old rules at) ∙ length_removed rules index old at

pub place_later : (index : ℕ) (old new : Option ConditionalFormatting) (rules : List ConditionalFormatting) → IsAt old index rules
    → has_place (opposite (change_at index old new)) (length (rules_changed (change_at index old new) rules)) ≡ true
place_later index None None rules at = grind (arith, at)
place_later index None (Some new) rules at = let count = length_inserted rules index new at in grind (arith, at, count)
place_later index (Some old) None rules at = let left = within_left index old rules at in grind (arith, left)
place_later index (Some old) (Some new) rules at =
    let within = got_within rules index old at in
    let count = same_count index old new rules at in
    grind (arith, within, count)

-- ---- what holds of each rule

module _ (P : ConditionalFormatting → Type 0) where
  gone_by : (index : ℕ) (old : Option ConditionalFormatting) (rules : List ConditionalFormatting) → AllByRecursion P rules → AllByRecursion P (rule_gone index old rules)
  gone_by index None rules all = all
  gone_by index (Some old) rules all = all_removed P rules index all

  come_by : (index : ℕ) (new : Option ConditionalFormatting) (rules : List ConditionalFormatting) → AllByRecursion P rules → IfSome new P → AllByRecursion P (rule_come index new rules)
  come_by index None rules all one = all
  come_by index (Some new) rules all one = all_inserted P rules index new all one

  -- it holds of the later rules, where it holds of the one that comes
  pub each_later : (change : RuleChange) (rules : List ConditionalFormatting) → All P rules → IfSome change.new P → All P (rules_changed change rules)
  each_later change rules all one =
      All-from_recursion P (rules_changed change rules)
      (come_by change.index change.new (rule_gone change.index change.old rules) (gone_by change.index change.old rules (recursion_from_All P rules all)) one)

-- the later rules have canonical numbers
pub rules_numbers : (change : RuleChange) (rules : List ConditionalFormatting) → AreCanonicalRules rules → IfSome change.new IsCanonicalFormatting → AreCanonicalRules (rules_changed change rules)
rules_numbers change rules all one = each_later IsCanonicalFormatting change rules all one

-- ---- tests

module _ (p : ConditionalFormatting → Bool) where
  all_gone : (index : ℕ) (old : Option ConditionalFormatting) (rules : List ConditionalFormatting) → list_all p rules ≡ true → list_all p (rule_gone index old rules) ≡ true
  all_gone index None rules all = all
  all_gone index (Some old) rules all = all_without p rules index all

  -- a test that each rule passes, and so does the one that comes
  pub all_changed : (index : ℕ) (old new : Option ConditionalFormatting) (rules : List ConditionalFormatting) → list_all p rules ≡ true → IfSome new (λ formatting. p formatting ≡ true)
      → list_all p (rules_changed (change_at index old new) rules) ≡ true
  all_changed index old None rules all one = all_gone index old rules all
  all_changed index old (Some new) rules all one = all_with p (rule_gone index old rules) index new (all_gone index old rules all) one

-- ---- both ways

pub may_go : (index : ℕ) (old new : Option ConditionalFormatting) (rules : List ConditionalFormatting) → IsMade index old new rules → change_goes (change_at index old new) (length rules) ≡ true
unfolding change_goes
may_go index old new rules output = λ i. output.some i && place_before index old new rules output.at i && output.fits i

turned : (a b : Bool) → (a || b) ≡ (b || a)
turned true true = refl
turned true false = refl
turned false true = refl
turned false false = refl

-- the rule that goes may stand, where each rule may
old_fits : (index : ℕ) (old new : Option ConditionalFormatting) (rules : List ConditionalFormatting) → list_all may_stand rules ≡ true → IsAt old index rules
    → comes_fitting (opposite (change_at index old new)) ≡ true
old_fits index None new rules all at = refl
old_fits index (Some old) new rules all at = passes_at may_stand rules index old all at

-- it may be taken back from the later rules
pub may_go_back : (index : ℕ) (old new : Option ConditionalFormatting) (rules : List ConditionalFormatting) → list_all may_stand rules ≡ true → IsMade index old new rules
    → change_goes (opposite (change_at index old new)) (length (rules_changed (change_at index old new) rules)) ≡ true
unfolding change_goes
may_go_back index old new rules all output = λ i.
    (turned (is_some new) (is_some old) ∙ output.some) i && place_later index old new rules output.at i && old_fits index old new rules all output.at i

fitting_one : (new : Option ConditionalFormatting) → option_map_or may_stand new true ≡ true → IfSome new (λ formatting. may_stand formatting ≡ true)
fitting_one None fits = tt
fitting_one (Some new) fits = fits

-- and each of the later rules may stand
pub later_stand : (index : ℕ) (old new : Option ConditionalFormatting) (rules : List ConditionalFormatting) → list_all may_stand rules ≡ true → IsMade index old new rules
    → list_all may_stand (rules_changed (change_at index old new) rules) ≡ true
later_stand index old new rules all output = all_changed may_stand index old new rules all (fitting_one new output.fits)
