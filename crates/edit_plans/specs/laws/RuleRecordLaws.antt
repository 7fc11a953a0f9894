-- The changes of an edit that leaves each conditional rule at its index are those of the rules in which the later list differs.
use Rattle.std.proofs.Common.{◌≡◌, ◌≢◌, ◌<◌, ◌≤◌, ℕ, zero, suc, Bool, true, false, cond, List, [], ◌∷◌, length, max, Option, Some, None, Result, Ok, Err, refl, ap, sym, subst, ◌∙◌, true≢false, arith}
use Rattle.std.specs.Prelude.{◌==◌, IsTrue, min, slice_get}
use Rattle.std.specs.Cmp.{unsigned_Decides}
use Rattle.std.specs.List.{find, insert, remove}
use Rattle.std.proofs.lemmas.Option.{slice_get_within}
use Rattle.base_values.specs.declared.EditError.{EditError}
use Rattle.base_values.specs.declared.EditError.TheVariants.{RuleIndex}
use Rattle.base_values.specs.Answers.{and_then, map_ok}
use Rattle.base_axis.specs.declared.MergedCell.{MergedCell}
use Rattle.format_rules.specs.declared.CfRule.{CfRule}
use Rattle.format_rules.specs.declared.ConditionalFormatting.{ConditionalFormatting}
use Rattle.format_rules.specs.contracts.formatting.ConditionalFormattingPartialEq.TheImpl as equality
use Rattle.format_rules.specs.laws.RuleEquals.{formatting_equals}
use Rattle.rule_edits.specs.declared.RuleChange.{RuleChange}
use Rattle.rule_edits.specs.RuleChanges.{change_at, rules_changed}
use Rattle.rule_edits.specs.RuleEdits.{RuleEdit, checked_rule, formatting_of, maybe_one, maybe_two, priorities_swapped, priority_change, rule_at, rule_changes, rule_replaced, rule_updated, rules_after, rules_swapped}
use Rattle.rule_edits.specs.RuleEdits.RuleEdit.{Add, Delete, Swap, Update}
use Rattle.sheet_history.specs.laws.EntryLaws.{decide}
use Rattle.sheet_history.specs.laws.PutLaws.{ok_or-some}
use Rattle.edit_plans.specs.RuleRecords.{AreDifferences, difference_at, leaves_indexes}

-- ---- a rule in the place of another

there_now : (rules : List ConditionalFormatting) (k : ℕ) (new : ConditionalFormatting) → k < length rules → slice_get (insert (remove rules k) k new) k ≡ Some new
there_now [] k new within = absurd (omega (arith, within))
there_now (r ∷ rules) zero new within = refl
there_now (r ∷ rules) (suc k) new within = there_now rules k new (omega (arith, within))

others_stay : (rules : List ConditionalFormatting) (k i : ℕ) (new : ConditionalFormatting) → k < length rules → k ≢ i
    → slice_get (insert (remove rules k) k new) i ≡ slice_get rules i
others_stay [] k i new within apart = absurd (omega (arith, within))
others_stay (r ∷ rules) zero zero new within apart = absurd (apart refl)
others_stay (r ∷ rules) zero (suc i) new within apart = refl
others_stay (r ∷ rules) (suc k) zero new within apart = refl
others_stay (r ∷ rules) (suc k) (suc i) new within apart = others_stay rules k i new (omega (arith, within)) (λ same. apart (ap suc same))

-- indexes that are told apart differ
not_same : (k i : ℕ) → (k == i) ≡ false → k ≢ i
not_same k i miss same = true≢false (sym ((unsigned_Decides k i).1 same) ∙ miss)

-- equal rules make no change
none_differs : (i : ℕ) (o : Option ConditionalFormatting) → difference_at i o o ≡ None
none_differs i None = refl
none_differs i (Some f) = ap (λ b. cond b None (Some (change_at i (Some f) (Some f)))) ((formatting_equals f f).1 refl)

-- others do
some_differs : (i : ℕ) (old new : ConditionalFormatting) → old ≢ new → difference_at i (Some old) (Some new) ≡ Some (change_at i (Some old) (Some new))
some_differs i old new other =
    ap (λ b. cond b None (Some (change_at i (Some old) (Some new))))
    (decide (equality.ghosts.eq old new) (λ hit. absurd (other ((formatting_equals old new).0 hit))) (λ miss. miss))

abbrev found_at : ℕ → List RuleChange → Option RuleChange
found_at i changes = find (λ (change : RuleChange). change.index == i) changes

-- ---- one change

module _ (rules : List ConditionalFormatting) (k : ℕ) (old new : ConditionalFormatting) (at : slice_get rules k ≡ Some old) (other : old ≢ new) where
  abbrev change : RuleChange
  change = change_at k (Some old) (Some new)

  abbrev next : List ConditionalFormatting
  next = rules_changed change rules

  within : k < length rules
  within = slice_get_within rules k old at

  here : difference_at k (slice_get rules k) (slice_get next k) ≡ Some change
  here = (λ j. difference_at k (at j) (there_now rules k new within j)) ∙ some_differs k old new other

  one_exact : (i : ℕ) → found_at i (change ∷ []) ≡ difference_at i (slice_get rules i) (slice_get next i)
  one_exact i =
      decide (k == i)
      (λ hit. ap (λ b. cond b (Some change) None) hit
      ∙ sym (subst (λ n. difference_at n (slice_get rules n) (slice_get next n) ≡ Some change) ((unsigned_Decides k i).0 hit) here))
      (λ miss. ap (λ b. cond b (Some change) None) miss
      ∙ sym (ap (difference_at i (slice_get rules i)) (others_stay rules k i new within (not_same k i miss)) ∙ none_differs i (slice_get rules i)))

  one_differs : AreDifferences rules next (change ∷ [])
  one_differs = record { ordered = tt; exact = one_exact }

nothing_differs : (rules : List ConditionalFormatting) → AreDifferences rules rules []
nothing_differs rules = record { ordered = tt; exact = λ i. sym (none_differs i (slice_get rules i)) }

-- ---- two changes, the one at the lower index first

module _ (rules : List ConditionalFormatting) (i j : ℕ) (old other new last : ConditionalFormatting) (less : i < j)
    (first : slice_get rules i ≡ Some old) (second : slice_get rules j ≡ Some other) (old_changes : old ≢ new) (other_changes : other ≢ last) where
  abbrev low : RuleChange
  low = change_at i (Some old) (Some new)

  abbrev high : RuleChange
  high = change_at j (Some other) (Some last)

  abbrev between : List ConditionalFormatting
  between = rules_changed low rules

  abbrev ending : List ConditionalFormatting
  ending = rules_changed high between

  low_within : i < length rules
  low_within = slice_get_within rules i old first

  apart : i ≢ j
  apart same = absurd (omega (arith, less, same))

  second_stays : slice_get between j ≡ Some other
  second_stays = others_stay rules i j new low_within apart ∙ second

  high_within : j < length between
  high_within = slice_get_within between j other second_stays

  at_low : difference_at i (slice_get rules i) (slice_get ending i) ≡ Some low
  at_low =
      (λ n. difference_at i (first n) ((others_stay between j i last high_within (λ same. apart (sym same)) ∙ there_now rules i new low_within) n))
      ∙ some_differs i old new old_changes

  at_high : difference_at j (slice_get rules j) (slice_get ending j) ≡ Some high
  at_high = (λ n. difference_at j (second n) (there_now between j last high_within n)) ∙ some_differs j other last other_changes

  elsewhere : (k : ℕ) → i ≢ k → j ≢ k → difference_at k (slice_get rules k) (slice_get ending k) ≡ None
  elsewhere k no_low no_high =
      ap (difference_at k (slice_get rules k)) (others_stay between j k last high_within no_high ∙ others_stay rules i k new low_within no_low)
      ∙ none_differs k (slice_get rules k)

  two_exact : (k : ℕ) → found_at k (low ∷ high ∷ []) ≡ difference_at k (slice_get rules k) (slice_get ending k)
  two_exact k =
      decide (i == k)
      (λ hit. ap (λ b. cond b (Some low) (found_at k (high ∷ []))) hit
      ∙ sym (subst (λ n. difference_at n (slice_get rules n) (slice_get ending n) ≡ Some low) ((unsigned_Decides i k).0 hit) at_low))
      (λ miss. ap (λ b. cond b (Some low) (found_at k (high ∷ []))) miss
      ∙ decide (j == k)
      (λ hit. ap (λ b. cond b (Some high) None) hit
      ∙ sym (subst (λ n. difference_at n (slice_get rules n) (slice_get ending n) ≡ Some high) ((unsigned_Decides j k).0 hit) at_high))
      (λ none. ap (λ b. cond b (Some high) None) none ∙ sym (elsewhere k (not_same i k miss) (not_same j k none))))

  two_differ : AreDifferences rules ending (low ∷ high ∷ [])
  two_differ = record { ordered = (less, tt); exact = two_exact }

-- ---- each edit

there_at : (index : ℕ) (rules : List ConditionalFormatting) (old : ConditionalFormatting) → rule_at index rules ≡ Ok old → slice_get rules index ≡ Some old
there_at index rules old is = ok_or-some RuleIndex (slice_get rules index) old is

module _ (rules : List ConditionalFormatting) where
  replaced_differs : (index : ℕ) (old new : ConditionalFormatting) → slice_get rules index ≡ Some old
      → AreDifferences rules (rules_after (maybe_one (rule_replaced index old new)) rules) (maybe_one (rule_replaced index old new))
  replaced_differs index old new at = go (equality.ghosts.eq old new) refl
    where
      go : (b : Bool) → equality.ghosts.eq old new ≡ b
          → AreDifferences rules (rules_after (maybe_one (cond b None (Some (change_at index (Some old) (Some new))))) rules)
          (maybe_one (cond b None (Some (change_at index (Some old) (Some new)))))
      go true is = nothing_differs rules
      go false is = one_differs rules index old new at (λ same. true≢false (sym ((formatting_equals old new).1 same) ∙ is))

  updated_differs : (index : ℕ) (parts : List MergedCell) (rule : CfRule) (output : Option RuleChange) → rule_updated index parts rule rules ≡ Ok output
      → AreDifferences rules (rules_after (maybe_one output) rules) (maybe_one output)
  unfolding rule_updated
  updated_differs index parts rule output is = go (rule_at index rules) refl (checked_rule parts rule) is
    where
      go : (found : Result ConditionalFormatting EditError) → rule_at index rules ≡ found → (checked : Result (Unit {0}) EditError)
          → and_then found (λ old. map_ok (λ _. rule_replaced index old (formatting_of parts rule old.priority)) checked) ≡ Ok output
          → AreDifferences rules (rules_after (maybe_one output) rules) (maybe_one output)
      go (Err error) at checked h = absurd (cc)
      go (Ok old) at (Err error) h = absurd (cc)
      go (Ok old) at (Ok done) h =
          let same : rule_replaced index old (formatting_of parts rule old.priority) ≡ output = cc in
          subst (λ c. AreDifferences rules (rules_after (maybe_one c) rules) (maybe_one c)) same
          (replaced_differs index old (formatting_of parts rule old.priority) (there_at index rules old at))

  -- rules of other priorities stand at other indexes
  below : (i j : ℕ) (old other : ConditionalFormatting) → i ≤ j → slice_get rules i ≡ Some old → slice_get rules j ≡ Some other → old.priority ≢ other.priority → i < j
  below i j old other order first second differ = go (i == j) refl
    where
      go : (b : Bool) → (i == j) ≡ b → i < j
      go false is = grind (arith, is, order)
      go true is =
          let same : i ≡ j = (unsigned_Decides i j).0 is in
          let one : Some old ≡ Some other = sym first ∙ ap (slice_get rules) same ∙ second in
          let equal : old ≡ other = cc in
          absurd (differ (ap (λ (f : ConditionalFormatting). f.priority) equal))

  swapped_differ : (i j : ℕ) (old other : ConditionalFormatting) → i ≤ j → slice_get rules i ≡ Some old → slice_get rules j ≡ Some other
      → AreDifferences rules (rules_after (maybe_two (priorities_swapped i old j other)) rules) (maybe_two (priorities_swapped i old j other))
  swapped_differ i j old other order first second = go (old.priority == other.priority) refl
    where
      two : Bool → Option (RuleChange × RuleChange)
      two b = cond b None (Some (priority_change i old other.priority, priority_change j other old.priority))

      go : (b : Bool) → (old.priority == other.priority) ≡ b → AreDifferences rules (rules_after (maybe_two (two b)) rules) (maybe_two (two b))
      go true is = nothing_differs rules
      go false is =
          let differ = not_same old.priority other.priority is in
          two_differ rules i j old other (record old { priority = other.priority }) (record other { priority = old.priority })
          (below i j old other order first second differ) first second
          (λ same. differ (ap (λ (f : ConditionalFormatting). f.priority) same))
          (λ same. differ (sym (ap (λ (f : ConditionalFormatting). f.priority) same)))

  order_of : (a b : ℕ) → min a b ≤ max a b
  order_of a b = grind (arith)

  exchanged_differ : (a b : ℕ) (output : Option (RuleChange × RuleChange)) → rules_swapped a b rules ≡ Ok output
      → AreDifferences rules (rules_after (maybe_two output) rules) (maybe_two output)
  unfolding rules_swapped
  exchanged_differ a b output is = go (rule_at (min a b) rules) refl (rule_at (max a b) rules) refl is
    where
      go : (low : Result ConditionalFormatting EditError) → rule_at (min a b) rules ≡ low → (high : Result ConditionalFormatting EditError) → rule_at (max a b) rules ≡ high
          → and_then low (λ old. map_ok (λ other. priorities_swapped (min a b) old (max a b) other) high) ≡ Ok output
          → AreDifferences rules (rules_after (maybe_two output) rules) (maybe_two output)
      go (Err error) first high second h = absurd (cc)
      go (Ok old) first (Err error) second h = absurd (cc)
      go (Ok old) first (Ok other) second h =
          let same : priorities_swapped (min a b) old (max a b) other ≡ output = cc in
          subst (λ c. AreDifferences rules (rules_after (maybe_two c) rules) (maybe_two c)) same
          (swapped_differ (min a b) (max a b) old other (order_of a b) (there_at (min a b) rules old first) (there_at (max a b) rules other second))

  mapped_differ : {A : Type 0} (f : A → List RuleChange) (output : Result A EditError) (changes : List RuleChange) → map_ok f output ≡ Ok changes
      → ((value : A) → output ≡ Ok value → AreDifferences rules (rules_after (f value) rules) (f value)) → AreDifferences rules (rules_after changes rules) changes
  mapped_differ f (Ok value) changes is each =
      let same : f value ≡ changes = cc in subst (λ cs. AreDifferences rules (rules_after cs rules) cs) same (each value refl)
  mapped_differ f (Err error) changes is each = absurd (cc)

  -- the changes of such an edit are the rules that differ
  pub edited_differ : (edit : RuleEdit) (changes : List RuleChange) → IsTrue (leaves_indexes edit) → rule_changes edit rules ≡ Ok changes
      → AreDifferences rules (rules_after changes rules) changes
  edited_differ (Add sheet parts rule) changes is output = absurd (let never : false ≡ true = is in cc)
  edited_differ (Update sheet index parts rule) changes is output = mapped_differ maybe_one (rule_updated index parts rule rules) changes output (updated_differs index parts rule)
  edited_differ (Delete sheet index) changes is output = absurd (let never : false ≡ true = is in cc)
  edited_differ (Swap sheet a b) changes is output = mapped_differ maybe_two (rules_swapped a b rules) changes output (exchanged_differ a b)
