-- The changes of an accepted edit can be made one after the other, and be taken back; and each of the later rules may stand.
use Rattle.std.proofs.Common.{◌≡◌, ℕ, zero, suc, ◌≤◌, ◌<◌, Bool, true, false, not, List, [], ◌∷◌, length, max, Option, Some, None, Result, Ok, Err, refl, ap, sym, subst, ◌∙◌, arith}
use Rattle.std.specs.Prelude.{◌==◌, min, slice_get, if◌then◌else◌}
use Rattle.std.specs.Cmp.{unsigned_Decides}
use Rattle.std.specs.List.{insert, list_all, remove}
use Rattle.std.specs.Option.{option_map_or}
use Rattle.std.proofs.Math.Nat.{le-max_left, min-le_left}
use Rattle.base_values.specs.declared.EditError.{EditError}
use Rattle.base_values.specs.declared.EditError.TheVariants.{InvalidArea, BadFormula, RuleIndex}
use Rattle.base_values.specs.declared.Position.{Position}
use Rattle.base_values.specs.Answers.{and_then, map_ok, ok_or}
use Rattle.base_axis.specs.declared.MergedCell.{MergedCell}
use Rattle.base_axis.specs.Rectangles.{anchor_place, is_inside}
use Rattle.formula_tree.specs.declared.Node.{Node}
use Rattle.formula_tree.specs.ParseError.{is_parse_error}
use Rattle.cell_content.specs.Fitting.{tree_fits_at}
use Rattle.format_rules.specs.declared.Cfvo.{Cfvo}
use Rattle.format_rules.specs.declared.Cfvo.TheVariants as cfvo
use Rattle.format_rules.specs.declared.ColorThreshold.{ColorThreshold}
use Rattle.format_rules.specs.declared.IconThreshold.{IconThreshold}
use Rattle.format_rules.specs.declared.CfRule.{CfRule}
use Rattle.format_rules.specs.declared.CfRule.TheVariants.{Formula, CellIs, ColorScale, DataBar, IconSet, IconRating}
use Rattle.format_rules.specs.declared.ConditionalFormatting.{ConditionalFormatting}
use Rattle.format_rules.specs.contracts.formatting.ConditionalFormattingPartialEq.TheImpl as equality
use Rattle.format_rules.specs.Fitting.{has_parts}
use Rattle.format_rules.specs.RuleTrees.{cfvo_passes, each_cfvo, each_tree, own_trees_pass}
use Rattle.format_rules.specs.laws.RuleTreeLaws.{left, right, both}
use Rattle.book_sheets.specs.laws.ListEdits.{got_within}
use Rattle.book_sheets.specs.laws.ListTests.{all_others, passes_at}
use Rattle.rule_edits.specs.declared.change.RuleChange.{RuleChange}
use Rattle.rule_edits.specs.RuleChanges.{change_at, may_stand, rules_changed}
use Rattle.rule_edits.specs.RuleEdits.{RuleEdit, checked_rule, come_behind, formatting_of, is_rule_formula, maybe_one, maybe_two, next_priority}
use Rattle.rule_edits.specs.RuleEdits.{priorities_swapped, priority_change, rule_added, rule_at, rule_changes, rule_removed, rule_replaced, rule_updated, rules_after, rules_swapped}
use Rattle.rule_edits.specs.RuleEdits.RuleEdit.{Add, Update, Delete, Swap}
use Rattle.rule_edits.specs.Made.{ChangesGo, IsMade}
use Rattle.rule_edits.specs.laws.Lists.{later_stand}

-- ---- a weaker test of formulas

module _ (p q : Node → Bool) (weaker : (tree : Node) → p tree ≡ true → q tree ≡ true) where
  cfvo_weaker : (c : Cfvo) → cfvo_passes p c ≡ true → cfvo_passes q c ≡ true
  cfvo_weaker cfvo.Min h = refl
  cfvo_weaker cfvo.Max h = refl
  cfvo_weaker (cfvo.Number number) h = refl
  cfvo_weaker (cfvo.Percent number) h = refl
  cfvo_weaker (cfvo.Percentile number) h = refl
  cfvo_weaker (cfvo.Formula tree) h = weaker tree h

  bound_weaker : (o : Option Cfvo) → option_map_or (cfvo_passes p) o true ≡ true → option_map_or (cfvo_passes q) o true ≡ true
  bound_weaker None h = refl
  bound_weaker (Some c) h = cfvo_weaker c h

  second_weaker : (o : Option Node) → option_map_or p o true ≡ true → option_map_or q o true ≡ true
  second_weaker None h = refl
  second_weaker (Some tree) h = weaker tree h

  colors_weaker : (xs : List ColorThreshold) → list_all (λ (x : ColorThreshold). cfvo_passes p x.cfvo) xs ≡ true → list_all (λ (x : ColorThreshold). cfvo_passes q x.cfvo) xs ≡ true
  colors_weaker xs h = all_others (λ (x : ColorThreshold). cfvo_passes p x.cfvo) (λ (x : ColorThreshold). cfvo_passes q x.cfvo) xs (λ x. cfvo_weaker x.cfvo) h

  icons_weaker : (xs : List IconThreshold) → list_all (λ (x : IconThreshold). cfvo_passes p x.cfvo) xs ≡ true → list_all (λ (x : IconThreshold). cfvo_passes q x.cfvo) xs ≡ true
  icons_weaker xs h = all_others (λ (x : IconThreshold). cfvo_passes p x.cfvo) (λ (x : IconThreshold). cfvo_passes q x.cfvo) xs (λ x. cfvo_weaker x.cfvo) h

  own_weaker : (rule : CfRule) → own_trees_pass p rule ≡ true → own_trees_pass q rule ≡ true
  own_weaker (Formula formula style stop) h = weaker formula h
  own_weaker (CellIs operator formula formula2 style stop) h =
      both (q formula) (option_map_or q formula2 true) (weaker formula (left (p formula) _ h)) (second_weaker formula2 (right (p formula) _ h))
  own_weaker (ColorScale thresholds) h = refl
  own_weaker (DataBar low high positive negative gradient show) h = refl
  own_weaker (IconSet icons thresholds show) h = refl
  own_weaker (IconRating icon color thresholds show) h = refl

  thresholds_weaker : (rule : CfRule) → each_cfvo (cfvo_passes p) rule ≡ true → each_cfvo (cfvo_passes q) rule ≡ true
  thresholds_weaker (Formula formula style stop) h = refl
  thresholds_weaker (CellIs operator formula formula2 style stop) h = refl
  thresholds_weaker (ColorScale thresholds) h = colors_weaker thresholds h
  thresholds_weaker (DataBar low high positive negative gradient show) h =
      both (option_map_or (cfvo_passes q) low true) (option_map_or (cfvo_passes q) high true)
      (bound_weaker low (left (option_map_or (cfvo_passes p) low true) _ h)) (bound_weaker high (right (option_map_or (cfvo_passes p) low true) _ h))
  thresholds_weaker (IconSet icons thresholds show) h = icons_weaker thresholds h
  thresholds_weaker (IconRating icon color thresholds show) h = icons_weaker thresholds h

  pub each_weaker : (rule : CfRule) → each_tree p rule ≡ true → each_tree q rule ≡ true
  each_weaker rule h =
      both (own_trees_pass q rule) (each_cfvo (cfvo_passes q) rule)
      (own_weaker rule (left (own_trees_pass p rule) _ h)) (thresholds_weaker rule (right (own_trees_pass p rule) _ h))

-- ---- what a test tells

-- a list with a first item has items
has_items : (n : ℕ) → not (suc n == 0) ≡ true
has_items n = grind arith

-- a rule that may come on these parts may stand, whatever its priority
checked_stands : (parts : List MergedCell) (rule : CfRule) (priority : ℕ) → checked_rule parts rule ≡ Ok tt → may_stand (formatting_of parts rule priority) ≡ true
unfolding has_parts
checked_stands [] rule priority is = absurd (let never : ◌≡◌ {A = Result (Unit {0}) EditError} (Err InvalidArea) (Ok tt) = is in cc)
checked_stands (first ∷ others) rule priority is = go (list_all is_inside parts) refl (each_tree (is_rule_formula place) rule) refl is
  where
    parts : List MergedCell
    parts = first ∷ others

    place : Position
    place = anchor_place first

    go : (i : Bool) → list_all is_inside parts ≡ i → (f : Bool) → each_tree (is_rule_formula place) rule ≡ f →
        ◌≡◌ {A = Result (Unit {0}) EditError} (if i then (if f then Ok tt else Err BadFormula) else Err InvalidArea) (Ok tt) →
        may_stand (formatting_of parts rule priority) ≡ true
    go false inside f fits h = absurd (let never : ◌≡◌ {A = Result (Unit {0}) EditError} (Err InvalidArea) (Ok tt) = h in cc)
    go true inside false fits h = absurd (let never : ◌≡◌ {A = Result (Unit {0}) EditError} (Err BadFormula) (Ok tt) = h in cc)
    go true inside true fits h =
        both (has_parts (formatting_of parts rule priority)) (each_tree (tree_fits_at place) rule)
        (both (not (length parts == 0)) (list_all is_inside parts) (has_items (length others)) inside)
        (each_weaker (is_rule_formula place) (tree_fits_at place) (λ tree formula. right (not (is_parse_error tree)) (tree_fits_at place tree) formula) rule fits)

at_index : (index : ℕ) (rules : List ConditionalFormatting) (old : ConditionalFormatting) → rule_at index rules ≡ Ok old → slice_get rules index ≡ Some old
at_index index rules old is = go (slice_get rules index) is
  where
    go : (o : Option ConditionalFormatting) → ok_or RuleIndex o ≡ Ok old → o ≡ Some old
    go (Some other) h = let same : other ≡ old = cc in ap Some same
    go None h = absurd (cc)

-- ---- changes one after the other

-- and each of the later rules may stand
pub all_later_stand : (changes : List RuleChange) (rules : List ConditionalFormatting) → list_all may_stand rules ≡ true → ChangesGo changes rules → list_all may_stand (rules_after changes rules) ≡ true
all_later_stand [] rules all go = all
all_later_stand (change ∷ changes) rules all go =
    all_later_stand changes (rules_changed change rules) (later_stand change.index change.old change.new rules all go.0) go.1

-- where a rule stands in the place of another, one behind it stays
behind_stays : (rules : List ConditionalFormatting) (i j : ℕ) (new : ConditionalFormatting) → i < j → i < length rules → slice_get (insert (remove rules i) i new) j ≡ slice_get rules j
behind_stays [] i j new less within = absurd (omega (arith, within))
behind_stays (r ∷ rules) zero zero new less within = absurd (omega (arith, less))
behind_stays (r ∷ rules) zero (suc j) new less within = refl
behind_stays (r ∷ rules) (suc i) zero new less within = absurd (omega (arith, less))
behind_stays (r ∷ rules) (suc i) (suc j) new less within = behind_stays rules i j new (omega (arith, less)) (omega (arith, within))

module _ (rules : List ConditionalFormatting) (all : list_all may_stand rules ≡ true) where
  one_goes : (index : ℕ) (old new : Option ConditionalFormatting) → IsMade index old new rules → ChangesGo (change_at index old new ∷ []) rules
  one_goes index old new output = (output, tt)

  added_goes : (parts : List MergedCell) (rule : CfRule) (change : RuleChange) → rule_added parts rule rules ≡ Ok change → ChangesGo (change ∷ []) rules
  unfolding rule_added
  added_goes parts rule change is = go (checked_rule parts rule) refl (next_priority rules) is
    where
      go : (checked : Result (Unit {0}) EditError) → checked_rule parts rule ≡ checked → (next : Result ℕ EditError)
          → and_then checked (λ _. map_ok (come_behind parts rule rules) next) ≡ Ok change → ChangesGo (change ∷ []) rules
      go (Err error) tested next h = absurd (cc)
      go (Ok done) tested (Err error) h = absurd (cc)
      go (Ok done) tested (Ok priority) h =
          let same : come_behind parts rule rules priority ≡ change = cc in
          subst (λ c. ChangesGo (c ∷ []) rules) same
          (one_goes (length rules) None (Some (formatting_of parts rule priority)) (record { some = refl; at = omega arith; fits = checked_stands parts rule priority tested }))

  replaced_goes : (index : ℕ) (old new : ConditionalFormatting) → slice_get rules index ≡ Some old → may_stand new ≡ true → ChangesGo (maybe_one (rule_replaced index old new)) rules
  replaced_goes index old new at fits = go (equality.ghosts.eq old new)
    where
      go : (b : Bool) → ChangesGo (maybe_one (if b then None else Some (change_at index (Some old) (Some new)))) rules
      go true = tt
      go false = one_goes index (Some old) (Some new) (record { some = refl; at = at; fits = fits })

  updated_goes : (index : ℕ) (parts : List MergedCell) (rule : CfRule) (output : Option RuleChange) → rule_updated index parts rule rules ≡ Ok output → ChangesGo (maybe_one output) rules
  unfolding rule_updated
  updated_goes index parts rule output is = go (rule_at index rules) refl (checked_rule parts rule) refl is
    where
      go : (found : Result ConditionalFormatting EditError) → rule_at index rules ≡ found → (checked : Result (Unit {0}) EditError) → checked_rule parts rule ≡ checked
          → and_then found (λ old. map_ok (λ _. rule_replaced index old (formatting_of parts rule old.priority)) checked) ≡ Ok output → ChangesGo (maybe_one output) rules
      go (Err error) at checked tested h = absurd (cc)
      go (Ok old) at (Err error) tested h = absurd (cc)
      go (Ok old) at (Ok done) tested h =
          let same : rule_replaced index old (formatting_of parts rule old.priority) ≡ output = cc in
          subst (λ c. ChangesGo (maybe_one c) rules) same
          (replaced_goes index old (formatting_of parts rule old.priority) (at_index index rules old at) (checked_stands parts rule old.priority tested))

  removed_goes : (index : ℕ) (change : RuleChange) → rule_removed index rules ≡ Ok change → ChangesGo (change ∷ []) rules
  unfolding rule_removed
  removed_goes index change is = go (rule_at index rules) refl is
    where
      go : (found : Result ConditionalFormatting EditError) → rule_at index rules ≡ found → map_ok (λ old. change_at index (Some old) None) found ≡ Ok change → ChangesGo (change ∷ []) rules
      go (Err error) at h = absurd (cc)
      go (Ok old) at h =
          let same : change_at index (Some old) None ≡ change = cc in
          subst (λ c. ChangesGo (c ∷ []) rules) same (one_goes index (Some old) None (record { some = refl; at = at_index index rules old at; fits = refl }))

  -- two rules of other priorities stand at two indexes
  apart : (i j : ℕ) (old other : ConditionalFormatting) → i ≤ j → slice_get rules i ≡ Some old → slice_get rules j ≡ Some other → (old.priority == other.priority) ≡ false → i < j
  apart i j old other order first second differ = go (i == j) refl
    where
      go : (b : Bool) → (i == j) ≡ b → i < j
      go false is = grind (arith, is, order)
      go true is =
          let same : i ≡ j = (unsigned_Decides i j).0 is in
          let one : Some old ≡ Some other = sym first ∙ ap (slice_get rules) same ∙ second in
          let equal : old ≡ other = cc in
          let tied : (other.priority == other.priority) ≡ false = ap (λ (f : ConditionalFormatting). f.priority == other.priority) (sym equal) ∙ differ in
          absurd (let never : true ≡ false = sym ((unsigned_Decides other.priority other.priority).1 refl) ∙ tied in cc)

  swapped_goes : (i j : ℕ) (old other : ConditionalFormatting) → i ≤ j → slice_get rules i ≡ Some old → slice_get rules j ≡ Some other
      → ChangesGo (maybe_two (priorities_swapped i old j other)) rules
  unfolding has_parts
  swapped_goes i j old other order first second = go (old.priority == other.priority) refl
    where
      go : (b : Bool) → (old.priority == other.priority) ≡ b → ChangesGo (maybe_two (if b then None else Some (priority_change i old other.priority, priority_change j other old.priority))) rules
      go true tied = tt
      go false differ =
          let less = apart i j old other order first second differ in (
            record { some = refl; at = first; fits = passes_at may_stand rules i old all first },
            (
              record {
                some = refl;
                at = behind_stays rules i j (record old { priority = other.priority }) less (got_within rules i old first) ∙ second;
                fits = passes_at may_stand rules j other all second;
              },
              tt,
            ),
          )

  order_of : (a b : ℕ) → min a b ≤ max a b
  order_of a b = let low = min-le_left a b in let high = le-max_left a b in omega (arith, low, high)

  exchanged_go : (a b : ℕ) (output : Option (RuleChange × RuleChange)) → rules_swapped a b rules ≡ Ok output → ChangesGo (maybe_two output) rules
  unfolding rules_swapped
  exchanged_go a b output is = go (rule_at (min a b) rules) refl (rule_at (max a b) rules) refl is
    where
      go : (low : Result ConditionalFormatting EditError) → rule_at (min a b) rules ≡ low → (high : Result ConditionalFormatting EditError) → rule_at (max a b) rules ≡ high
          → and_then low (λ old. map_ok (λ other. priorities_swapped (min a b) old (max a b) other) high) ≡ Ok output → ChangesGo (maybe_two output) rules
      go (Err error) first high second h = absurd (cc)
      go (Ok old) first (Err error) second h = absurd (cc)
      go (Ok old) first (Ok other) second h =
          let same : priorities_swapped (min a b) old (max a b) other ≡ output = cc in
          subst (λ c. ChangesGo (maybe_two c) rules) same
          (swapped_goes (min a b) (max a b) old other (order_of a b) (at_index (min a b) rules old first) (at_index (max a b) rules other second))

  mapped_go : {A : Type 0} (f : A → List RuleChange) (output : Result A EditError) (changes : List RuleChange) → map_ok f output ≡ Ok changes
      → ((value : A) → output ≡ Ok value → ChangesGo (f value) rules) → ChangesGo changes rules
  mapped_go f (Ok value) changes is each = let same : f value ≡ changes = cc in subst (λ c. ChangesGo c rules) same (each value refl)
  mapped_go f (Err error) changes is each = absurd (cc)

  -- the changes of an accepted edit can be made one after the other
  pub edited_go : (edit : RuleEdit) (changes : List RuleChange) → rule_changes edit rules ≡ Ok changes → ChangesGo changes rules
  edited_go (Add sheet parts rule) changes is = mapped_go (λ change. change ∷ []) (rule_added parts rule rules) changes is (added_goes parts rule)
  edited_go (Update sheet index parts rule) changes is = mapped_go maybe_one (rule_updated index parts rule rules) changes is (updated_goes index parts rule)
  edited_go (Delete sheet index) changes is = mapped_go (λ change. change ∷ []) (rule_removed index rules) changes is (removed_goes index)
  edited_go (Swap sheet a b) changes is = mapped_go maybe_two (rules_swapped a b rules) changes is (exchanged_go a b)
