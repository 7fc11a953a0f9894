-- The law of followers for rules: what is carried along is inside the sheet, and comes back with what is kept.
use Rattle.std.proofs.Common.{◌≡◌, ℕ, zero, suc, ◌+◌, ◌<◌, true, false, List, [], ◌∷◌, length, map, get_or, Option, Some, None, refl, ap, sym, subst, ◌∙◌, arith}
use Rattle.std.specs.Prelude.{⊤, IfSome, IsTrue, slice_get, if◌then◌else◌}
use Rattle.std.specs.List.{All, AllByRecursion, enumerate_from}
use Rattle.std.specs.Ordering.{nat_cmp}
use Rattle.std.specs.FinMap.{FinMap, get}
use Rattle.std.proofs.lemmas.Bool.{ltb-true}
use Rattle.std.proofs.lemmas.Option.{slice_get-get_or}
use Rattle.std.proofs.lemmas.List.Elements.{recursion_from_All, All-from_recursion, All-map, All-weaker}
use Rattle.base_values.specs.declared.Position.{Position}
use Rattle.base_axis.specs.declared.MergedCell.{MergedCell}
use Rattle.base_axis.specs.Rectangles.{IsInside, anchor_place}
use Rattle.formula_tree.specs.declared.Node.{Node}
use Rattle.formula_tree.specs.declared.numbers.NumberRule.TheVariants.{Canonical}
use Rattle.formula_tree.specs.Numbers as tree
use Rattle.formula_tree.specs.Placed.{is_placed}
use Rattle.formula_back.specs.laws.MovedNumbers.{numbers-moved}
use Rattle.format_rules.specs.declared.CfRule.{CfRule}
use Rattle.format_rules.specs.declared.ConditionalFormatting.{ConditionalFormatting}
use Rattle.format_rules.specs.contracts.formatting.ConditionalFormattingPartialEq.TheImpl as equality
use Rattle.format_rules.specs.Canonical.{IsCanonicalFormatting, AreCanonicalRules}
use Rattle.format_rules.specs.Fitting.{place_of, RuleOn, RuleInside}
use Rattle.format_rules.specs.RuleTrees.{HasTrees, trees_changed}
use Rattle.format_rules.specs.laws.FittingLaws.{canonical_still}
use Rattle.format_rules.specs.laws.RuleEquals.{formatting_equals}
use Rattle.format_rules.specs.laws.RuleTreeLaws.{changed_have}
use Rattle.line_routes.specs.MergedCells.{merged_cell_carried}
use Rattle.line_routes.specs.Trees.{TreeInside, following, tree_carried}
use Rattle.line_routes.specs.Trial.{part_by_trial}
use Rattle.line_routes.specs.RouteModel.{RouteModel, IsRoute, back}
use Rattle.line_routes.specs.laws.MergedCellLaws.{merged_cell_stays}
use Rattle.line_routes.specs.laws.TreeLaws.{tree_placed}
use Rattle.line_routes.specs.laws.TrialLaws.{trial_comes_back, trial_part}
use Rattle.line_routes.specs.laws.RouteLaws.{back_is_route}
use Rattle.line_map.specs.Canonical.{AreCanonicalKept, KeptInside}
use Rattle.line_map.specs.Rules.{at_part, route_of_trees, formatting_moved, formatting_carried, formatting_part, rules_carried, rules_kept, rules_restored, DoesNotReturn, KeepsRule, RulesInside}
use Rattle.base_maps.specs.Carried.{settled}
use Rattle.base_maps.specs.ByIndex.{restored_at}
use Rattle.base_maps.specs.laws.ByIndexLaws.{items_regained, kept_are, kept_within, restored_are}

-- ---- one rule

-- the formulas of a rule lie where the map meets them
pub trees_are_inside : (w : RouteModel) (parts : List MergedCell) (rule : CfRule) → RuleOn parts rule → HasTrees (TreeInside (route_of_trees w parts)) rule
trees_are_inside w [] rule stands = absurd (none stands.first)
  where
    none : place_of [] ≡ Some stands.place → ⊥
    none h = cc
trees_are_inside w (first ∷ others) rule stands =
    let same : anchor_place first ≡ stands.place = some_same stands.first in
    let InsideAt : Position → Type 0 = λ place. HasTrees (λ n. is_placed place n ≡ true) rule in
    subst InsideAt (sym same) stands.trees
  where
    some_same : Some (anchor_place first) ≡ Some stands.place → anchor_place first ≡ stands.place
    some_same h = cc

parts_stay : (w : RouteModel) → IsRoute w → (parts : List MergedCell) → All IsInside parts → All IsInside (map (merged_cell_carried w) parts)
parts_stay w is parts inside = All-map IsInside (merged_cell_carried w) parts
    (All-weaker IsInside (λ part. IsInside (merged_cell_carried w part)) (merged_cell_stays w is) parts inside)

moved_stands : (w : RouteModel) → IsRoute w → (parts : List MergedCell) (rule : CfRule) → RuleOn parts rule →
    RuleOn (map (merged_cell_carried w) parts) (trees_changed (tree_carried (route_of_trees w parts)) rule)
moved_stands w is [] rule stands = absurd (none stands.first)
  where
    none : place_of [] ≡ Some stands.place → ⊥
    none h = cc
moved_stands w is (first ∷ others) rule stands =
    let there : RouteModel = at_part w first in
    record {
      place = anchor_place (merged_cell_carried w first);
      first = refl;
      inside = parts_stay w is (first ∷ others) stands.inside;
      trees = changed_have (TreeInside there) (λ n. is_placed there.to n ≡ true) (tree_carried there)
          (λ n lies. tree_placed there (record { axis = is.axis; one_to_one = is.one_to_one }) n) rule (trees_are_inside w (first ∷ others) rule stands);
    }

-- a rule that is carried along is inside the sheet
pub formatting_stays : (w : RouteModel) → IsRoute w → (formatting : ConditionalFormatting) → RuleInside formatting → RuleInside (formatting_carried w formatting)
unfolding formatting_carried
formatting_stays w is formatting stands = elim w.is_edited as (λ b. RuleInside (if b then formatting_moved w formatting else formatting))
    [ true ↦ moved_stands w is formatting.parts formatting.rule stands | false ↦ stands ]

pub formatting_comes_back : (w : RouteModel) (formatting : ConditionalFormatting) → formatting_part w formatting ≡ None → formatting_carried (back w)
    (formatting_carried w formatting) ≡ formatting
formatting_comes_back w formatting h = trial_comes_back equality.ghosts.eq formatting_carried formatting_equals w formatting h

pub formatting_restores : (w : RouteModel) (formatting part : ConditionalFormatting) → formatting_part w formatting ≡ Some part → part ≡ formatting
formatting_restores w formatting part h = trial_part equality.ghosts.eq formatting_carried w formatting part h

same_numbers : (w : RouteModel) (n : Node) → tree.has_canonical_numbers (tree_carried w n) ≡ tree.has_canonical_numbers n
unfolding tree_carried
same_numbers w n = numbers-moved Canonical w.to (following w) n

-- its numbers stay
numbers_at : (w : RouteModel) (formatting : ConditionalFormatting) → IsCanonicalFormatting formatting → IsCanonicalFormatting (formatting_moved w formatting)
numbers_at w formatting h =
    let there = route_of_trees w formatting.parts in subst IsTrue (sym (canonical_still (tree_carried there) (same_numbers there) formatting.rule)) h

pub formatting_numbers : (w : RouteModel) (formatting : ConditionalFormatting) → IsCanonicalFormatting formatting → IsCanonicalFormatting
    (formatting_carried w formatting)
unfolding formatting_carried
formatting_numbers w formatting h = elim w.is_edited as (λ b. IsCanonicalFormatting (if b then formatting_moved w formatting else formatting))
    [ true ↦ numbers_at w formatting h | false ↦ h ]

-- what is kept of a rule is the rule
part_is : (P : ConditionalFormatting → Type 0) (w : RouteModel) (formatting : ConditionalFormatting) → P formatting → (o : Option ConditionalFormatting) →
    formatting_part w formatting ≡ o → IfSome o P
part_is P w formatting h None is = tt
part_is P w formatting h (Some part) is = subst P (sym (formatting_restores w formatting part is)) h

-- ---- lists of rules

pub rules_stay : (w : RouteModel) → IsRoute w → (rules : List ConditionalFormatting) → RulesInside rules → RulesInside (rules_carried w rules)
rules_stay w is rules lie = All-map RuleInside (formatting_carried w) rules
    (All-weaker RuleInside (λ rule. RuleInside (formatting_carried w rule)) (formatting_stays w is) rules lie)

pub rules_numbers : (w : RouteModel) (rules : List ConditionalFormatting) → AreCanonicalRules rules → AreCanonicalRules (rules_carried w rules)
rules_numbers w rules all =
    All-map IsCanonicalFormatting (formatting_carried w) rules
    (All-weaker IsCanonicalFormatting (λ rule. IsCanonicalFormatting (formatting_carried w rule)) (formatting_numbers w) rules all)

pub kept_numbers : (w : RouteModel) (rules : List ConditionalFormatting) → AreCanonicalRules rules → AreCanonicalKept (rules_kept w rules)
kept_numbers w rules all =
    kept_are (formatting_part w) IsCanonicalFormatting IsCanonicalFormatting
    (λ rule h. part_is IsCanonicalFormatting w rule h (formatting_part w rule) refl) rules
    (recursion_from_All IsCanonicalFormatting rules all)

pub kept_are_inside : (w : RouteModel) (rules : List ConditionalFormatting) → RulesInside rules → KeptInside (rules_kept w rules)
kept_are_inside w rules lie =
    kept_are (formatting_part w) RuleInside RuleInside (λ rule h. part_is RuleInside w rule h (formatting_part w rule) refl) rules
    (recursion_from_All RuleInside rules lie)

-- the rules that come back have canonical numbers, and are inside, where those do that were kept
pub restored_numbers : (w : RouteModel) (kept : FinMap nat_cmp ConditionalFormatting) → AreCanonicalKept kept → (rules : List ConditionalFormatting) →
    AreCanonicalRules rules →
    AreCanonicalRules (rules_restored w kept rules)
restored_numbers w kept numbers rules all =
    All-from_recursion IsCanonicalFormatting (rules_restored w kept rules)
    (restored_are (formatting_carried (back w)) (λ _ own. own) IsCanonicalFormatting IsCanonicalFormatting IsCanonicalFormatting (formatting_numbers (back w)) (λ _ own h. h) (get kept) numbers rules
    (recursion_from_All IsCanonicalFormatting rules all))

pub restored_are_inside : (w : RouteModel) → IsRoute w → (kept : FinMap nat_cmp ConditionalFormatting) → KeptInside kept → (rules : List ConditionalFormatting) →
    RulesInside rules → RulesInside (rules_restored w kept rules)
restored_are_inside w is kept inside rules lie =
    All-from_recursion RuleInside (rules_restored w kept rules)
    (restored_are (formatting_carried (back w)) (λ _ own. own) RuleInside RuleInside RuleInside (formatting_stays (back w) (back_is_route w is)) (λ _ own h. h) (get kept) inside rules
    (recursion_from_All RuleInside rules lie))

nothing_known : (rules : List ConditionalFormatting) → AllByRecursion (λ _. ⊤) rules
nothing_known [] = tt
nothing_known (rule ∷ rules) = (tt, nothing_known rules)

-- the law of followers: the rules come back with what is kept of them
pub rules_regained : (w : RouteModel) (rules : List ConditionalFormatting) → rules_restored w (rules_kept w rules) (rules_carried w rules) ≡ rules
rules_regained w rules =
    items_regained (formatting_part w) (formatting_carried w) (formatting_carried (back w)) (λ _ own. own) (λ _. ⊤)
    (λ rule _ h. formatting_comes_back w rule h) (λ rule _ part h. formatting_restores w rule part h) rules (nothing_known rules)

-- a rule that is kept does not come back by itself
kept_away : (w : RouteModel) (rule k : ConditionalFormatting) → formatting_part w rule ≡ Some k → DoesNotReturn w rule
unfolding part_by_trial
kept_away w rule k h home =
    let nothing : formatting_part w rule ≡ None =
    ap (λ b. if b then None else Some rule) ((formatting_equals (formatting_carried (back w) (formatting_carried w rule)) rule).1 home) in
    let never : ◌≡◌ {A = Option ConditionalFormatting} None (Some k) = sym nothing ∙ h in cc

part_needed : (w : RouteModel) (rule : ConditionalFormatting) (o : Option ConditionalFormatting) → formatting_part w rule ≡ o → IfSome o (DoesNotReturn w)
part_needed w rule None h = tt
part_needed w rule (Some k) h = subst (DoesNotReturn w) (sym (formatting_restores w rule k h)) (kept_away w rule k h)

-- so it is of each that is kept
rules_needed : (w : RouteModel) (rules : List ConditionalFormatting) (index : ℕ) → IfSome (get (rules_kept w rules) index) (DoesNotReturn w)
rules_needed w rules index =
    kept_are (formatting_part w) (λ _. ⊤) (DoesNotReturn w) (λ rule _. part_needed w rule (formatting_part w rule) refl) rules (nothing_known rules) index

-- what stands at an index of a list that came back
came_back_at : (carry home : ConditionalFormatting → ConditionalFormatting) (kept : ℕ → Option ConditionalFormatting) (at : ℕ)
    (rules : List ConditionalFormatting) → map (restored_at home (λ _ own. own) kept) (enumerate_from at (map carry rules)) ≡ rules →
    (index : ℕ) (rule : ConditionalFormatting) → slice_get rules index ≡ Some rule → settled home (λ _ own. own) (kept (at + index)) (carry rule) ≡ rule
came_back_at carry home kept at [] h index rule there = absurd (cc)
came_back_at carry home kept at (first ∷ rules) h zero rule there =
    let one : first ≡ rule = cc in
    let here : at + 0 ≡ at = omega arith in
    let front : settled home (λ _ own. own) (kept at) (carry first) ≡ first = cc in
    ap (λ n. settled home (λ _ own. own) (kept n) (carry rule)) here ∙ ap (λ r. settled home (λ _ own. own) (kept at) (carry r)) (sym one) ∙ front ∙ one
came_back_at carry home kept at (first ∷ rules) h (suc index) rule there =
    let on : at + suc index ≡ (at + 1) + index = omega arith in
    let rest : map (restored_at home (λ _ own. own) kept) (enumerate_from (at + 1) (map carry rules)) ≡ rules = cc in
    ap (λ n. settled home (λ _ own. own) (kept n) (carry rule)) on ∙ came_back_at carry home kept (at + 1) rules rest index rule there

-- exactly those rules are kept that the way back does not give: the list comes back with them
pub rules_are_kept : (w : RouteModel) (rules : List ConditionalFormatting) (index : ℕ) (rule : ConditionalFormatting) →
    KeepsRule w rules (rules_kept w rules) index rule
rules_are_kept w rules index rule = (
  λ held. (there held, subst (λ o. IfSome o (DoesNotReturn w)) held (rules_needed w rules index)),
  λ h. needed (get (rules_kept w rules) index) refl h.0 h.1,
)
  where
    back_at : (r : ConditionalFormatting) → slice_get rules index ≡ Some r →
        settled (formatting_carried (back w)) (λ _ own. own) (get (rules_kept w rules) index) (formatting_carried w r) ≡ r
    back_at r found =
        let here : index ≡ 0 + index = omega arith in
        ap (λ n. settled (formatting_carried (back w)) (λ _ own. own) (get (rules_kept w rules) n) (formatting_carried w r)) here
        ∙ came_back_at (formatting_carried w) (formatting_carried (back w)) (get (rules_kept w rules)) 0 rules (rules_regained w rules) index r found

    there : get (rules_kept w rules) index ≡ Some rule → slice_get rules index ≡ Some rule
    there held =
        let within : index < length rules = ltb-true index (length rules) (kept_within (formatting_part w) rules index rule held) in
        let found = slice_get-get_or rules index rule within in
        found ∙ ap Some (sym (back_at (get_or rules index rule) found)
        ∙ ap (λ o. settled (formatting_carried (back w)) (λ _ own. own) o (formatting_carried w (get_or rules index rule))) held)

    needed : (o : Option ConditionalFormatting) → get (rules_kept w rules) index ≡ o → slice_get rules index ≡ Some rule → DoesNotReturn w rule → o ≡ Some rule
    needed None none found away = absurd (away (sym (ap (λ o. settled (formatting_carried (back w)) (λ _ own. own) o (formatting_carried w rule)) none)
        ∙ back_at rule found))
    needed (Some k) held found away = ap Some (sym (ap (λ o. settled (formatting_carried (back w)) (λ _ own. own) o (formatting_carried w rule)) held)
        ∙ back_at rule found)
