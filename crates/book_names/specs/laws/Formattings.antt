-- Conditional rules whose formulas are renamed: they come back with what was kept, and stand and fit where they did.
use Rattle.std.proofs.Common.{◌≡◌, ℕ, Bool, true, false, length, suc, List, [], ◌∷◌, get_or, Option, Some, None, refl, ap, sym, subst, ◌∙◌}
use Rattle.std.specs.Prelude.{◌&&◌, IfSome, IsTrue, if◌then◌else◌, nat_le, nat_lt}
use Rattle.std.specs.List.{All, AllByRecursion, list_all}
use Rattle.std.specs.FinMap.{get}
use Rattle.std.proofs.lemmas.List.Elements.{recursion_from_All, All-from_recursion, All-map, All-weaker}
use Rattle.std.proofs.lemmas.List.Sums.{AllPass-from_list_all}
use Rattle.base_values.specs.declared.Position.{Position}
use Rattle.formula_tree.specs.declared.Node.{Node}
use Rattle.formula_tree.specs.declared.numbers.NumberRule.TheVariants.{Canonical, NotNegative}
use Rattle.formula_tree.specs.Depth.{is_within}
use Rattle.formula_tree.specs.Placed.{is_placed}
use Rattle.formula_names.specs.declared.Reach.{Reach}
use Rattle.formula_names.specs.Renamed.{naming, tree_renamed}
use Rattle.formula_names.specs.laws.NamedLaws.{depth-named, numbers-named, placed-named}
use Rattle.format_rules.specs.declared.Cfvo.{Cfvo}
use Rattle.format_rules.specs.declared.Cfvo.TheVariants as cfvo
use Rattle.format_rules.specs.declared.ColorThreshold.{ColorThreshold}
use Rattle.format_rules.specs.declared.IconThreshold.{IconThreshold}
use Rattle.format_rules.specs.declared.CfRule.{CfRule}
use Rattle.format_rules.specs.declared.CfRule.TheVariants.{Formula, CellIs, ColorScale, DataBar, IconSet, IconRating}
use Rattle.format_rules.specs.declared.ConditionalFormatting.{ConditionalFormatting}
use Rattle.format_rules.specs.contracts.formatting.ConditionalFormattingPartialEq.TheImpl as equality
use Rattle.format_rules.specs.Canonical.{IsCanonicalFormatting, AreCanonicalRules}
use Rattle.format_rules.specs.Fitting.{place_of, has_parts, tree_fits, has_fitting_trees, RuleInside}
use Rattle.format_rules.specs.RuleTrees.{CfvoHas, HasTrees}
use Rattle.format_rules.specs.laws.FittingLaws.{canonical_still}
use Rattle.format_rules.specs.laws.RuleEquals.{formatting_equals}
use Rattle.format_rules.specs.laws.RuleTreeLaws.{changed_have, each_still}
use Rattle.line_map.specs.Canonical.{AreCanonicalKept}
use Rattle.line_map.specs.Rules.{RulesInside}
use Rattle.base_maps.specs.laws.ByIndexLaws.{items_regained, kept_are, kept_within, restored_are}
use Rattle.book_names.specs.Renaming.{formatting_renamed, formattings_renamed, formatting_kept, own_formattings_kept, formattings_back}
use Rattle.book_names.specs.laws.Cells.{tree_fits as fits_still}

-- ---- what can be renamed

abbrev pub AnyTree : Node → Type 0
AnyTree tree = Unit {0}

any_cfvo : (c : Cfvo) → CfvoHas AnyTree c
any_cfvo cfvo.Min = tt
any_cfvo cfvo.Max = tt
any_cfvo (cfvo.Number number) = tt
any_cfvo (cfvo.Percent number) = tt
any_cfvo (cfvo.Percentile number) = tt
any_cfvo (cfvo.Formula tree) = tt

any_bound : (o : Option Cfvo) → IfSome o (CfvoHas AnyTree)
any_bound None = tt
any_bound (Some c) = any_cfvo c

any_second : (o : Option Node) → IfSome o AnyTree
any_second None = tt
any_second (Some tree) = tt

any_colors : (xs : List ColorThreshold) → All (λ (x : ColorThreshold). CfvoHas AnyTree x.cfvo) xs
any_colors xs = λ k d lt. any_cfvo (get_or xs k d).cfvo

any_icons : (xs : List IconThreshold) → All (λ (x : IconThreshold). CfvoHas AnyTree x.cfvo) xs
any_icons xs = λ k d lt. any_cfvo (get_or xs k d).cfvo

-- each formula of a rule can be renamed
pub any_trees : (rule : CfRule) → HasTrees AnyTree rule
any_trees (Formula formula style stop) = tt
any_trees (CellIs operator formula formula2 style stop) = (tt, any_second formula2)
any_trees (ColorScale thresholds) = any_colors thresholds
any_trees (DataBar min max positive negative gradient show) = (any_bound min, any_bound max)
any_trees (IconSet icons thresholds show) = any_icons thresholds
any_trees (IconRating icon color thresholds show) = any_icons thresholds

-- ---- one rule

module _ (reach : Reach) (old new : List ℕ) where
  -- its parts stay
  pub parts_still : (formatting : ConditionalFormatting) → has_parts (formatting_renamed reach old new formatting) ≡ has_parts formatting
  unfolding has_parts
  parts_still formatting = refl

  tree_fits_still : (place : Option Position) (tree : Node) → tree_fits place (tree_renamed reach old new tree) ≡ tree_fits place tree
  unfolding is_within
  tree_fits_still None tree = λ i. nat_le (depth-named (naming reach old new) tree i) 64 && numbers-named (naming reach old new) NotNegative tree i
  tree_fits_still (Some place) tree = fits_still reach old new place tree

  -- its formulas fit where they did
  pub trees_still : (formatting : ConditionalFormatting) → has_fitting_trees (formatting_renamed reach old new formatting) ≡ has_fitting_trees formatting
  trees_still formatting =
      each_still (tree_fits (place_of formatting.parts)) (tree_renamed reach old new) (tree_fits_still (place_of formatting.parts)) formatting.rule

  -- it is inside the sheet
  pub stands_still : (formatting : ConditionalFormatting) → RuleInside formatting → RuleInside (formatting_renamed reach old new formatting)
  stands_still formatting h = record {
    place = h.place;
    first = h.first;
    inside = h.inside;
    trees = changed_have (λ tree. is_placed h.place tree ≡ true) (λ tree. is_placed h.place tree ≡ true) (tree_renamed reach old new)
        (λ tree placed. placed-named (naming reach old new) h.place tree ∙ placed) formatting.rule h.trees;
  }

  -- its numbers are canonical
  pub formatting_numbers : (formatting : ConditionalFormatting) → IsCanonicalFormatting formatting → IsCanonicalFormatting (formatting_renamed reach old new formatting)
  formatting_numbers formatting h = subst IsTrue (sym (canonical_still (tree_renamed reach old new) (numbers-named (naming reach old new) Canonical) formatting.rule)) h

-- ---- the rules of a sheet

module _ (reach : Reach) (old new : List ℕ) where
  pub same_count : (formattings : List ConditionalFormatting) → length (formattings_renamed reach old new formattings) ≡ length formattings
  same_count [] = refl
  same_count (formatting ∷ formattings) = ap suc (same_count formattings)

  all_still : (test : ConditionalFormatting → Bool) → ((formatting : ConditionalFormatting) → test (formatting_renamed reach old new formatting) ≡ test formatting)
      → (formattings : List ConditionalFormatting) → list_all test (formattings_renamed reach old new formattings) ≡ list_all test formattings
  all_still test same [] = refl
  all_still test same (formatting ∷ formattings) = λ i. same formatting i && all_still test same formattings i

  -- their parts stay, and their formulas fit where they did
  pub all_parts_still : (formattings : List ConditionalFormatting) → list_all has_parts (formattings_renamed reach old new formattings) ≡ list_all has_parts formattings
  all_parts_still = all_still has_parts (parts_still reach old new)

  pub all_trees_still : (formattings : List ConditionalFormatting) → list_all has_fitting_trees (formattings_renamed reach old new formattings) ≡ list_all has_fitting_trees formattings
  all_trees_still = all_still has_fitting_trees (trees_still reach old new)

  -- they are inside the sheet
  pub rules_still : (formattings : List ConditionalFormatting) → RulesInside formattings → RulesInside (formattings_renamed reach old new formattings)
  rules_still formattings lie =
      All-map RuleInside (formatting_renamed reach old new) formattings
      (All-weaker RuleInside (λ formatting. RuleInside (formatting_renamed reach old new formatting)) (stands_still reach old new) formattings lie)

  -- their numbers are canonical
  pub formattings_numbers : (formattings : List ConditionalFormatting) → AreCanonicalRules formattings → AreCanonicalRules (formattings_renamed reach old new formattings)
  formattings_numbers formattings all =
      All-map IsCanonicalFormatting (formatting_renamed reach old new) formattings
      (All-weaker IsCanonicalFormatting (λ formatting. IsCanonicalFormatting (formatting_renamed reach old new formatting)) (formatting_numbers reach old new) formattings all)

  module _ (kept : ℕ → Option ConditionalFormatting) where
    -- so it is for those that come back, where it is for the kept ones
    pub formattings_back_numbers : ((q : ℕ) → IfSome (kept q) IsCanonicalFormatting) → (formattings : List ConditionalFormatting) → AreCanonicalRules formattings
        → AreCanonicalRules (formattings_back reach old new kept formattings)
    formattings_back_numbers numbers formattings all =
        All-from_recursion IsCanonicalFormatting (formattings_back reach old new kept formattings)
        (restored_are (formatting_renamed reach new old) (λ _ own. own) IsCanonicalFormatting IsCanonicalFormatting IsCanonicalFormatting (formatting_numbers reach new old) (λ _ own h. h)
        kept numbers formattings (recursion_from_All IsCanonicalFormatting formattings all))

    pub rules_back_still : ((q : ℕ) → IfSome (kept q) RuleInside) → (formattings : List ConditionalFormatting) → RulesInside formattings
        → RulesInside (formattings_back reach old new kept formattings)
    rules_back_still inside formattings lie =
        All-from_recursion RuleInside (formattings_back reach old new kept formattings)
        (restored_are (formatting_renamed reach new old) (λ _ own. own) RuleInside RuleInside RuleInside (stands_still reach new old) (λ _ own h. h)
        kept inside formattings (recursion_from_All RuleInside formattings lie))

-- ---- there and back

nothing_at : (formatting : ConditionalFormatting) (b : Bool) → (if b then None else Some formatting) ≡ None → b ≡ true
nothing_at formatting true h = refl
nothing_at formatting false h = absurd (cc)

part_at : (formatting part : ConditionalFormatting) (b : Bool) → (if b then None else Some formatting) ≡ Some part → part ≡ formatting
part_at formatting part true h = absurd (cc)
part_at formatting part false h = let same : formatting ≡ part = cc in sym same

module _ (there back : Reach) (old new : List ℕ) where
  abbrev there_and_back : ConditionalFormatting → ConditionalFormatting
  there_and_back formatting = formatting_renamed back new old (formatting_renamed there old new formatting)

  comes_back : (formatting : ConditionalFormatting) → formatting_kept there back old new formatting ≡ None → there_and_back formatting ≡ formatting
  unfolding formatting_kept
  comes_back formatting h = (formatting_equals (there_and_back formatting) formatting).0 (nothing_at formatting (equality.ghosts.eq (there_and_back formatting) formatting) h)

  kept_is : (formatting part : ConditionalFormatting) → formatting_kept there back old new formatting ≡ Some part → part ≡ formatting
  unfolding formatting_kept
  kept_is formatting part h = part_at formatting part (equality.ghosts.eq (there_and_back formatting) formatting) h

  -- what holds of a rule holds of what is kept of it
  part_is : (P : ConditionalFormatting → Type 0) (formatting : ConditionalFormatting) → P formatting → (o : Option ConditionalFormatting) →
      formatting_kept there back old new formatting ≡ o → IfSome o P
  part_is P formatting h None is = tt
  part_is P formatting h (Some part) is = subst P (sym (kept_is formatting part is)) h

  own_parts_are : (P : ConditionalFormatting → Type 0) (formattings : List ConditionalFormatting) → AllByRecursion P formattings → (q : ℕ)
      → IfSome (get (own_formattings_kept there back old new formattings) q) P
  own_parts_are P formattings all =
      kept_are (formatting_kept there back old new) P P (λ formatting h. part_is P formatting h (formatting_kept there back old new formatting) refl) formattings all

  -- what is kept of the rules of a sheet has canonical numbers
  pub own_kept_numbers : (formattings : List ConditionalFormatting) → AreCanonicalRules formattings → AreCanonicalKept (own_formattings_kept there back old new formattings)
  own_kept_numbers formattings all = own_parts_are IsCanonicalFormatting formattings (recursion_from_All IsCanonicalFormatting formattings all)

  -- it passes a test that each of them passes
  pub own_kept_passes : (test : ConditionalFormatting → Bool) (formattings : List ConditionalFormatting) → list_all test formattings ≡ true → (q : ℕ) (part : ConditionalFormatting)
      → get (own_formattings_kept there back old new formattings) q ≡ Some part → test part ≡ true
  own_kept_passes test formattings all q part h =
      let Passes : ConditionalFormatting → Type 0 = λ (formatting : ConditionalFormatting). test formatting ≡ true in
      subst (λ o. IfSome o Passes) h (own_parts_are Passes formattings (recursion_from_All Passes formattings (AllPass-from_list_all test formattings all)) q)

  -- and has the place of one of them
  pub own_kept_within : (formattings : List ConditionalFormatting) (q : ℕ) (part : ConditionalFormatting) → get (own_formattings_kept there back old new formattings) q ≡ Some part
      → nat_lt q (length formattings) ≡ true
  own_kept_within formattings q part h = kept_within (formatting_kept there back old new) formattings q part h

  -- the rules of a sheet come back with what is kept of them
  pub formattings_regained : (formattings : List ConditionalFormatting)
      → formattings_back back old new (get (own_formattings_kept there back old new formattings)) (formattings_renamed there old new formattings) ≡ formattings
  formattings_regained formattings =
      items_regained (formatting_kept there back old new) (formatting_renamed there old new) (formatting_renamed back new old) (λ _ own. own) (λ _. Unit {0})
      (λ formatting _ h. comes_back formatting h) (λ formatting _ part h. kept_is formatting part h) formattings
      (recursion_from_All (λ _. Unit {0}) formattings (λ _ _ _. tt))
