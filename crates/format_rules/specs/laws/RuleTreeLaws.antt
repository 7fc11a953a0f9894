-- What becomes of the formulas of a rule that are changed.
use Rattle.std.proofs.Common.{◌≡◌, Bool, true, false, List, [], ◌∷◌, Option, Some, None, map, refl}
use Rattle.std.specs.Prelude.{◌&&◌, IfSome}
use Rattle.std.specs.List.{All, list_all}
use Rattle.std.specs.Option.{option_map, option_map_or}
use Rattle.std.proofs.lemmas.List.Elements.{All-map, All-weaker, All-nil, All-cons}
use Rattle.formula_tree.specs.declared.Node.{Node}
use Rattle.format_rules.specs.declared.threshold.Cfvo.{Cfvo}
use Rattle.format_rules.specs.declared.threshold.Cfvo.TheVariants as cfvo
use Rattle.format_rules.specs.declared.threshold.ColorThreshold.{ColorThreshold}
use Rattle.format_rules.specs.declared.threshold.IconThreshold.{IconThreshold}
use Rattle.format_rules.specs.declared.rule.CfRule.{CfRule}
use Rattle.format_rules.specs.declared.rule.CfRule.TheVariants.{Formula, CellIs, ColorScale, DataBar, IconSet, IconRating}
use Rattle.format_rules.specs.RuleTrees.{CfvoHas, HasTrees, cfvo_passes, each_cfvo, own_trees_pass, each_tree, cfvo_changed, color_changed, icon_changed, trees_changed}

pub left : (a b : Bool) → a && b ≡ true → a ≡ true
left true b h = refl
left false b h = absurd (cc)

pub right : (a b : Bool) → a && b ≡ true → b ≡ true
right true b h = h
right false b h = absurd (cc)

pub both : (a b : Bool) → a ≡ true → b ≡ true → a && b ≡ true
both true b h i = i
both false b h i = absurd (cc)

-- ---- what holds of changed formulas

module _ (P Q : Node → Type 0) (change : Node → Node) (h : (tree : Node) → P tree → Q (change tree)) where
  cfvo_has : (c : Cfvo) → CfvoHas P c → CfvoHas Q (cfvo_changed change c)
  cfvo_has cfvo.Min has = tt
  cfvo_has cfvo.Max has = tt
  cfvo_has (cfvo.Number number) has = tt
  cfvo_has (cfvo.Percent number) has = tt
  cfvo_has (cfvo.Percentile number) has = tt
  cfvo_has (cfvo.Formula tree) has = h tree has

  bound_has : (o : Option Cfvo) → IfSome o (CfvoHas P) → IfSome (option_map (cfvo_changed change) o) (CfvoHas Q)
  bound_has None has = tt
  bound_has (Some c) has = cfvo_has c has

  second_has : (o : Option Node) → IfSome o P → IfSome (option_map change o) Q
  second_has None has = tt
  second_has (Some tree) has = h tree has

  colors_have : (xs : List ColorThreshold) → All (λ (x : ColorThreshold). CfvoHas P x.cfvo) xs → All (λ (x : ColorThreshold). CfvoHas Q x.cfvo)
      (map (color_changed change) xs)
  colors_have xs has =
      All-map (λ (x : ColorThreshold). CfvoHas Q x.cfvo) (color_changed change) xs
      (All-weaker (λ (x : ColorThreshold). CfvoHas P x.cfvo) (λ (x : ColorThreshold). CfvoHas Q (cfvo_changed change x.cfvo)) (λ x. cfvo_has x.cfvo) xs has)

  icons_have : (xs : List IconThreshold) → All (λ (x : IconThreshold). CfvoHas P x.cfvo) xs → All (λ (x : IconThreshold). CfvoHas Q x.cfvo)
      (map (icon_changed change) xs)
  icons_have xs has =
      All-map (λ (x : IconThreshold). CfvoHas Q x.cfvo) (icon_changed change) xs
      (All-weaker (λ (x : IconThreshold). CfvoHas P x.cfvo) (λ (x : IconThreshold). CfvoHas Q (cfvo_changed change x.cfvo)) (λ x. cfvo_has x.cfvo) xs has)

  -- what holds of each formula that was changed
  pub changed_have : (rule : CfRule) → HasTrees P rule → HasTrees Q (trees_changed change rule)
  changed_have (Formula formula style stop) has = h formula has
  changed_have (CellIs operator formula formula2 style stop) has = (h formula has.0, second_has formula2 has.1)
  changed_have (ColorScale thresholds) has = colors_have thresholds has
  changed_have (DataBar min max positive negative gradient show) has = (bound_has min has.0, bound_has max has.1)
  changed_have (IconSet icons thresholds show) has = icons_have thresholds has
  changed_have (IconRating icon color thresholds show) has = icons_have thresholds has

-- ---- a test that changed formulas pass as before

module _ (test : Node → Bool) (change : Node → Node) (same : (tree : Node) → test (change tree) ≡ test tree) where
  second_passes : (o : Option Node) → option_map_or test (option_map change o) true ≡ option_map_or test o true
  second_passes None = refl
  second_passes (Some tree) = same tree

  pub own_pass : (rule : CfRule) → own_trees_pass test (trees_changed change rule) ≡ own_trees_pass test rule
  own_pass (Formula formula style stop) = same formula
  own_pass (CellIs operator formula formula2 style stop) = λ i. same formula i && second_passes formula2 i
  own_pass (ColorScale thresholds) = refl
  own_pass (DataBar min max positive negative gradient show) = refl
  own_pass (IconSet icons thresholds show) = refl
  own_pass (IconRating icon color thresholds show) = refl

  cfvo_passes_still : (c : Cfvo) → cfvo_passes test (cfvo_changed change c) ≡ cfvo_passes test c
  cfvo_passes_still cfvo.Min = refl
  cfvo_passes_still cfvo.Max = refl
  cfvo_passes_still (cfvo.Number number) = refl
  cfvo_passes_still (cfvo.Percent number) = refl
  cfvo_passes_still (cfvo.Percentile number) = refl
  cfvo_passes_still (cfvo.Formula tree) = same tree

-- a test of thresholds that those with changed formulas pass as before
module _ (test : Cfvo → Bool) (change : Node → Node) (same : (c : Cfvo) → test (cfvo_changed change c) ≡ test c) where
  bound_passes : (o : Option Cfvo) → option_map_or test (option_map (cfvo_changed change) o) true ≡ option_map_or test o true
  bound_passes None = refl
  bound_passes (Some c) = same c

  colors_pass : (xs : List ColorThreshold) →
      list_all (λ (x : ColorThreshold). test x.cfvo) (map (color_changed change) xs) ≡ list_all (λ (x : ColorThreshold). test x.cfvo) xs
  colors_pass [] = refl
  colors_pass (x ∷ xs) = λ i. same x.cfvo i && colors_pass xs i

  icons_pass : (xs : List IconThreshold) →
      list_all (λ (x : IconThreshold). test x.cfvo) (map (icon_changed change) xs) ≡ list_all (λ (x : IconThreshold). test x.cfvo) xs
  icons_pass [] = refl
  icons_pass (x ∷ xs) = λ i. same x.cfvo i && icons_pass xs i

  pub thresholds_pass : (rule : CfRule) → each_cfvo test (trees_changed change rule) ≡ each_cfvo test rule
  thresholds_pass (Formula formula style stop) = refl
  thresholds_pass (CellIs operator formula formula2 style stop) = refl
  thresholds_pass (ColorScale thresholds) = colors_pass thresholds
  thresholds_pass (DataBar min max positive negative gradient show) = λ i. bound_passes min i && bound_passes max i
  thresholds_pass (IconSet icons thresholds show) = icons_pass thresholds
  thresholds_pass (IconRating icon color thresholds show) = icons_pass thresholds

-- where a test tells the same of each tree before and after, it tells the same of the rule
pub each_still : (test : Node → Bool) (change : Node → Node) → ((tree : Node) → test (change tree) ≡ test tree) → (rule : CfRule) →
    each_tree test (trees_changed change rule) ≡ each_tree test rule
each_still test change same rule = λ i. own_pass test change same rule i && thresholds_pass (cfvo_passes test) change
    (cfvo_passes_still test change same) rule i

-- ---- formulas that pass a test

module _ (test : Node → Bool) (P : Node → Type 0) (holds : (tree : Node) → test tree ≡ true → P tree) where
  cfvo_found : (c : Cfvo) → cfvo_passes test c ≡ true → CfvoHas P c
  cfvo_found cfvo.Min h = tt
  cfvo_found cfvo.Max h = tt
  cfvo_found (cfvo.Number number) h = tt
  cfvo_found (cfvo.Percent number) h = tt
  cfvo_found (cfvo.Percentile number) h = tt
  cfvo_found (cfvo.Formula tree) h = holds tree h

  bound_found : (o : Option Cfvo) → option_map_or (cfvo_passes test) o true ≡ true → IfSome o (CfvoHas P)
  bound_found None h = tt
  bound_found (Some c) h = cfvo_found c h

  second_found : (o : Option Node) → option_map_or test o true ≡ true → IfSome o P
  second_found None h = tt
  second_found (Some tree) h = holds tree h

  colors_found : (xs : List ColorThreshold) → list_all (λ (x : ColorThreshold). cfvo_passes test x.cfvo) xs ≡ true → All
      (λ (x : ColorThreshold). CfvoHas P x.cfvo) xs
  colors_found [] h = All-nil (λ (x : ColorThreshold). CfvoHas P x.cfvo)
  colors_found (x ∷ xs) h =
      All-cons (λ (x : ColorThreshold). CfvoHas P x.cfvo) x xs (cfvo_found x.cfvo (left (cfvo_passes test x.cfvo) _ h))
      (colors_found xs (right (cfvo_passes test x.cfvo) _ h))

  icons_found : (xs : List IconThreshold) → list_all (λ (x : IconThreshold). cfvo_passes test x.cfvo) xs ≡ true → All
      (λ (x : IconThreshold). CfvoHas P x.cfvo) xs
  icons_found [] h = All-nil (λ (x : IconThreshold). CfvoHas P x.cfvo)
  icons_found (x ∷ xs) h =
      All-cons (λ (x : IconThreshold). CfvoHas P x.cfvo) x xs (cfvo_found x.cfvo (left (cfvo_passes test x.cfvo) _ h))
      (icons_found xs (right (cfvo_passes test x.cfvo) _ h))

  -- where each formula passes a test, what the test tells holds of each
  pub each_found : (rule : CfRule) → each_tree test rule ≡ true → HasTrees P rule
  each_found (Formula formula style stop) h = holds formula (left (test formula) true h)
  each_found (CellIs operator formula formula2 style stop) h =
      let own = left (test formula && option_map_or test formula2 true) true h in
      (holds formula (left (test formula) _ own), second_found formula2 (right (test formula) _ own))
  each_found (ColorScale thresholds) h = colors_found thresholds h
  each_found (DataBar min max positive negative gradient show) h =
      (bound_found min (left (option_map_or (cfvo_passes test) min true) _ h), bound_found max (right (option_map_or (cfvo_passes test) min true) _ h))
  each_found (IconSet icons thresholds show) h = icons_found thresholds h
  each_found (IconRating icon color thresholds show) h = icons_found thresholds h
