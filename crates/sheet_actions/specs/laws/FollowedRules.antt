-- The conditional rules of a sheet along a map on lines keep the rules of their sheet.
use Rattle.std.proofs.Common.{◌≡◌, Bool, true, false, not, suc, List, [], ◌∷◌, length, map, Option, Some, None, refl, ap, ◌∙◌}
use Rattle.std.specs.Prelude.{◌&&◌, ◌==◌, if◌then◌else◌}
use Rattle.std.specs.List.{list_all}
use Rattle.std.specs.Option.{option_map, option_map_or}
use Rattle.base_axis.specs.declared.MergedCell.{MergedCell}
use Rattle.base_axis.specs.Rectangles.{is_inside}
use Rattle.base_axis.specs.laws.RectangleLaws.{inside_found, inside_passes}
use Rattle.formula_tree.specs.declared.Node.{Node}
use Rattle.formula_tree.specs.Depth.{is_within}
use Rattle.formula_tree.specs.Numbers.{has_no_negative_number}
use Rattle.format_rules.specs.declared.Cfvo.{Cfvo}
use Rattle.format_rules.specs.declared.Cfvo.TheVariants as cfvo
use Rattle.format_rules.specs.declared.CfRule.{CfRule}
use Rattle.format_rules.specs.declared.CfRule.TheVariants.{Formula, CellIs, ColorScale, DataBar, IconSet, IconRating}
use Rattle.format_rules.specs.declared.ColorThreshold.{ColorThreshold}
use Rattle.format_rules.specs.declared.IconThreshold.{IconThreshold}
use Rattle.format_rules.specs.declared.ConditionalFormatting.{ConditionalFormatting}
use Rattle.format_rules.specs.Fitting.{place_of, has_parts, tree_fits, has_fitting_trees}
use Rattle.format_rules.specs.RuleTrees.{cfvo_passes, each_tree, cfvo_changed, color_changed, icon_changed, trees_changed}
use Rattle.format_rules.specs.laws.RuleTreeLaws.{left, right, both}
use Rattle.line_routes.specs.MergedCells.{merged_cell_carried}
use Rattle.line_routes.specs.Trees.{tree_carried}
use Rattle.line_routes.specs.RouteModel.{RouteModel, IsRoute}
use Rattle.line_routes.specs.laws.MergedCellLaws.{merged_cell_stays}
use Rattle.line_map.specs.Rules.{at_part, route_of_trees, formatting_moved, formatting_carried}
use Rattle.sheet_grid.specs.Sheet.{Sheet}
use Rattle.sheet_rules.specs.WellFormed.{have_rule_trees, have_rule_parts}
use Rattle.sheet_lines.specs.Followed.{sheet_followed}
use Rattle.sheet_actions.specs.laws.FollowedSheets.{within_carried, numbers_carried, tree_fits as tree_still_fits}

-- a test that each of a list still passes
pub all_follow : {X : Type 0} (P : X → Bool) (f : X → X) → ((x : X) → P x ≡ true → P (f x) ≡ true) → (xs : List X) → list_all P xs ≡ true → list_all P (map f xs) ≡ true
all_follow P f h [] all = refl
all_follow P f h (x ∷ xs) all =
    both (P (f x)) (list_all P (map f xs)) (h x (left (P x) (list_all P xs) all)) (all_follow P f h xs (right (P x) (list_all P xs) all))

-- ---- the formulas of a rule

-- where each tree that passes a test passes another one when it is changed, so do those of a rule
module _ (test later : Node → Bool) (change : Node → Node) (step : (tree : Node) → test tree ≡ true → later (change tree) ≡ true) where
  cfvo_follows : (c : Cfvo) → cfvo_passes test c ≡ true → cfvo_passes later (cfvo_changed change c) ≡ true
  cfvo_follows cfvo.Min h = refl
  cfvo_follows cfvo.Max h = refl
  cfvo_follows (cfvo.Number number) h = refl
  cfvo_follows (cfvo.Percent number) h = refl
  cfvo_follows (cfvo.Percentile number) h = refl
  cfvo_follows (cfvo.Formula tree) h = step tree h

  bound_follows : (o : Option Cfvo) → option_map_or (cfvo_passes test) o true ≡ true →
      option_map_or (cfvo_passes later) (option_map (cfvo_changed change) o) true ≡ true
  bound_follows None h = refl
  bound_follows (Some c) h = cfvo_follows c h

  second_follows : (o : Option Node) → option_map_or test o true ≡ true → option_map_or later (option_map change o) true ≡ true
  second_follows None h = refl
  second_follows (Some tree) h = step tree h

  colors_follow : (xs : List ColorThreshold) → list_all (λ (x : ColorThreshold). cfvo_passes test x.cfvo) xs ≡ true →
      list_all (λ (x : ColorThreshold). cfvo_passes later x.cfvo) (map (color_changed change) xs) ≡ true
  colors_follow [] h = refl
  colors_follow (x ∷ xs) h =
      both (cfvo_passes later (cfvo_changed change x.cfvo)) _ (cfvo_follows x.cfvo (left (cfvo_passes test x.cfvo) _ h))
      (colors_follow xs (right (cfvo_passes test x.cfvo) _ h))

  icons_follow : (xs : List IconThreshold) → list_all (λ (x : IconThreshold). cfvo_passes test x.cfvo) xs ≡ true →
      list_all (λ (x : IconThreshold). cfvo_passes later x.cfvo) (map (icon_changed change) xs) ≡ true
  icons_follow [] h = refl
  icons_follow (x ∷ xs) h =
      both (cfvo_passes later (cfvo_changed change x.cfvo)) _ (cfvo_follows x.cfvo (left (cfvo_passes test x.cfvo) _ h))
      (icons_follow xs (right (cfvo_passes test x.cfvo) _ h))

  trees_follow : (rule : CfRule) → each_tree test rule ≡ true → each_tree later (trees_changed change rule) ≡ true
  trees_follow (Formula formula style stop) h = both (later (change formula)) true (step formula (left (test formula) true h)) refl
  trees_follow (CellIs operator formula formula2 style stop) h =
      let own = left (test formula && option_map_or test formula2 true) true h in
      both (later (change formula) && option_map_or later (option_map change formula2) true) true
      (both (later (change formula)) (option_map_or later (option_map change formula2) true) (step formula (left (test formula) _ own))
      (second_follows formula2 (right (test formula) _ own))) refl
  trees_follow (ColorScale thresholds) h = colors_follow thresholds h
  trees_follow (DataBar min max positive negative gradient show) h =
      both (option_map_or (cfvo_passes later) (option_map (cfvo_changed change) min) true) _
      (bound_follows min (left (option_map_or (cfvo_passes test) min true) _ h)) (bound_follows max (right (option_map_or (cfvo_passes test) min true) _ h))
  trees_follow (IconSet icons thresholds show) h = icons_follow thresholds h
  trees_follow (IconRating icon color thresholds show) h = icons_follow thresholds h

module _ (w : RouteModel) (is : IsRoute w) where
  -- ---- one rule

  -- a tree of a rule without parts is as deep as before, with the same numbers
  shallow_follows : (tree : Node) → tree_fits None tree ≡ true → tree_fits None (tree_carried w tree) ≡ true
  shallow_follows tree h =
      both (is_within 64 (tree_carried w tree)) (has_no_negative_number (tree_carried w tree))
      (within_carried w 64 tree ∙ left (is_within 64 tree) (has_no_negative_number tree) h)
      (numbers_carried w tree ∙ right (is_within 64 tree) (has_no_negative_number tree) h)

  moved_trees : (parts : List MergedCell) (rule : CfRule) → each_tree (tree_fits (place_of parts)) rule ≡ true →
      each_tree (tree_fits (place_of (map (merged_cell_carried w) parts))) (trees_changed (tree_carried (route_of_trees w parts)) rule) ≡ true
  moved_trees [] rule h = trees_follow (tree_fits None) (tree_fits None) (tree_carried w) shallow_follows rule h
  moved_trees (first ∷ others) rule h =
      let there : RouteModel = at_part w first in
      trees_follow (tree_fits (Some there.from)) (tree_fits (Some there.to)) (tree_carried there)
      (tree_still_fits there (record { axis = is.axis; one_to_one = is.one_to_one })) rule h

  -- its formulas may stand where they go
  rule_trees_follow : (rule : ConditionalFormatting) → has_fitting_trees rule ≡ true → has_fitting_trees (formatting_carried w rule) ≡ true
  unfolding formatting_carried
  rule_trees_follow rule h = elim w.is_edited as (λ b. has_fitting_trees (if b then formatting_moved w rule else rule) ≡ true)
      [ true ↦ moved_trees rule.parts rule.rule h | false ↦ h ]

  part_follows : (part : MergedCell) → is_inside part ≡ true → is_inside (merged_cell_carried w part) ≡ true
  part_follows part h = inside_passes (merged_cell_carried w part) (merged_cell_stays w is part (inside_found part h))

  same_count : (parts : List MergedCell) → length (map (merged_cell_carried w) parts) ≡ length parts
  same_count [] = refl
  same_count (part ∷ parts) = ap suc (same_count parts)

  moved_parts : (rule : ConditionalFormatting) → has_parts rule ≡ true → has_parts (formatting_moved w rule) ≡ true
  unfolding has_parts
  moved_parts rule h =
      let moved : List MergedCell = map (merged_cell_carried w) rule.parts in
      both (not (length moved == 0)) (list_all is_inside moved)
      (ap (λ n. not (n == 0)) (same_count rule.parts) ∙ left (not (length rule.parts == 0)) (list_all is_inside rule.parts) h)
      (all_follow is_inside (merged_cell_carried w) part_follows rule.parts (right (not (length rule.parts == 0)) (list_all is_inside rule.parts) h))

  -- its parts are inside
  rule_parts_follow : (rule : ConditionalFormatting) → has_parts rule ≡ true → has_parts (formatting_carried w rule) ≡ true
  unfolding formatting_carried
  rule_parts_follow rule h = elim w.is_edited as (λ b. has_parts (if b then formatting_moved w rule else rule) ≡ true)
      [ true ↦ moved_parts rule h | false ↦ h ]

  -- ---- those of a sheet

  pub rule_trees_stay : (sheet : Sheet) → have_rule_trees sheet ≡ true → have_rule_trees (sheet_followed w sheet) ≡ true
  rule_trees_stay sheet h = all_follow has_fitting_trees (formatting_carried w) rule_trees_follow sheet.formattings h

  pub rule_parts_stay : (sheet : Sheet) → have_rule_parts sheet ≡ true → have_rule_parts (sheet_followed w sheet) ≡ true
  rule_parts_stay sheet h = all_follow has_parts (formatting_carried w) rule_parts_follow sheet.formattings h
