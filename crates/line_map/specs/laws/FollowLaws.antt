-- The law of conditional rules: each part goes to the images of its corners, and the formulas go with the first part.
use Rattle.std.proofs.Common.{◌≡◌, true, false, List, [], ◌∷◌, map, Option, Some, None, refl, ap, sym, subst, ◌∙◌}
use Rattle.std.specs.Prelude.{if◌then◌else◌}
use Rattle.base_values.specs.declared.Position.{Position}
use Rattle.base_axis.specs.declared.MergedCell.{MergedCell}
use Rattle.base_axis.specs.Rectangles.{anchor_place, last_place}
use Rattle.format_rules.specs.declared.CfRule.{CfRule}
use Rattle.format_rules.specs.declared.ConditionalFormatting.{ConditionalFormatting}
use Rattle.format_rules.specs.Fitting.{place_of}
use Rattle.format_rules.specs.RuleTrees.{trees_changed}
use Rattle.line_routes.specs.MergedCells.{moved_to, merged_cell_carried}
use Rattle.line_routes.specs.Trees.{tree_carried}
use Rattle.line_routes.specs.RouteModel.{RouteModel, at, place_goes}
use Rattle.line_map.specs.Follows.{PartFollows, PartsFollow, RuleFollows}
use Rattle.line_map.specs.Rules.{route_of_trees, formatting_moved, formatting_carried}

-- a rectangle whose last corner is lost stays
last_is_lost : (cell : MergedCell) (first : Option Position) → moved_to cell first None ≡ cell
last_is_lost cell None = refl
last_is_lost cell (Some place) = refl

part_follows : (w : RouteModel) (part : MergedCell) → PartFollows w part (merged_cell_carried w part)
unfolding merged_cell_carried
part_follows w part = record {
  goes = λ first last p q i. moved_to part (p i) (q i);
  first_lost = λ h i. moved_to part (h i) (place_goes w (last_place part));
  last_lost = λ h. ap (moved_to part (place_goes w (anchor_place part))) h ∙ last_is_lost part (place_goes w (anchor_place part));
}

parts_follow : (w : RouteModel) (parts : List MergedCell) → PartsFollow w parts (map (merged_cell_carried w) parts)
parts_follow w [] = tt
parts_follow w (part ∷ parts) = (part_follows w part, parts_follow w parts)

formulas_follow : (w : RouteModel) (parts : List MergedCell) (rule : CfRule) (from to : Position) → place_of parts ≡ Some from →
    place_of (map (merged_cell_carried w) parts) ≡ Some to →
    trees_changed (tree_carried (route_of_trees w parts)) rule ≡ trees_changed (tree_carried (at w from to)) rule
formulas_follow w [] rule from to p q = absurd (none p)
  where
    none : place_of [] ≡ Some from → ⊥
    none h = cc
formulas_follow w (first ∷ others) rule from to p q =
    λ i. trees_changed (tree_carried (at w (one (anchor_place first) from p i) (one (anchor_place (merged_cell_carried w first)) to q i))) rule
  where
    one : (a b : Position) → Some a ≡ Some b → a ≡ b
    one a b h = cc

moved_follows : (w : RouteModel) (formatting : ConditionalFormatting) → RuleFollows w formatting (formatting_moved w formatting)
moved_follows w formatting = record {
  parts = parts_follow w formatting.parts;
  formulas = formulas_follow w formatting.parts formatting.rule;
  priority = refl;
}

-- a rule of the edited sheet follows
pub formatting_follows : (w : RouteModel) → w.is_edited ≡ true → (formatting : ConditionalFormatting) → RuleFollows w formatting (formatting_carried w formatting)
unfolding formatting_carried
formatting_follows w edited formatting =
    subst (RuleFollows w formatting) (sym (ap (λ b. if b then formatting_moved w formatting else formatting) edited)) (moved_follows w formatting)

-- a rule of another sheet stays
pub formatting_elsewhere : (w : RouteModel) → w.is_edited ≡ false → (formatting : ConditionalFormatting) → formatting_carried w formatting ≡ formatting
unfolding formatting_carried
formatting_elsewhere w other formatting = ap (λ b. if b then formatting_moved w formatting else formatting) other
