-- Rules that may stand on a sheet: they have a place, their parts are inside and their formulas are placed; and changed formulas have
-- canonical numbers where their trees do.
use Rattle.std.proofs.Common.{◌≡◌, Bool, true, List, [], ◌∷◌, length, refl, arith}
use Rattle.std.specs.Prelude.{◌&&◌, ◌==◌, not}
use Rattle.std.specs.List.{All, list_all}
use Rattle.std.proofs.lemmas.List.Elements.{All-nil, All-cons}
use Rattle.base_values.specs.declared.Position.{Position}
use Rattle.base_axis.specs.declared.MergedCell.{MergedCell}
use Rattle.base_axis.specs.Rectangles.{IsInside, anchor_place, is_inside}
use Rattle.base_axis.specs.laws.RectangleLaws.{inside_found}
use Rattle.cell_content.specs.Fitting.{tree_fits_at}
use Rattle.formula_tree.specs.declared.Node.{Node}
use Rattle.formula_tree.specs.Numbers as numbers
use Rattle.formula_tree.specs.Placed.{is_placed}
use Rattle.format_rules.specs.declared.threshold.Cfvo.{Cfvo}
use Rattle.format_rules.specs.declared.threshold.Cfvo.TheVariants as cfvo
use Rattle.format_rules.specs.declared.rule.CfRule.{CfRule}
use Rattle.format_rules.specs.declared.formatting.ConditionalFormatting.{ConditionalFormatting}
use Rattle.format_rules.specs.Canonical.{cfvo_is_canonical, has_canonical_numbers}
use Rattle.format_rules.specs.RuleTrees.{each_tree, cfvo_changed, trees_changed}
use Rattle.format_rules.specs.Fitting.{place_of, has_parts, tree_fits, has_fitting_trees, RuleOn, RuleInside}
use Rattle.format_rules.specs.laws.RuleTreeLaws.{left, right, each_found, each_still, thresholds_pass}

all_inside : (parts : List MergedCell) → list_all is_inside parts ≡ true → All IsInside parts
all_inside [] h = All-nil IsInside
all_inside (part ∷ parts) h =
    All-cons IsInside part parts (inside_found part (left (is_inside part) (list_all is_inside parts) h))
    (all_inside parts (right (is_inside part) (list_all is_inside parts) h))

first_of : (a b c : Bool) → a && b && c ≡ true → a ≡ true
first_of a b c all = grind arith

placed_where_fits : (place : Position) (tree : Node) → tree_fits_at place tree ≡ true → is_placed place tree ≡ true
unfolding tree_fits_at
placed_where_fits place tree h = first_of _ _ _ h

module _ (rule : CfRule) where
  stands_on : (parts : List MergedCell) → not (length parts == 0) && list_all is_inside parts ≡ true → each_tree (tree_fits (place_of parts)) rule ≡ true →
      RuleOn parts rule
  stands_on [] has fits = absurd (cc)
  stands_on (first ∷ others) has fits = record {
    place = anchor_place first;
    first = refl;
    inside = all_inside (first ∷ others) (right (not (length (first ∷ others) == 0)) (list_all is_inside (first ∷ others)) has);
    trees = each_found (tree_fits_at (anchor_place first)) (λ tree. is_placed (anchor_place first) tree ≡ true)
        (placed_where_fits (anchor_place first)) rule fits;
  }

-- a rule that passes both tests is inside the sheet
pub rule_inside : (formatting : ConditionalFormatting) → has_parts formatting ≡ true → has_fitting_trees formatting ≡ true → RuleInside formatting
unfolding has_parts
rule_inside formatting parts trees = stands_on formatting.rule formatting.parts parts trees

-- ---- numbers

cfvo_canonical_still : (change : Node → Node) (c : Cfvo) → cfvo_is_canonical (cfvo_changed change c) ≡ cfvo_is_canonical c
cfvo_canonical_still change cfvo.Min = refl
cfvo_canonical_still change cfvo.Max = refl
cfvo_canonical_still change (cfvo.Number number) = refl
cfvo_canonical_still change (cfvo.Percent number) = refl
cfvo_canonical_still change (cfvo.Percentile number) = refl
cfvo_canonical_still change (cfvo.Formula formula) = refl

-- a change that leaves the numbers of trees canonical leaves those of a rule so
pub canonical_still : (change : Node → Node) → ((n : Node) → numbers.has_canonical_numbers (change n) ≡ numbers.has_canonical_numbers n) → (rule : CfRule) →
    has_canonical_numbers (trees_changed change rule) ≡ has_canonical_numbers rule
canonical_still change same rule =
    λ i. thresholds_pass cfvo_is_canonical change (cfvo_canonical_still change) rule i && each_still numbers.has_canonical_numbers change same rule i
