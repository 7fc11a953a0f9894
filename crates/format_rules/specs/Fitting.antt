-- Whether a rule may stand on a sheet.
use Rattle.std.specs.Prelude.{◌≡◌, Bool, true, ◌&&◌, ◌==◌, not, List, [], ◌∷◌, length, Option, Some, None}
use Rattle.std.specs.List.{All, list_all}
use Rattle.base_values.specs.declared.Position.{Position}
use Rattle.base_axis.specs.declared.MergedCell.{MergedCell}
use Rattle.base_axis.specs.Rectangles.{IsInside, anchor_place, is_inside}
use Rattle.cell_content.specs.Fitting.{tree_fits_at}
use Rattle.formula_tree.specs.declared.Node.{Node}
use Rattle.formula_tree.specs.Depth.{is_within}
use Rattle.formula_tree.specs.Numbers.{has_no_negative_number}
use Rattle.formula_tree.specs.Placed.{is_placed}
use Rattle.format_rules.specs.declared.rule.CfRule.{CfRule}
use Rattle.format_rules.specs.declared.formatting.ConditionalFormatting.{ConditionalFormatting}
use Rattle.format_rules.specs.RuleTrees.{HasTrees, each_tree}

-- the place of a rule's formulas: the first place of the first of its parts
abbrev pub place_of : List MergedCell → Option Position
place_of [] = None
place_of (first ∷ others) = Some (anchor_place first)

-- it stands on one part at least, and all its parts are inside the sheet
unfoldable pub has_parts : ConditionalFormatting → Bool
has_parts formatting = not (length formatting.parts == 0) && list_all is_inside formatting.parts

-- a tree may stand at a place; without one its depth and its number nodes alone are asked
abbrev pub tree_fits : Option Position → Node → Bool
tree_fits None tree = is_within 64 tree && has_no_negative_number tree
tree_fits (Some place) tree = tree_fits_at place tree

-- each formula may stand at the rule's place
abbrev pub has_fitting_trees : ConditionalFormatting → Bool
has_fitting_trees formatting = each_tree (tree_fits (place_of formatting.parts)) formatting.rule

-- a rule on these parts has a place, the parts are inside the sheet, and at the place each corner of its formulas is inside, with the
-- corners of each range in order
pub record RuleOn (parts : List MergedCell) (rule : CfRule) : Type 0 where
  pub place : Position
  pub first : place_of parts ≡ Some place
  pub inside : All IsInside parts
  pub trees : HasTrees (λ tree. is_placed place tree ≡ true) rule

abbrev pub RuleInside : ConditionalFormatting → Type 0
RuleInside formatting = RuleOn formatting.parts formatting.rule
