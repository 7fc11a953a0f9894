-- What becomes of a conditional rule of the edited sheet, in the words of its parts and formulas.
use Rattle.std.specs.Prelude.{◌≡◌, List, [], ◌∷◌, Some, None}
use Rattle.base_values.specs.declared.Position.{Position}
use Rattle.base_axis.specs.declared.MergedCell.{MergedCell}
use Rattle.base_axis.specs.Rectangles.{anchor_place, last_place}
use Rattle.format_rules.specs.declared.ConditionalFormatting.{ConditionalFormatting}
use Rattle.format_rules.specs.Fitting.{place_of}
use Rattle.format_rules.specs.RuleTrees.{trees_changed}
use Rattle.line_routes.specs.MergedCells.{between}
use Rattle.line_routes.specs.Trees.{tree_carried}
use Rattle.line_routes.specs.RouteModel.{RouteModel, at, place_goes}

-- a part goes to the rectangle that has the images of its corners as opposite corners, and stays where one of them has no image
pub record PartFollows (w : RouteModel) (part there : MergedCell) : Type 0 where
  pub goes : (first last : Position) → place_goes w (anchor_place part) ≡ Some first → place_goes w (last_place part) ≡ Some last →
      there ≡ between first last
  pub first_lost : place_goes w (anchor_place part) ≡ None → there ≡ part
  pub last_lost : place_goes w (last_place part) ≡ None → there ≡ part

-- each part does, in their order, and none comes or goes
abbrev pub PartsFollow : RouteModel → List MergedCell → List MergedCell → Type 0
PartsFollow w [] [] = Unit {0}
PartsFollow w [] (there ∷ others) = ⊥
PartsFollow w (part ∷ parts) [] = ⊥
PartsFollow w (part ∷ parts) (there ∷ others) = PartFollows w part there × PartsFollow w parts others

-- each part follows. Each formula goes from the first place of the first part to the first place of that part afterwards, also where the
-- part stays: its corners are read from the place before, and its offsets are those from the place after
pub record RuleFollows (w : RouteModel) (formatting there : ConditionalFormatting) : Type 0 where
  pub parts : PartsFollow w formatting.parts there.parts
  pub formulas : (from to : Position) → place_of formatting.parts ≡ Some from → place_of there.parts ≡ Some to →
      there.rule ≡ trees_changed (tree_carried (at w from to)) formatting.rule
  pub priority : there.priority ≡ formatting.priority
