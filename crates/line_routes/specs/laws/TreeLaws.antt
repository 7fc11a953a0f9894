-- The law of followers for trees, and that what is carried along stays in the sheet.
use Rattle.std.proofs.Common.{◌≡◌, ℤ, pos, Bool, true, false, Option, Some, None, refl, ◌∙◌, arith}
use Rattle.std.specs.Prelude.{IfSome, ◌&&◌, if◌then◌else◌}
use Rattle.std.proofs.lemmas.Int.{ints}
use Rattle.base_values.specs.declared.Position.{Position}
use Rattle.base_values.specs.Places.{IsRow, IsColumn, IsPlace, is_line}
use Rattle.base_values.specs.CodedEq.{same_value}
use Rattle.base_values.specs.laws.CodedEq.{same_value_decides}
use Rattle.formula_tree.specs.declared.Corner.{Corner}
use Rattle.formula_tree.specs.declared.Node.{Node}
use Rattle.formula_tree.specs.contracts.node.Node.{the_row}
use Rattle.formula_tree.specs.Corners.{corner_row, corner_column, is_inside, corner_at}
use Rattle.formula_tree.specs.laws.CornerLaws.{corner_row-corner_to, corner_column-corner_to}
use Rattle.formula_tree.specs.Placed.{is_placed}
use Rattle.formula_tree.specs.laws.PlacedLaws.{placed-moved}
use Rattle.base_maps.specs.Carried.{if_there}
use Rattle.line_edits.specs.Moves.{place_image}
use Rattle.line_routes.specs.Trees.{corner_of, target, following, tree_carried, tree_part, TreeInside}
use Rattle.line_routes.specs.RouteModel.{RouteModel, IsRoute, back}
use Rattle.line_routes.specs.laws.TrialLaws.{trial_comes_back, trial_part}
use Rattle.line_edits.specs.laws.PlaceLaws.{image_inside}

inside_at : (b : Bool) (row column : ℤ) → (is_line (pos 1048576) row && is_line (pos 16384) column) ≡ b →
    IfSome (if b then Some (record { row = row; column = column }) else None) IsPlace
inside_at true row column h = ((grind (arith, ints), grind (arith, ints)), (grind (arith, ints), grind (arith, ints)))
inside_at false row column h = tt

corner_inside : (place : Position) (corner : Corner) → IfSome (corner_at place corner) IsPlace
unfolding corner_at is_inside
corner_inside place corner = inside_at _ (corner_row place corner) (corner_column place corner) refl

there_inside : (w : RouteModel) → IsRoute w → (o : Option Position) → IfSome o IsPlace → IfSome (if_there o (place_image w.along w.moves.to)) IsPlace
there_inside w is None h = tt
there_inside w is (Some place) h = image_inside w.along is.axis w.moves is.one_to_one place h

target_inside : (w : RouteModel) → IsRoute w → (exposed : Bool) (corner : Corner) → IfSome (target w exposed corner) IsPlace
unfolding target
target_inside w is true corner = there_inside w is (corner_at w.from corner) (corner_inside w.from corner)
target_inside w is false corner = corner_inside w.from corner

are_lines : (row column : ℤ) → IsRow row → IsColumn column → (is_line (pos 1048576) row && is_line (pos 16384) column) ≡ true
are_lines row column h i = let a = h.0 in let b = h.1 in let c = i.0 in let d = i.1 in grind (arith, ints)

-- a corner that lands on a place of the sheet is inside
pub landed : (to : Position) (corner : Corner) (o : Option Position) → IfSome o IsPlace →
    IfSome (if_there o (λ place. Some (corner_of to corner place))) (λ c. is_inside to c ≡ true)
unfolding is_inside
landed to corner None h = tt
landed to corner (Some place) h =
    (λ i. is_line (pos 1048576) (corner_row-corner_to to corner.absolute_row corner.absolute_column place i) && is_line (pos 16384)
    (corner_column-corner_to to corner.absolute_row corner.absolute_column place i))
    ∙ are_lines place.row place.column h.0 h.1

-- the corners of a tree that is carried along are inside the sheet, and those of each range are in order
pub tree_placed : (w : RouteModel) → IsRoute w → (tree : Node) → is_placed w.to (tree_carried w tree) ≡ true
unfolding tree_carried
tree_placed w is tree = placed-moved true w.from w.to (following w) (record {
  reference = λ sheet corner _. landed w.to corner _ (target_inside w is _ corner);
  first = λ sheet first second _. landed w.to first _ (target_inside w is _ first);
  second = λ sheet first second _. landed w.to second _ (target_inside w is _ second);
}) tree refl

pub tree_stays : (w : RouteModel) → IsRoute w → (tree : Node) → TreeInside (back w) (tree_carried w tree)
tree_stays w is tree = tree_placed w is tree

pub tree_comes_back : (w : RouteModel) (tree : Node) → tree_part w tree ≡ None → tree_carried (back w) (tree_carried w tree) ≡ tree
tree_comes_back w tree h = trial_comes_back (same_value the_row.coded) tree_carried (same_value_decides the_row.coded) w tree h

pub tree_restores : (w : RouteModel) (tree part : Node) → tree_part w tree ≡ Some part → part ≡ tree
tree_restores w tree part h = trial_part (same_value the_row.coded) tree_carried w tree part h
