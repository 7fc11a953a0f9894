-- What a range of a formula denotes before lines come or go, and what it denotes afterwards.
use Rattle.std.specs.Prelude.{◌≡◌, ℕ, ◌≤ℤ◌, Bool, true, false, List, Option, Some}
use Rattle.base_values.specs.declared.Position.{Position}
use Rattle.formula_tree.specs.declared.Corner.{Corner}
use Rattle.formula_tree.specs.declared.node.Node.{Node, fold-Node}
use Rattle.formula_tree.specs.declared.node.Node.TheVariants as node
use Rattle.formula_tree.specs.declared.node.Node.TheOpen as layer
use Rattle.formula_tree.specs.Corners.{corner_at}
use Rattle.formula_tree.specs.Moved.{move_layer}
use Rattle.line_edits.specs.declared.edit.EditKind.{EditKind}
use Rattle.line_edits.specs.declared.edit.EditKind.TheVariants.{Insert, Delete, Move}
use Rattle.line_edits.specs.Moves.{is_between, place_image}
use Rattle.line_routes.specs.Trees.{following, is_exposed, tree_carried}
use Rattle.line_routes.specs.RouteModel.{RouteModel, at, place_goes}

-- the edit is no move
abbrev pub is_insertion_or_deletion : EditKind → Bool
is_insertion_or_deletion (Insert first count) = true
is_insertion_or_deletion (Delete first count) = true
is_insertion_or_deletion (Move first count delta) = false

-- a range of a formula at a place denotes another place: its corners stand on the sheet, and the place stands from the row of one to the
-- row of the other, and likewise by column
pub record Denotes (formula : Position) (first second : Corner) (place : Position) : Type 0 where
  pub start : Position
  pub stop : Position
  pub first_stands : corner_at formula first ≡ Some start
  pub second_stands : corner_at formula second ≡ Some stop
  pub in_rows : is_between start.row stop.row place.row ≡ true
  pub in_columns : is_between start.column stop.column place.column ≡ true

-- the rectangle from one place down and to the right to another holds a place
pub record Holds (top_left bottom_right place : Position) : Type 0 where
  pub below : top_left.row ≤ℤ place.row
  pub above : place.row ≤ℤ bottom_right.row
  pub after : top_left.column ≤ℤ place.column
  pub before : place.column ≤ℤ bottom_right.column

-- a corner of the formula survives: it stands at a place, and this goes to an image
pub record Survives (w : RouteModel) (corner : Corner) : Type 0 where
  pub place : Position
  pub image : Position
  pub stands : corner_at w.from corner ≡ Some place
  pub goes : place_image w.along w.moves.to place ≡ Some image

-- the image of a surviving place of the range
pub record IsImage (w : RouteModel) (first second : Corner) (image : Position) : Type 0 where
  pub place : Position
  pub denoted : Denotes w.from first second place
  pub goes : place_image w.along w.moves.to place ≡ Some image

-- a node of a formula at a place is a range on that sheet, and denotes the least rectangle that holds these places: it denotes each of
-- them, and whatever it denotes is in every rectangle that holds them
pub record IsLeastRange (formula : Position) (sheet : Option (List ℕ)) (carried : Node) (P : Position → Type 0) : Type 0 where
  pub first : Corner
  pub second : Corner
  pub is_range : carried ≡ node.Range sheet first second
  pub denotes : (place : Position) → P place → Denotes formula first second place
  pub least : (top_left bottom_right : Position) → ((place : Position) → P place → Holds top_left bottom_right place) →
      (place : Position) → Denotes formula first second place → Holds top_left bottom_right place

-- a tree is carried along node by node
abbrev pub GoesByNodes : RouteModel → Type 0
GoesByNodes w = (from to : Position) (tree : Node) → tree_carried (at w from to) tree ≡ fold-Node Node (move_layer to (following (at w from to))) tree

-- what a range in a tree becomes
abbrev pub range_carried : RouteModel → Option (List ℕ) → Corner → Corner → Node
range_carried w sheet first second = move_layer w.to (following w) (layer.Range sheet first second)

-- of a formula that goes from a place to a place: a range that is on the edited sheet and isn't whole along the axis, and whose corners
-- survive, then denotes the least rectangle that holds the images of its surviving places
abbrev pub RangesHoldImages : RouteModel → Type 0
RangesHoldImages w =
    (from to : Position) → place_goes w from ≡ Some to →
    (sheet : Option (List ℕ)) (first second : Corner) → is_exposed (at w from to) sheet first second ≡ true →
    Survives (at w from to) first → Survives (at w from to) second →
    IsLeastRange to sheet (range_carried (at w from to) sheet first second) (IsImage (at w from to) first second)
