-- Trees of formulas, carried along with their cells.
use Rattle.std.proofs.Common.{◌≡◌, ℕ, Bool, true, List, Option, Some, None}
use Rattle.std.specs.Prelude.{not, ◌&&◌, if◌then◌else◌}
use Rattle.base_values.specs.declared.Position.{Position}
use Rattle.base_values.specs.CodedEq.{same_value}
use Rattle.base_axis.specs.Along.{Along}
use Rattle.base_tables.specs.Folding.{same_folded}
use Rattle.formula_tree.specs.declared.Corner.{Corner}
use Rattle.formula_tree.specs.declared.Node.{Node}
use Rattle.formula_tree.specs.contracts.node.Node.{the_row}
use Rattle.formula_tree.specs.Corners.{corner_at, corner_to, is_whole_rows, is_whole_columns}
use Rattle.formula_tree.specs.Moved.{Mapping, moved}
use Rattle.formula_tree.specs.Placed.{is_placed}
use Rattle.base_maps.specs.Carried.{if_there}
use Rattle.line_edits.specs.Moves.{place_image}
use Rattle.line_routes.specs.Trial.{part_by_trial}
use Rattle.line_routes.specs.RouteModel.{RouteModel, back}

-- the corner with the same marks that stands there, seen from a place
abbrev pub corner_of : Position → Corner → Position → Corner
corner_of to corner target = corner_to to corner.absolute_row corner.absolute_column target

-- where a corner comes to stand: an exposed one where its line goes, and any other where it stands
unfoldable pub target : RouteModel → Bool → Corner → Option Position
target w exposed corner = if exposed then if_there (corner_at w.from corner) (place_image w.along w.moves.to) else corner_at w.from corner

-- a range takes all lines of the axis
abbrev pub is_whole : Along → Corner → Corner → Bool
is_whole a first second = a.of (is_whole_rows first second) (is_whole_columns first second)

-- a reference or range is on the edited sheet: it names it, by folding, or names no sheet and stands on it
unfoldable pub is_on_edited : Bool → List ℕ → Option (List ℕ) → Bool
is_on_edited here edited (Some name) = same_folded name edited
is_on_edited here edited None = here

-- the corners of a range are exposed where it is on the edited sheet and isn't whole along the axis
unfoldable pub is_exposed : RouteModel → Option (List ℕ) → Corner → Corner → Bool
is_exposed w sheet first second = is_on_edited w.is_edited w.edited sheet && not (is_whole w.along first second)

-- a corner of a formula: its offsets are those from the new place
abbrev pub moved_corner : RouteModel → Bool → Corner → Option Corner
moved_corner w exposed corner = if_there (target w exposed corner) (λ place. Some (corner_of w.to corner place))

-- where the corners of a formula go
abbrev pub following : RouteModel → Mapping
following w = record {
  reference = λ sheet corner. moved_corner w (is_on_edited w.is_edited w.edited sheet) corner;
  first = λ sheet first second. moved_corner w (is_exposed w sheet first second) first;
  second = λ sheet first second. moved_corner w (is_exposed w sheet first second) second;
}

-- the tree of a formula
unfoldable pub tree_carried : RouteModel → Node → Node
tree_carried w tree = moved w.to (following w) tree

-- the way there and the way back give the tree
abbrev pub ComesBack : RouteModel → Node → Type 0
ComesBack w tree = tree_carried (back w) (tree_carried w tree) ≡ tree

-- what is kept of a tree: the tree itself, where the way back does not give it
abbrev pub tree_part : RouteModel → Node → Option Node
tree_part w tree = part_by_trial (same_value the_row.coded) tree_carried w tree

-- its corners are inside the sheet, and those of each range are in order
abbrev pub TreeInside : RouteModel → Node → Type 0
TreeInside w tree = is_placed w.from tree ≡ true
