-- Which formulas a map on lines does not give back, told by their corners.
use Rattle.std.specs.Prelude.{◌≡◌, ℕ, Bool, true, false, ◌&&◌, List, Option, Some, None, is_none}
use Rattle.base_values.specs.declared.Position.{Position}
use Rattle.base_axis.specs.Along.{Along}
use Rattle.formula_tree.specs.declared.Corner.{Corner}
use Rattle.formula_tree.specs.declared.Node.{Node}
use Rattle.formula_tree.specs.Corners.{is_inside, lower_corner, higher_corner}
use Rattle.formula_tree.specs.Placed.{is_placed_range}
use Rattle.formula_back.specs.Leaves.{LeafTests, has_leaf}
use Rattle.line_edits.specs.declared.EditKind.{EditKind}
use Rattle.line_edits.specs.declared.EditKind.TheVariants.{Insert, Delete, Move}
use Rattle.line_edits.specs.Edit.{opposite_of}
use Rattle.line_routes.specs.declared.tree_at.TreeAt.{TreeAt}
use Rattle.line_routes.specs.EditRoute.{edit_route}
use Rattle.line_routes.specs.TreeAt.{tree_goes, tree_at_carried, route_of_tree}
use Rattle.line_routes.specs.Trees.{is_exposed, is_on_edited, is_whole, moved_corner}
use Rattle.line_routes.specs.RouteModel.{RouteModel}

-- a reference has to be kept where it is on the edited sheet and its place has no image
unfoldable pub keeps_reference : RouteModel → Option (List ℕ) → Corner → Bool
keeps_reference w sheet corner = is_on_edited w.is_edited w.edited sheet && is_none (moved_corner w true corner)

-- the corners of an exposed range give it up: one of them has no image, or their images make the range whole along the axis
abbrev pub is_given_up : RouteModel → Option Corner → Option Corner → Bool
is_given_up w (Some first) (Some second) = is_whole w.along (lower_corner w.to first second) (higher_corner w.to first second)
is_given_up w (Some first) None = true
is_given_up w None second = true

-- a range has to be kept where it is on the edited sheet, isn't whole along the axis, and is given up
unfoldable pub keeps_range : RouteModel → Option (List ℕ) → Corner → Corner → Bool
keeps_range w sheet first second = is_exposed w sheet first second && is_given_up w (moved_corner w true first) (moved_corner w true second)

-- no name has to be kept
abbrev pub kept_leaves : RouteModel → LeafTests
kept_leaves w = record { reference = keeps_reference w; range = keeps_range w; name = λ name. false }

-- a formula has to be kept where one of its references or ranges has to be
unfoldable pub must_keep : RouteModel → Node → Bool
must_keep w tree = has_leaf (kept_leaves w) tree

-- a move keeps a range for one reason only: it is exposed, both of its corners have images, and the range between these is whole along
-- the axis
pub record BecomesWhole (w : RouteModel) (sheet : Option (List ℕ)) (first second : Corner) : Type 0 where
  pub exposed : is_exposed w sheet first second ≡ true
  pub one : Corner
  pub other : Corner
  pub first_goes : moved_corner w true first ≡ Some one
  pub second_goes : moved_corner w true second ≡ Some other
  pub whole : is_whole w.along (lower_corner w.to one other) (higher_corner w.to one other) ≡ true

-- no reference whose place is inside has to be kept
abbrev pub KeepsNoReference : RouteModel → Type 0
KeepsNoReference w = (sheet : Option (List ℕ)) (corner : Corner) → is_inside w.from corner ≡ true → keeps_reference w sheet corner ≡ false

-- each range that has to be kept becomes whole, where its corners are inside and in order
abbrev pub KeepsRangesThatBecomeWhole : RouteModel → Type 0
KeepsRangesThatBecomeWhole w = (sheet : Option (List ℕ)) (first second : Corner) → is_placed_range w.from first second ≡ true →
    keeps_range w sheet first second ≡ true → BecomesWhole w sheet first second

-- the edit is a move
abbrev pub is_move : EditKind → Bool
is_move (Move first count delta) = true
is_move (Insert first count) = false
is_move (Delete first count) = false

-- likewise of a formula that names its own sheet and the edited one, by where its cell goes. One whose cell goes nowhere has to be kept
abbrev pub must_keep_between : RouteModel → TreeAt → Option Position → Bool
must_keep_between w t (Some to) = must_keep (route_of_tree w t to) t.node
must_keep_between w t None = true

unfoldable pub must_keep_tree : RouteModel → TreeAt → Bool
must_keep_tree w t = must_keep_between w t (tree_goes w t)

-- under an edit by itself
abbrev pub must_keep_at : Along → EditKind → TreeAt → Bool
must_keep_at a e t = must_keep_tree (edit_route a e) t

-- such a formula after an edit and its opposite
unfoldable pub there_and_back : Along → EditKind → TreeAt → TreeAt
there_and_back a e t = tree_at_carried (edit_route a (opposite_of e)) (tree_at_carried (edit_route a e) t)
