-- A tree with its own place and the names of its sheet and of the edited one.
use Rattle.std.specs.Prelude.{◌≡◌, ℕ, true, List, Option, Some, None, is_none, if◌then◌else◌}
use Rattle.base_values.specs.declared.Position.{Position}
use Rattle.base_values.specs.Places.{IsPlace}
use Rattle.base_tables.specs.Folding.{same_folded}
use Rattle.formula_tree.specs.declared.Node.{Node}
use Rattle.formula_tree.specs.Placed.{is_placed}
use Rattle.line_routes.specs.declared.tree_at.TreeAt.{TreeAt}
use Rattle.line_routes.specs.contracts.tree_at.TreeAtPartialEq.TheImpl as equality
use Rattle.line_routes.specs.Trees.{tree_carried}
use Rattle.line_routes.specs.Trial.{part_by_trial}
use Rattle.line_routes.specs.RouteModel.{RouteModel, at, place_goes}

-- a tree at a place of a sheet with this name
abbrev pub tree_at : Node → List ℕ → Position → List ℕ → TreeAt
tree_at node sheet place edited = record { node = node; sheet = sheet; place = place; edited = edited }

-- how the map meets the tree's sheet: it is the edited one where their names are equal by folding
abbrev pub route_on_tree : RouteModel → TreeAt → RouteModel
route_on_tree w t = record w { edited = t.edited; is_edited = same_folded t.sheet t.edited }

-- how it meets the tree, whose cell goes to that place
abbrev pub route_of_tree : RouteModel → TreeAt → Position → RouteModel
route_of_tree w t to = at (route_on_tree w t) t.place to

-- where the tree's cell goes: on the edited sheet along the map
unfoldable pub tree_goes : RouteModel → TreeAt → Option Position
tree_goes w t = place_goes (route_on_tree w t) t.place

-- the tree carried along. It stays whole where its cell goes nowhere
abbrev pub tree_at_moved : RouteModel → TreeAt → Option Position → TreeAt
tree_at_moved w t None = t
tree_at_moved w t (Some to) = record t { node = tree_carried (route_of_tree w t to) t.node; place = to }

unfoldable pub tree_at_carried : RouteModel → TreeAt → TreeAt
tree_at_carried w t = tree_at_moved w t (tree_goes w t)

-- what is kept: the tree, where its cell goes nowhere, or the way back does not give it
abbrev pub tree_at_part : RouteModel → TreeAt → Option TreeAt
tree_at_part w t = if is_none (tree_goes w t) then Some t else part_by_trial equality.ghosts.eq tree_at_carried w t

-- its cell is one of the sheet, its corners are inside, and those of each range are in order
pub record TreeAtInside (t : TreeAt) : Type 0 where
  pub place : IsPlace t.place
  pub corners : is_placed t.place t.node ≡ true
