-- The law of followers for trees with their places.
use Rattle.std.proofs.Common.{◌≡◌, Option, Some, None, sym}
use Rattle.std.specs.Prelude.{IfSome, is_none, if◌then◌else◌}
use Rattle.base_values.specs.declared.Position.{Position}
use Rattle.base_values.specs.Places.{IsPlace}
use Rattle.line_routes.specs.declared.tree_at.TreeAt.{TreeAt}
use Rattle.line_routes.specs.contracts.tree_at.TreeAtPartialEq.TheImpl as equality
use Rattle.line_routes.specs.TreeAt.{tree_goes, route_on_tree, route_of_tree, tree_at_moved, tree_at_carried, tree_at_part, TreeAtInside}
use Rattle.line_routes.specs.RouteModel.{RouteModel, IsRoute, back}
use Rattle.line_routes.specs.laws.TreeAtEquals.{tree_at_equals}
use Rattle.line_routes.specs.laws.TreeLaws.{tree_placed}
use Rattle.line_routes.specs.laws.TrialLaws.{trial_comes_back, trial_part}
use Rattle.line_routes.specs.laws.RouteLaws.{goes_inside}

cell_inside : (w : RouteModel) → IsRoute w → (t : TreeAt) → IsPlace t.place → IfSome (tree_goes w t) IsPlace
unfolding tree_goes
cell_inside w is t h = goes_inside (route_on_tree w t) (record { axis = is.axis; one_to_one = is.one_to_one }) t.place h

moved_is_inside : (w : RouteModel) → IsRoute w → (t : TreeAt) → TreeAtInside t → (o : Option Position) → IfSome o IsPlace → TreeAtInside (tree_at_moved w t o)
moved_is_inside w is t lies None h = lies
moved_is_inside w is t lies (Some to) h = record {
  place = h;
  corners = tree_placed (route_of_tree w t to) (record { axis = is.axis; one_to_one = is.one_to_one }) t.node;
}

-- a tree that is carried along is inside
pub tree_at_stays : (w : RouteModel) → IsRoute w → (t : TreeAt) → TreeAtInside t → TreeAtInside (tree_at_carried w t)
unfolding tree_at_carried
tree_at_stays w is t lies = moved_is_inside w is t lies _ (cell_inside w is t lies.place)

-- what a value is kept for that goes nowhere, or else by trial
nothing_at : (t : TreeAt) (o : Option Position) (tried : Option TreeAt) → (if is_none o then Some t else tried) ≡ None → tried ≡ None
nothing_at t (Some to) tried h = h
nothing_at t None tried h = absurd (cc)

part_at : (t part : TreeAt) (o : Option Position) (tried : Option TreeAt) → (tried ≡ Some part → part ≡ t) →
    (if is_none o then Some t else tried) ≡ Some part → part ≡ t
part_at t part (Some to) tried found h = found h
part_at t part None tried found h = let same : t ≡ part = cc in sym same

pub tree_at_comes_back : (w : RouteModel) (t : TreeAt) → tree_at_part w t ≡ None → tree_at_carried (back w) (tree_at_carried w t) ≡ t
tree_at_comes_back w t h = trial_comes_back equality.ghosts.eq tree_at_carried tree_at_equals w t (nothing_at t (tree_goes w t) _ h)

pub tree_at_restores : (w : RouteModel) (t part : TreeAt) → tree_at_part w t ≡ Some part → part ≡ t
tree_at_restores w t part h = part_at t part (tree_goes w t) _ (trial_part equality.ghosts.eq tree_at_carried w t part) h
