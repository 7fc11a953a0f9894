-- An edit and its opposite give a formula back exactly where it has not to be kept.
use Rattle.std.proofs.Common.{◌≡◌, true, Option, Some, None, refl, ap, sym, ◌∙◌}
use Rattle.std.specs.Prelude.{not, is_some, is_none, if◌then◌else◌}
use Rattle.std.specs.Bool.{Decides}
use Rattle.std.proofs.lemmas.Bool.Decides.{Decides-like}
use Rattle.base_values.specs.declared.Position.{Position}
use Rattle.base_axis.specs.Along.{Along, IsAxis}
use Rattle.line_edits.specs.declared.EditKind.{EditKind}
use Rattle.line_edits.specs.Edit.{IsValid, opposite_of}
use Rattle.line_routes.specs.declared.tree_at.TreeAt.{TreeAt}
use Rattle.line_routes.specs.EditRoute.{edit_route}
use Rattle.formula_tree.specs.declared.Node.{Node}
use Rattle.line_routes.specs.contracts.tree_at.TreeAtPartialEq.TheImpl as equality
use Rattle.line_routes.specs.MustKeep.{must_keep_between, must_keep_tree, must_keep_at, there_and_back}
use Rattle.line_routes.specs.TreeAt.{tree_goes, tree_at_moved, tree_at_carried, tree_at_part, route_on_tree, route_of_tree, TreeAtInside}
use Rattle.line_routes.specs.Trees.{target, is_exposed, tree_carried}
use Rattle.line_routes.specs.Trial.{part_by_trial}
use Rattle.line_routes.specs.RouteModel.{RouteModel, IsRoute, back, place_goes}
use Rattle.line_routes.specs.laws.RouteLaws.{edit_is_route, goes_inverse}
use Rattle.line_routes.specs.laws.MustKeepLaws.{kept_exactly}
use Rattle.line_routes.specs.laws.TreeAtEquals.{tree_at_equals}
use Rattle.line_routes.specs.laws.TrialLaws.{trial_told}

-- the opposite of an edit carries along as the way back does
opposite_carries : (a : Along) (e : EditKind) (t : TreeAt) → tree_at_carried (edit_route a (opposite_of e)) t ≡ tree_at_carried (back (edit_route a e)) t
unfolding tree_at_carried tree_goes place_goes tree_carried target is_exposed
opposite_carries a e t = refl

module _ (w : RouteModel) (is : IsRoute w) (t : TreeAt) (lies : TreeAtInside t) where
  comes_from : (to : Position) → tree_goes w t ≡ Some to → tree_goes (back w) (record t { node = tree_carried (route_of_tree w t to) t.node; place = to })
      ≡ Some t.place
  unfolding tree_goes
  comes_from to h = (goes_inverse (route_on_tree w t) (record { axis = is.axis; one_to_one = is.one_to_one })).back t.place to h

  abbrev returned : TreeAt
  returned = tree_at_carried (back w) (tree_at_carried w t)

  node_back : Position → Node
  node_back to = tree_carried (back (route_of_tree w t to)) (tree_carried (route_of_tree w t to) t.node)

  returns : (to : Position) → tree_goes w t ≡ Some to → returned ≡ record t { node = node_back to }
  unfolding tree_at_carried node_back
  returns to h =
      ap (λ o. tree_at_moved (back w) (tree_at_moved w t o) (tree_goes (back w) (tree_at_moved w t o))) h
      ∙ ap (λ o. tree_at_moved (back w) (tree_at_moved w t (Some to)) o) (comes_from to h)

  node_told : (to : Position) → Decides (not (must_keep_between w t (Some to))) (node_back to ≡ t.node)
  unfolding node_back
  node_told to = kept_exactly (route_of_tree w t to) (record { axis = is.axis; one_to_one = is.one_to_one }) t.node lies.corners

  told_at : (to : Position) → tree_goes w t ≡ Some to → Decides (not (must_keep_between w t (Some to))) (returned ≡ t)
  told_at to h =
      Decides-like _ (λ s. returns to h ∙ (λ i. record t { node = s i })) (λ s. ap (λ (x : TreeAt). x.node) (sym (returns to h) ∙ s)) (node_told to)

  part_told : (o : Option Position) → tree_goes w t ≡ o → (if is_none o then Some t else part_by_trial equality.ghosts.eq tree_at_carried w t)
      ≡ (if must_keep_between w t o then Some t else None)
  part_told None h = refl
  part_told (Some to) h = trial_told equality.ghosts.eq tree_at_carried tree_at_equals w t (must_keep_between w t (Some to)) (told_at to h)

  -- what is kept of a tree is the tree, where it has to be kept
  pub tree_at_part_told : tree_at_part w t ≡ (if must_keep_tree w t then Some t else None)
  unfolding must_keep_tree
  tree_at_part_told = part_told (tree_goes w t) refl

  exact_at : (o : Option Position) → tree_goes w t ≡ o → is_some o ≡ true → Decides (not (must_keep_between w t o)) (returned.node ≡ t.node)
  exact_at None h some = absurd (cc)
  exact_at (Some to) h some =
      let same : returned.node ≡ node_back to = ap (λ (x : TreeAt). x.node) (returns to h) in
      Decides-like _ (λ s. same ∙ s) (λ s. sym same ∙ s) (node_told to)

pub kept_alone : (a : Along) → IsAxis a → (e : EditKind) → IsValid a.last e → (t : TreeAt) → TreeAtInside t → is_some (tree_goes (edit_route a e) t) ≡ true →
    Decides (not (must_keep_at a e t)) ((there_and_back a e t).node ≡ t.node)
unfolding must_keep_tree there_and_back
kept_alone a lawful e valid t lies survives =
    let w : RouteModel = edit_route a e in
    let opposite = ap (λ (x : TreeAt). x.node) (opposite_carries a e (tree_at_carried w t)) in
    Decides-like _ (λ s. opposite ∙ s) (λ s. sym opposite ∙ s) (exact_at w (edit_is_route a lawful e valid) t lies (tree_goes w t) refl survives)
