-- A formula has to be kept exactly where carrying it there and back does not give it.
use Rattle.std.specs.Prelude.{◌≡◌, ℕ, Bool, true, false, not, ◌&&◌, List, Option, Some, None, is_none, if◌then◌else◌}
use Rattle.std.proofs.Common.{refl, ap, sym, ◌∙◌, arith}
use Rattle.std.specs.Bool.{Decides}
use Rattle.base_values.specs.declared.Position.{Position}
use Rattle.base_values.specs.CodedEq.{same_value}
use Rattle.base_values.specs.laws.CodedEq.{same_value_decides}
use Rattle.base_tables.specs.declared.Error.TheVariants.{Ref}
use Rattle.base_maps.specs.Carried.{if_there}
use Rattle.formula_tree.specs.declared.Corner.{Corner}
use Rattle.formula_tree.specs.declared.Node.{Node}
use Rattle.formula_tree.specs.declared.Node.TheVariants as node
use Rattle.formula_tree.specs.declared.Node.TheOpen.{Node-F}
use Rattle.formula_tree.specs.contracts.node.Node.{the_row}
use Rattle.formula_tree.specs.Corners.{is_inside, are_in_order, lower_corner, higher_corner}
use Rattle.formula_tree.specs.laws.CornerLaws.{in_order-ordered, lower-in_order, higher-in_order}
use Rattle.formula_tree.specs.laws.MovedEquations.{moved_reference, moved_range, moved_colon, moved_error}
use Rattle.formula_tree.specs.Moved.{moved, reference_to, range_to}
use Rattle.formula_tree.specs.Placed.{is_placed_range}
use Rattle.formula_back.specs.laws.LeafLaws.{same_layers, TellsLeaves, tells_trees}
use Rattle.formula_back.specs.laws.StillLaws.{still_passes_none}
use Rattle.line_routes.specs.MustKeep.{keeps_reference, is_given_up, keeps_range, kept_leaves, must_keep}
use Rattle.line_routes.specs.Trees.{corner_of, is_exposed, is_on_edited, is_whole, moved_corner, following, tree_carried, tree_part, ComesBack, TreeInside}
use Rattle.line_routes.specs.RouteModel.{RouteModel, IsRoute, back, place_goes}
use Rattle.line_routes.specs.laws.CornersBack.{place_of, exposing, exposing_is_route, moved_goes, home, lower_there, higher_there, first_image}
use Rattle.line_routes.specs.laws.CornersBack.{lower_inside, higher_inside, lower_goes_back, higher_goes_back, lower_again, higher_again, order_stays}
use Rattle.line_routes.specs.laws.CornersBack.{whole_rows_stay, whole_columns_stay}
use Rattle.line_routes.specs.laws.TrialLaws.{trial_told}
use Rattle.line_routes.specs.laws.RouteLaws.{goes_inverse}

record IsPlacedRange (place : Position) (first second : Corner) : Type 0 where
  first_inside : is_inside place first ≡ true
  second_inside : is_inside place second ≡ true
  in_order : are_in_order place first second ≡ true

three : (a b c : Bool) → (a && b) && c ≡ true → (a ≡ true) × ((b ≡ true) × (c ≡ true))
three a b c h = (grind arith, (grind arith, grind arith))

placed_parts : (place : Position) (first second : Corner) → is_placed_range place first second ≡ true → IsPlacedRange place first second
unfolding is_placed_range
placed_parts place first second h =
    let parts = three (is_inside place first) (is_inside place second) (are_in_order place first second) h in
    record { first_inside = parts.0; second_inside = parts.1.0; in_order = parts.1.1 }

same_ranges : (sheet : Option (List ℕ)) (a b c d : Corner) → node.Range sheet a b ≡ node.Range sheet c d → (a ≡ c) × (b ≡ d)
same_ranges sheet a b c d e = let same = same_layers (Node-F.Range sheet a b) (Node-F.Range sheet c d) _ _ (node.rolls-Range sheet a b)
    (node.rolls-Range sheet c d) e in (cc, cc)

no_reference : {P : Type 0} (sheet : Option (List ℕ)) (corner : Corner) → node.Error Ref ≡ node.Reference sheet corner → P
no_reference sheet corner e = let same = same_layers (Node-F.Error Ref) (Node-F.Reference sheet corner) _ _ (node.rolls-Error Ref)
    (node.rolls-Reference sheet corner) e in absurd (cc)

no_range : {P : Type 0} (a b : Node) (sheet : Option (List ℕ)) (first second : Corner) → node.Colon a b ≡ node.Range sheet first second → P
no_range a b sheet first second e = let same = same_layers (Node-F.Colon a b) (Node-F.Range sheet first second) _ _ (node.rolls-Colon a b)
    (node.rolls-Range sheet first second) e in absurd (cc)

no_true : {P : Type 0} (b : Bool) → b ≡ true → not b ≡ true → P
no_true b h i = absurd (cc)

module _ (w : RouteModel) (is : IsRoute w) where
  -- a corner whose place goes nowhere is lost
  lost : (b : Bool) (corner : Corner) → is_inside w.from corner ≡ true → place_goes (exposing w b) (place_of w.from corner) ≡ None →
      moved_corner w b corner ≡ None
  lost b corner inside goes = moved_goes w b corner inside ∙ ap (λ o. if_there o (λ place. Some (corner_of w.to corner place))) goes

  found : (b : Bool) (corner : Corner) (q : Position) → is_inside w.from corner ≡ true → place_goes (exposing w b) (place_of w.from corner) ≡ Some q →
      moved_corner w b corner ≡ Some (corner_of w.to corner q)
  found b corner q inside goes = moved_goes w b corner inside ∙ ap (λ o. if_there o (λ place. Some (corner_of w.to corner place))) goes

  none_stay : {P : Type 0} (place : Position) → place_goes (exposing w false) place ≡ None → P
  unfolding place_goes
  none_stay place h = absurd (cc)

  -- ---- references

  module _ (sheet : Option (List ℕ)) (corner : Corner) (inside : is_inside w.from corner ≡ true) where
    abbrev reference_back : Bool → Node
    reference_back b = moved w.from (following (back w)) (reference_to sheet (moved_corner w b corner))

    reference_returns : (b : Bool) (q : Position) → is_on_edited w.is_edited w.edited sheet ≡ b → place_goes (exposing w b) (place_of w.from corner) ≡ Some q →
        reference_back b ≡ node.Reference sheet corner
    unfolding reference_to
    reference_returns b q on goes =
        ap (λ c. moved w.from (following (back w)) (reference_to sheet c)) (found b corner q inside goes)
        ∙ moved_reference w.from (following (back w)) sheet (corner_of w.to corner q)
        ∙ ap (λ x. reference_to sheet (moved_corner (back w) x (corner_of w.to corner q))) on
        ∙ ap (reference_to sheet) (home w b corner q (place_of w.from corner)
        (first_image w is b corner corner q q goes goes inside inside)
        ((goes_inverse (exposing w b) (exposing_is_route w is b)).back (place_of w.from corner) q goes) refl)

    reference_lost : moved_corner w true corner ≡ None → reference_back true ≡ node.Error Ref
    unfolding reference_to
    reference_lost h = ap (λ c. moved w.from (following (back w)) (reference_to sheet c)) h ∙ moved_error w.from (following (back w)) Ref

    reference_at : (b : Bool) → is_on_edited w.is_edited w.edited sheet ≡ b → (o : Option Position) → place_goes (exposing w b) (place_of w.from corner) ≡ o →
        Decides (not (b && is_none (moved_corner w true corner))) (reference_back b ≡ node.Reference sheet corner)
    reference_at true on (Some q) goes = (λ _. reference_returns true q on goes, λ _. ap (λ c. not (is_none c)) (found true corner q inside goes))
    reference_at false on (Some q) goes = (λ _. reference_returns false q on goes, λ _. refl)
    reference_at true on None goes =
        let gone = lost true corner inside goes in
        (λ h. no_true (is_none (moved_corner w true corner)) (ap is_none gone) h, λ s. no_reference sheet corner (sym (reference_lost gone) ∙ s))
    reference_at false on None goes = none_stay (place_of w.from corner) goes

    reference_told : Decides (not (keeps_reference w sheet corner)) (reference_back (is_on_edited w.is_edited w.edited sheet) ≡ node.Reference sheet corner)
    unfolding keeps_reference
    reference_told = reference_at (is_on_edited w.is_edited w.edited sheet) refl _ refl

  -- ---- ranges

  module _ (sheet : Option (List ℕ)) (first second : Corner) (placed : IsPlacedRange w.from first second) where
    abbrev range_there : Bool → Node
    range_there b = range_to w.to sheet (moved_corner w b first) (moved_corner w b second)

    abbrev range_back : Bool → Node
    range_back b = moved w.from (following (back w)) (range_there b)

    -- where both corners have images, the range goes to the one between them
    module _ (b : Bool) (r s : Position) (goes_first : place_goes (exposing w b) (place_of w.from first) ≡ Some r)
        (goes_second : place_goes (exposing w b) (place_of w.from second) ≡ Some s) where
      abbrev low : Corner
      low = lower_there w is b first second r s goes_first goes_second placed.first_inside placed.second_inside

      abbrev high : Corner
      high = higher_there w is b first second r s goes_first goes_second placed.first_inside placed.second_inside

      abbrev is_whole_there : Bool
      is_whole_there = is_whole w.along low high

      given_up : is_given_up w (moved_corner w b first) (moved_corner w b second) ≡ is_whole_there
      given_up = λ i. is_given_up w (found b first r placed.first_inside goes_first i) (found b second s placed.second_inside goes_second i)

      goes_and_comes : (e : Bool) → is_exposed w sheet low high ≡ e → range_back b ≡ range_to w.from sheet (moved_corner (back w) e low)
          (moved_corner (back w) e high)
      unfolding range_to is_exposed
      goes_and_comes e exposed =
          (λ i. moved w.from (following (back w)) (range_to w.to sheet (found b first r placed.first_inside goes_first i)
          (found b second s placed.second_inside goes_second i)))
          ∙ moved_range w.from (following (back w)) sheet low high
          ∙ ap (λ x. range_to w.from sheet (moved_corner (back w) x low) (moved_corner (back w) x high)) exposed

      -- it comes back where it is exposed then as it was
      range_returns : is_exposed w sheet low high ≡ b → range_back b ≡ node.Range sheet first second
      unfolding range_to
      range_returns exposed =
          goes_and_comes b exposed
          ∙ (λ i. range_to w.from sheet (lower_goes_back w is b first second r s goes_first goes_second placed.first_inside placed.second_inside i)
          (higher_goes_back w is b first second r s goes_first goes_second placed.first_inside placed.second_inside i))
          ∙ (λ i. node.Range sheet (lower_again w is b first second r s goes_first goes_second placed.first_inside placed.second_inside placed.in_order i)
          (higher_again w is b first second r s goes_first goes_second placed.first_inside placed.second_inside placed.in_order i))

      -- where it is whole then, it stays so
      abbrev low_back : Corner
      low_back = corner_of w.from low (place_of w.to low)

      abbrev high_back : Corner
      high_back = corner_of w.from high (place_of w.to high)

      stays_there : (corner : Corner) → is_inside w.to corner ≡ true →
          moved_corner (back w) false corner ≡ Some (corner_of w.from corner (place_of w.to corner))
      unfolding place_goes
      stays_there corner inside = moved_goes (back w) false corner inside

      in_order_back : are_in_order w.from low_back high_back ≡ true
      in_order_back = order_stays w.to w.from low high ∙ in_order-ordered w.to (corner_of w.to first r) (corner_of w.to second s)

      whole_returns : is_exposed w sheet low high ≡ false → range_back b ≡ node.Range sheet low_back high_back
      unfolding range_to
      whole_returns exposed =
          goes_and_comes false exposed
          ∙ (λ i. range_to w.from sheet
          (stays_there low (lower_inside w is b first second r s goes_first goes_second placed.first_inside placed.second_inside) i)
          (stays_there high (higher_inside w is b first second r s goes_first goes_second placed.first_inside placed.second_inside) i))
          ∙ (λ i. node.Range sheet (lower-in_order w.from low_back high_back in_order_back i) (higher-in_order w.from low_back high_back in_order_back i))

      whole_back : is_whole w.along low_back high_back ≡ is_whole_there
      whole_back = λ i. w.along.of (whole_rows_stay w.to w.from low high i) (whole_columns_stay w.to w.from low high i)

    abbrev was_whole : Bool
    was_whole = is_whole w.along first second

    exposed_parts : is_exposed w sheet first second ≡ true → (is_on_edited w.is_edited w.edited sheet ≡ true) × (was_whole ≡ false)
    unfolding is_exposed
    exposed_parts h = parts (is_on_edited w.is_edited w.edited sheet) was_whole h
      where
        parts : (a c : Bool) → a && not c ≡ true → (a ≡ true) × (c ≡ false)
        parts a c e = (grind arith, grind arith)

    exposed_of : (a b : Corner) (on whole : Bool) → is_on_edited w.is_edited w.edited sheet ≡ on → is_whole w.along a b ≡ whole →
        is_exposed w sheet a b ≡ on && not whole
    unfolding is_exposed
    exposed_of a b on whole e f = λ i. e i && not (f i)

    -- a range that isn't exposed stays where it stands
    still_exposed : (r s : Position) (f : place_goes (exposing w false) (place_of w.from first) ≡ Some r)
        (g : place_goes (exposing w false) (place_of w.from second) ≡ Some s) →
        is_exposed w sheet (low false r s f g) (high false r s f g) ≡ is_exposed w sheet first second
    unfolding place_goes is_exposed
    still_exposed r s f g =
        let is_first : place_of w.from first ≡ r = cc in
        let is_second : place_of w.from second ≡ s = cc in
        let there : Position → Corner = λ p. corner_of w.to first p in
        let c : Corner = corner_of w.to first (place_of w.from first) in
        let d : Corner = corner_of w.to second (place_of w.from second) in
        let ordered : are_in_order w.to c d ≡ true = order_stays w.from w.to first second ∙ placed.in_order in
        let lower : lower_corner w.to (corner_of w.to first r) (corner_of w.to second s) ≡ c =
        (λ i. lower_corner w.to (corner_of w.to first (sym is_first i)) (corner_of w.to second (sym is_second i))) ∙ lower-in_order w.to c d ordered in
        let higher : higher_corner w.to (corner_of w.to first r) (corner_of w.to second s) ≡ d =
        (λ i. higher_corner w.to (corner_of w.to first (sym is_first i)) (corner_of w.to second (sym is_second i))) ∙ higher-in_order w.to c d ordered in
        (λ i. is_exposed w sheet (lower i) (higher i))
        ∙ (λ i. is_on_edited w.is_edited w.edited sheet && not (w.along.of (whole_rows_stay w.from w.to first second i)
        (whole_columns_stay w.from w.to first second i)))

    first_lost : moved_corner w true first ≡ None → range_back true ≡ moved w.from (following (back w))
        (node.Colon (reference_to sheet None) (reference_to sheet (moved_corner w true second)))
    unfolding range_to
    first_lost h = ap (λ o. moved w.from (following (back w)) (range_to w.to sheet o (moved_corner w true second))) h

    second_lost : (c : Corner) → moved_corner w true first ≡ Some c → moved_corner w true second ≡ None →
        range_back true ≡ moved w.from (following (back w)) (node.Colon (reference_to sheet (Some c)) (reference_to sheet None))
    unfolding range_to
    second_lost c h i = λ j. moved w.from (following (back w)) (range_to w.to sheet (h j) (i j))

    abbrev Told : Bool → Type 0
    Told b = Decides (not (b && is_given_up w (moved_corner w true first) (moved_corner w true second))) (range_back b ≡ node.Range sheet first second)

    lost_told : (a b : Node) → is_given_up w (moved_corner w true first) (moved_corner w true second) ≡ true →
        range_back true ≡ moved w.from (following (back w)) (node.Colon a b) → Told true
    lost_told a b given e = (
      λ h. no_true (is_given_up w (moved_corner w true first) (moved_corner w true second)) given h,
      λ same. no_range _ _ sheet first second (sym (e ∙ moved_colon w.from (following (back w)) a b) ∙ same),
    )

    both_told : (r s : Position) (f : place_goes (exposing w true) (place_of w.from first) ≡ Some r)
        (g : place_goes (exposing w true) (place_of w.from second) ≡ Some s) →
        is_exposed w sheet first second ≡ true → (whole : Bool) → is_whole_there true r s f g ≡ whole → Told true
    both_told r s f g exposed false e = (
      λ _. range_returns true r s f g (exposed_of (low true r s f g) (high true r s f g) true false (exposed_parts exposed).0 e),
      λ _. ap not (given_up true r s f g ∙ e),
    )
    both_told r s f g exposed true e = (
      λ h. no_true (is_given_up w (moved_corner w true first) (moved_corner w true second)) (given_up true r s f g ∙ e) h,
      λ same.
          let was : was_whole ≡ false = (exposed_parts exposed).1 in
          let hidden = exposed_of (low true r s f g) (high true r s f g) true true (exposed_parts exposed).0 e in
          let corners = same_ranges sheet (low_back true r s f g) (high_back true r s f g) first second (sym (whole_returns true r s f g hidden) ∙ same) in
          let is_still : was_whole ≡ true = sym (λ i. is_whole w.along (corners.0 i) (corners.1 i))
          ∙ whole_back true r s f g ∙ e in
          absurd (cc),
    )

    range_at : (b : Bool) → is_exposed w sheet first second ≡ b → (o : Option Position) → place_goes (exposing w b) (place_of w.from first) ≡ o →
        (u : Option Position) → place_goes (exposing w b) (place_of w.from second) ≡ u → Told b
    range_at true exposed (Some r) f (Some s) g = both_told r s f g exposed _ refl
    range_at true exposed (Some r) f None g =
        let here = found true first r placed.first_inside f in
        let gone = lost true second placed.second_inside g in
        lost_told _ _ (λ i. is_given_up w (here i) (gone i)) (second_lost _ here gone)
    range_at true exposed None f u g =
        let gone = lost true first placed.first_inside f in
        lost_told _ _ (ap (λ o. is_given_up w o (moved_corner w true second)) gone) (first_lost gone)
    range_at false exposed (Some r) f (Some s) g = (λ _. range_returns false r s f g (still_exposed r s f g ∙ exposed), λ _. refl)
    range_at false exposed (Some r) f None g = none_stay (place_of w.from second) g
    range_at false exposed None f u g = none_stay (place_of w.from first) f

    range_told : Decides (not (keeps_range w sheet first second)) (range_back (is_exposed w sheet first second) ≡ node.Range sheet first second)
    unfolding keeps_range
    range_told = range_at (is_exposed w sheet first second) refl _ refl _ refl

  leaves_told : TellsLeaves w.from w.to (following w) (following (back w)) (kept_leaves w)
  leaves_told = record {
    reference = λ sheet corner inside. reference_told sheet corner inside;
    range = λ sheet first second placed. range_told sheet first second (placed_parts w.from first second placed);
    no_name = λ name. refl;
  }

  -- there and back gives a formula whose corners are inside and in order exactly where it has not to be kept
  pub kept_exactly : (tree : Node) → TreeInside w tree → Decides (not (must_keep w tree)) (ComesBack w tree)
  unfolding must_keep tree_carried
  kept_exactly tree lies = tells_trees w.from w.to (following w) (following (back w)) (kept_leaves w) leaves_told tree lies

  -- so what is kept of a tree is the tree, where it has to be kept
  pub part_by_corners : (tree : Node) → TreeInside w tree → tree_part w tree ≡ (if must_keep w tree then Some tree else None)
  part_by_corners tree lies =
      trial_told (same_value the_row.coded) tree_carried (same_value_decides the_row.coded) w tree (must_keep w tree) (kept_exactly tree lies)

-- ---- trees that stay

not_whole : (a b : Bool) → a && not b ≡ true → b ≡ false
not_whole a b h = grind arith

module _ (w : RouteModel) (sheet : Option (List ℕ)) where
  still_reference : (corner : Corner) (b : Bool) (o : Option Corner) → moved_corner w b corner ≡ o → reference_to sheet o ≡ node.Reference sheet corner →
      (b && is_none (moved_corner w true corner)) ≡ false
  unfolding reference_to
  still_reference corner true (Some c) goes same = ap is_none goes
  still_reference corner true None goes same = no_reference sheet corner same
  still_reference corner false o goes same = refl

  still_range : (first second : Corner) (b : Bool) → is_exposed w sheet first second ≡ b → (o p : Option Corner) → moved_corner w b first ≡ o →
      moved_corner w b second ≡ p → range_to w.to sheet o p ≡ node.Range sheet first second →
      (b && is_given_up w (moved_corner w true first) (moved_corner w true second)) ≡ false
  unfolding range_to is_exposed
  still_range first second true exposed (Some r) (Some s) f g same =
      let ends = same_ranges sheet (lower_corner w.to r s) (higher_corner w.to r s) first second same in
      (λ i. is_given_up w (f i) (g i))
      ∙ (λ i. is_whole w.along (ends.0 i) (ends.1 i))
      ∙ not_whole (is_on_edited w.is_edited w.edited sheet) (is_whole w.along first second) exposed
  still_range first second true exposed (Some r) None f g same = no_range _ _ sheet first second same
  still_range first second true exposed None p f g same = no_range _ _ sheet first second same
  still_range first second false exposed o p f g same = refl

-- a tree that stays as it is has not to be kept
pub still_is_not_kept : (w : RouteModel) (tree : Node) → tree_carried w tree ≡ tree → must_keep w tree ≡ false
unfolding must_keep tree_carried keeps_reference keeps_range
still_is_not_kept w tree = still_passes_none w.to (following w) (kept_leaves w) (record {
  reference = λ sheet corner. still_reference w sheet corner (is_on_edited w.is_edited w.edited sheet) _ refl;
  range = λ sheet first second. still_range w sheet first second (is_exposed w sheet first second) refl _ _ refl refl;
  no_name = λ name. refl;
}) tree

-- so nothing is kept of it
pub still_has_no_part : (w : RouteModel) → IsRoute w → (tree : Node) → TreeInside w tree → tree_carried w tree ≡ tree → tree_part w tree ≡ None
still_has_no_part w is tree lies still = part_by_corners w is tree lies ∙ ap (λ b. if b then Some tree else None) (still_is_not_kept w tree still)
