-- What stands at each key of a map that is carried along, and what goes back with what was kept.
use Rattle.std.proofs.Common.{◌≡◌, cond, Option, Some, None, refl, ap, ◌∙◌}
use Rattle.std.specs.Prelude.{is_some, is_none}
use Rattle.std.specs.declared.cmp.Ordering.{Ordering}
use Rattle.std.specs.Cmp.{IsTotalOrder}
use Rattle.std.proofs.lemmas.Map.Lookups.{CmpEqualImpliesEq}
use Rattle.std.specs.FinMap.{FinMap, get, same_map}
use Rattle.base_maps.specs.Carried.{Inverse, if_there, carried_map, moved_map, parts_map, lost_map, overlaid, settled}
use Rattle.base_maps.specs.laws.Gathering.{get-gathered, get-lost_map, get-overlaid}
use Rattle.base_maps.specs.laws.Inverses.{own_inverse, turned_inverse}

lost_or_there : {K X : Type 0} (t : Option K) (v : Option X) → cond (is_some (cond (is_none t) v None)) (cond (is_none t) v None) (cond (is_some t) v None) ≡ v
lost_or_there None None = refl
lost_or_there None (Some x) = refl
lost_or_there (Some q) v = refl

-- the lost entries of a map over those that came back are the map
pub laid_over : {K X : Type 0} (R : K → K → Ordering) → IsTotalOrder R → CmpEqualImpliesEq R → (to : K → Option K) (m returned : FinMap R X) →
    ((p : K) → get returned p ≡ cond (is_some (to p)) (get m p) None) → overlaid (lost_map to m) returned ≡ m
laid_over R total exact to m returned is = same_map total exact (overlaid (lost_map to m) returned) m (λ p.
    get-overlaid R total exact (lost_map to m) returned p
    ∙ (λ j. cond (is_some (get-lost_map R total exact to m p j)) (get-lost_map R total exact to m p j) (is p j))
    ∙ lost_or_there (to p) (get m p))

-- which parts are kept under a key
pub get-parts_map : {K X P : Type 0} (R : K → K → Ordering) (total : IsTotalOrder R) (exact : CmpEqualImpliesEq R) (to : K → Option K) (part : K → K → X → Option P) (m : FinMap R X) (p : K) → get (parts_map to part m) p ≡ if_there (get m p) (λ x. if_there (to p) (λ q. part p q x))
get-parts_map R total exact to part m p = get-gathered R total exact Some Some own_inverse (λ p _ x. if_there (to p) (λ q. part p q x)) m p

as_it_is : {X : Type 0} (v : Option X) → if_there v (λ x. Some x) ≡ v
as_it_is None = refl
as_it_is (Some x) = refl

module _ {K : Type 0} (R : K → K → Ordering) (total : IsTotalOrder R) (exact : CmpEqualImpliesEq R) (to from : K → Option K) (i : Inverse to from) where
  -- what a carried map has at a key
  pub get-carried_map : {X Y : Type 0} (carry : K → K → X → Y) (m : FinMap R X) (q : K) → get (carried_map to from carry m) q ≡ if_there (from q) (λ p. if_there (get m p) (λ x. Some (carry p q x)))
  get-carried_map carry m q = get-gathered R total exact to from i (λ p q x. Some (carry p q x)) m q

  pub get-moved_map : {X : Type 0} (m : FinMap R X) (q : K) → get (moved_map to from m) q ≡ if_there (from q) (get m)
  get-moved_map m q = get-carried_map (λ _ _ x. x) m q ∙ at_key (from q)
    where
      at_key : (s : Option K) → if_there s (λ p. if_there (get m p) (λ x. Some x)) ≡ if_there s (get m)
      at_key None = refl
      at_key (Some p) = as_it_is (get m p)

  module _ {X P : Type 0} (carry home : K → K → X → X) (restore : K → K → X → P → X) (parts : K → Option P) (m : FinMap R X) where
    -- each entry that goes somewhere settles to what it was
    abbrev pub Settles : Type 0
    Settles = (p q : K) (x : X) → to p ≡ Some q → get m p ≡ Some x → settled (home p q) (restore p q) (parts p) (carry p q x) ≡ x

    settled_value : (p q : K) (v : Option X) → get m p ≡ v → to p ≡ Some q → Settles → if_there (if_there v (λ x. Some (carry p q x))) (λ y. Some (settled (home p q) (restore p q) (parts p) y)) ≡ v
    settled_value p q None h there each = refl
    settled_value p q (Some x) h there each = ap Some (each p q x there h)

    abbrev gone : FinMap R X
    gone = carried_map to from carry m

    abbrev returned : FinMap R X
    returned = carried_map from to (λ q p x. settled (home p q) (restore p q) (parts p) x) gone

    returned_at : Settles → (p : K) (t : Option K) → to p ≡ t → if_there t (λ q. if_there (get gone q) (λ y. Some (settled (home p q) (restore p q) (parts p) y))) ≡ cond (is_some t) (get m p) None
    returned_at each p None h = refl
    returned_at each p (Some q) h =
        ap (λ v. if_there v (λ y. Some (settled (home p q) (restore p q) (parts p) y)))
        (get-carried_map carry m q ∙ ap (λ s. if_there s (λ p. if_there (get m p) (λ x. Some (carry p q x)))) (i.back p q h))
        ∙ settled_value p q (get m p) refl h each

    -- what goes back with what was kept is the map
    pub map_restores : Settles → overlaid (lost_map to m) returned ≡ m
    map_restores each = laid_over R total exact to m returned (λ p.
        get-gathered R total exact from to (turned_inverse i) (λ q p x. Some (settled (home p q) (restore p q) (parts p) x)) gone p ∙ returned_at each p (to p) refl)
