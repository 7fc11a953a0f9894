-- What holds of each entry of a map, and of the maps that are made of it.
use Rattle.std.proofs.Common.{◌≡◌, List, [], ◌∷◌, cond, true, false, Option, Some, None, refl, sym, subst, ◌∙◌}
use Rattle.std.specs.Prelude.{All, IfSome, is_some, is_none}
use Rattle.std.specs.List.{AllByRecursion}
use Rattle.std.specs.declared.cmp.Ordering.{Ordering}
use Rattle.std.specs.Ordering.{eq_by_cmp}
use Rattle.std.specs.Cmp.{IsTotalOrder}
use Rattle.std.proofs.lemmas.List.Elements.{recursion_from_All}
use Rattle.std.proofs.lemmas.Map.Lookups.{CmpEqualImpliesEq}
use Rattle.std.specs.FinMap.{FinMap, empty, entries, get, get-empty, get-entries}
use Rattle.std.specs.FinMap.Entries.{find}
use Rattle.base_maps.specs.Carried.{Inverse, if_there, gathered, lost_map, overlaid}
use Rattle.base_maps.specs.laws.Gathering.{get-gathered, get-lost_map, get-overlaid}
use Rattle.base_maps.specs.laws.Keys.{one_key}

abbrev pub Each : {K X : Type 0} {R : K → K → Ordering} → (K → X → Type 0) → FinMap R X → Type 0
Each P m = (k : _) → IfSome (get m k) (P k)

either : {X : Type 0} (P : X → Type 0) (o v : Option X) → IfSome o P → IfSome v P → IfSome (cond (is_some o) o v) P
either P None v h i = i
either P (Some x) v h i = h

-- what holds of a value, if there is one
pub holds_of : {X : Type 0} (P : X → Type 0) (o : Option X) → ((x : X) → o ≡ Some x → P x) → IfSome o P
holds_of P None all = tt
holds_of P (Some x) all = all x refl

module _ {K X : Type 0} (R : K → K → Ordering) where
  pub no_entry : (P : K → X → Type 0) → Each {R = R} P empty
  no_entry P k = subst (λ o. IfSome o (P k)) (sym (get-empty R k)) tt

  -- the same, by the entries that a map has
  pub each_found : (P : K → X → Type 0) (m : FinMap R X) → Each P m → (k : K) (x : X) → get m k ≡ Some x → P k x
  each_found P m all k x h = subst (λ o. IfSome o (P k)) h (all k)

  pub each_from : (P : K → X → Type 0) (m : FinMap R X) → ((k : K) (x : X) → get m k ≡ Some x → P k x) → Each P m
  each_from P m all k = holds_of (P k) (get m k) (all k)

  module _ (total : IsTotalOrder R) (exact : CmpEqualImpliesEq R) where
    found : (P : K → Type 0) (es : List (K × X)) → AllByRecursion (λ e. P e.0) es → (k : K) → IfSome (find R k es) (λ _. P k)
    found P [] all k = tt
    found P (e ∷ es) all k = elim (eq_by_cmp R k e.0) as (λ b. eq_by_cmp R k e.0 ≡ b → IfSome (cond b (Some e.1) (find R k es)) (λ _. P k))
        [ true ↦ λ same. subst P (sym (one_key R total exact k e.0 same)) all.0 | false ↦ λ apart. found P es all.1 k ] refl

    -- what holds of the keys in a map's list of entries
    pub keys_listed : (P : K → Type 0) (m : FinMap R X) → All (λ e. P e.0) (entries m) → (k : K) (x : X) → get m k ≡ Some x → P k
    keys_listed P m all k x h = subst (λ o. IfSome o (λ _. P k)) (sym (get-entries m k) ∙ h) (found P (entries m) (recursion_from_All (λ e. P e.0) (entries m) all) k)

    pub each_overlaid : (P : K → X → Type 0) (over m : FinMap R X) → Each P over → Each P m → Each P (overlaid over m)
    each_overlaid P over m a b k = subst (λ o. IfSome o (P k)) (sym (get-overlaid R total exact over m k)) (either (P k) (get over k) (get m k) (a k) (b k))

    pub each_lost : (P : K → X → Type 0) (to : K → Option K) (m : FinMap R X) → Each P m → Each P (lost_map to m)
    each_lost P to m all k = subst (λ o. IfSome o (P k)) (sym (get-lost_map R total exact to m k)) (elim (is_none (to k)) as (λ b. IfSome (cond b (get m k) None) (P k)) [ true ↦ all k | false ↦ tt ])

    pub keys_lost : (P : K → Type 0) (to : K → Option K) (m : FinMap R X) → ((k : K) (x : X) → get m k ≡ Some x → P k) → (k : K) (x : X) → get (lost_map to m) k ≡ Some x → P k
    keys_lost P to m all = each_found (λ k _. P k) (lost_map to m) (each_lost (λ k _. P k) to m (each_from (λ k _. P k) m all))

    pub each_gathered : {Y : Type 0} (P : K → Y → Type 0) (to from : K → Option K) → Inverse to from → (make : K → K → X → Option Y) (m : FinMap R X) →
        ((p q : K) (x : X) → to p ≡ Some q → get m p ≡ Some x → IfSome (make p q x) (P q)) → Each P (gathered to from make m)
    each_gathered {Y} P to from i make m all q = subst (λ o. IfSome o (P q)) (sym (get-gathered R total exact to from i make m q)) (by_source (from q) refl)
      where
        by_value : (p : K) → from q ≡ Some p → (v : Option X) → get m p ≡ v → IfSome (if_there v (make p q)) (P q)
        by_value p e None held = tt
        by_value p e (Some x) held = all p q x (i.forth p q e) held

        by_source : (s : Option K) → from q ≡ s → IfSome (if_there s (λ p. if_there (get m p) (make p q))) (P q)
        by_source None e = tt
        by_source (Some p) e = by_value p e (get m p) refl
