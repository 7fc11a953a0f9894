-- Maps with the same entries under keys of another kind, where keys of both kinds have one order.
use Rattle.std.proofs.Common.{◌≡◌, Option, ap, subst, sym, ◌∙◌}
use Rattle.std.proofs.lemmas.Map.Lookups.{CmpEqualImpliesEq}
use Rattle.std.specs.declared.cmp.Ordering.{Ordering}
use Rattle.std.specs.Cmp.{IsTotalOrder}
use Rattle.std.specs.FinMap.{FinMap, empty, entries, get, keys, same_map}
use Rattle.base_maps.specs.laws.Gathering.{get-map_at, key_among, with_made}
use Rattle.line_map.specs.Keys.{rekeyed}

module _ {Q : Type 0} {R : Q → Q → Ordering} (total : IsTotalOrder R) (exact : CmpEqualImpliesEq R) {X : Type 0} where
  -- under keys of the same kind it is the map
  pub rekeyed_own : (m : FinMap R X) → rekeyed m ≡ m
  rekeyed_own m = same_map total exact (rekeyed m) m (λ q. get-map_at R total exact (get m) (keys m) q (λ x h. key_among R total exact m q x h))

  module _ {O S : Q → Q → Ordering} (own : O ≡ R) (other : O ≡ S) where
    pub rekeyed_listed : (m : FinMap S X) → entries (rekeyed {S = R} m) ≡ entries m
    rekeyed_listed = subst (λ T. (m : FinMap T X) → entries (rekeyed {S = R} m) ≡ entries m) (sym own ∙ other) (λ m. ap entries (rekeyed_own m))

    pub rekeyed_found : (m : FinMap S X) (k : Q) → get (rekeyed {S = R} m) k ≡ get m k
    rekeyed_found = subst (λ T. (m : FinMap T X) (k : Q) → get (rekeyed {S = R} m) k ≡ get m k) (sym own ∙ other) (λ m k. ap (λ n. get n k) (rekeyed_own m))

    pub rekeyed_none : rekeyed {X = X} {R = S} {S = R} empty ≡ empty
    rekeyed_none = subst (λ T. rekeyed {X = X} {R = T} {S = R} empty ≡ empty) (sym own ∙ other) (rekeyed_own empty)

    pub rekeyed_made : (e : Option (Q × X)) (m : FinMap S X) → rekeyed {S = R} (with_made e m) ≡ with_made e (rekeyed m)
    rekeyed_made = subst (λ T. (e : Option (Q × X)) (m : FinMap T X) → rekeyed {S = R} (with_made e m) ≡ with_made e (rekeyed m)) (sym own ∙ other)
        (λ e m. rekeyed_own (with_made e m) ∙ ap (with_made e) (sym (rekeyed_own m)))

    pub rekeyed_back : (m : FinMap S X) → rekeyed {R = R} {S = S} (rekeyed m) ≡ m
    rekeyed_back = subst (λ T. (m : FinMap T X) → rekeyed {R = R} {S = T} (rekeyed m) ≡ m) (sym own ∙ other) (λ m. rekeyed_own (rekeyed m) ∙ rekeyed_own m)

    -- what is kept of a map
    module _ {T : Type 0} (model : FinMap S X → T) (seen : T → FinMap S X) (seen_model : (m : FinMap S X) → seen (model m) ≡ m) (m : FinMap R X) where
      pub kept_back : rekeyed {S = R} (seen (model (rekeyed m))) ≡ m
      kept_back = ap (rekeyed {S = R}) (seen_model (rekeyed m))
          ∙ subst (λ T. rekeyed {R = T} {S = R} (rekeyed m) ≡ m) (sym own ∙ other) (rekeyed_own (rekeyed m) ∙ rekeyed_own m)

      pub get-kept : (p : Q) → get (seen (model (rekeyed m))) p ≡ get m p
      get-kept p = sym (rekeyed_found (seen (model (rekeyed m))) p) ∙ ap (λ n. get n p) kept_back
