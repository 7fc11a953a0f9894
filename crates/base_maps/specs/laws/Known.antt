-- What is known of each value of a map holds of its entries, and entries in order are those of the map that they make.
use Rattle.std.proofs.Common.{◌≡◌, Bool, true, false, cond, T, List, [], ◌∷◌, Option, Some, refl, ap, sym, subst, ◌∙◌}
use Rattle.std.specs.Prelude.{IfSome}
use Rattle.std.proofs.lemmas.Map.Lookups.{CmpEqualImpliesEq}
use Rattle.std.specs.declared.cmp.Ordering.{Ordering}
use Rattle.std.specs.Cmp.{IsTotalOrder, tied_itself}
use Rattle.std.specs.List.{AllByRecursion}
use Rattle.std.specs.Ordering.{is_eq, eq_by_cmp}
use Rattle.std.specs.FinMap.{FinMap, entries, entries_sorted, from_entries, get, get-entries, get-from_entries, find, is_sorted}
use Rattle.std.specs.FinMap.Entries as order
use Rattle.base_maps.specs.laws.Keys.{first_once, sorted_rest, one_key}

holds : (b : Bool) → T b → b ≡ true
holds true h = refl
holds false h = absurd h

-- what holds of each entry's value holds of the one that is found
pub found_known : {K X : Type 0} (R : K → K → Ordering) (P : X → Type 0) (es : List (K × X)) → AllByRecursion (λ e. P e.1) es → (q : K) → IfSome (find R q es) P
found_known R P [] all q = tt
found_known R P (e ∷ es) all q = elim (eq_by_cmp R q e.0) as (λ b. IfSome (cond b (Some e.1) (find R q es)) P) [ true ↦ all.0 | false ↦ found_known R P es all.1 q ]

-- what holds of each entry's value holds of the value at each key
pub values_known : {K X : Type 0} {R : K → K → Ordering} (P : X → Type 0) (m : FinMap R X) → AllByRecursion (λ e. P e.1) (entries m) → (q : K) → IfSome (get m q) P
values_known {X = X} {R = R} P m all q = subst (λ (o : Option X). IfSome o P) (sym (get-entries m q)) (found_known R P (entries m) all q)

module _ {K X : Type 0} (R : K → K → Ordering) (total : IsTotalOrder R) (exact : CmpEqualImpliesEq R) where
  module _ (P : X → Type 0) where
    later : (e : K × X) (es : List (K × X)) → is_sorted R (e ∷ es) ≡ true → (q : K) (b : Bool) → eq_by_cmp R q e.0 ≡ b → IfSome (cond b (Some e.1) (find R q es)) P → IfSome (find R q es) P
    later e es rises q true same h =
        subst (λ (k : K). IfSome (find R k es) P) (sym (one_key R total exact q e.0 same)) (subst (λ (o : Option X). IfSome o P) (sym (first_once R e es rises)) tt)
    later e es rises q false same h = h

    each_known : (es : List (K × X)) → is_sorted R es ≡ true → ((q : K) → IfSome (find R q es) P) → AllByRecursion (λ e. P e.1) es
    each_known [] rises known = tt
    each_known (e ∷ es) rises known =
        let here : find R e.0 (e ∷ es) ≡ Some e.1 = ap (λ (o : Ordering). cond (is_eq o) (Some e.1) (find R e.0 es)) (tied_itself total e.0) in (
          subst (λ (o : Option X). IfSome o P) here (known e.0),
          each_known es (sorted_rest R e es rises) (λ q. later e es rises q (eq_by_cmp R q e.0) refl (known q)),
        )

    -- what holds of the value at each key holds of each entry's
    pub entries_known : (m : FinMap R X) → ((q : K) → IfSome (get m q) P) → AllByRecursion (λ e. P e.1) (entries m)
    entries_known m known = each_known (entries m) (holds (is_sorted R (entries m)) (entries_sorted m)) (λ q. subst (λ (o : Option X). IfSome o P) (get-entries m q) (known q))

  -- entries in order are those of the map that they make
  pub entries_again : (es : List (K × X)) → is_sorted R es ≡ true → entries (from_entries {R = R} es) ≡ es
  entries_again es h =
      order.same_entries R total exact (entries (from_entries {R = R} es)) es (entries_sorted (from_entries es)) (subst T (sym h) tt)
      (λ q. sym (get-entries (from_entries es) q) ∙ get-from_entries total es q)
