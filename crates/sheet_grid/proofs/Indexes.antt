-- The map of what the entries of a map make, each at its own key.
use Rattle.std.proofs.Common.{◌≡◌, Bool, true, false, cond, T, ◌&&◌, List, [], ◌∷◌, map, Option, Some, None, refl, ap, sym, ◌∙◌}
use Rattle.std.specs.List.{filter_map, cons_option}
use Rattle.std.specs.declared.cmp.Ordering.{Ordering}
use Rattle.std.specs.Ordering.{eq_by_cmp, is_lt}
use Rattle.std.specs.Cmp.{IsTotalOrder}
use Rattle.std.proofs.lemmas.Map.Lookups.{CmpEqualImpliesEq}
use Rattle.std.specs.FinMap.Entries.{is_sorted, below_all}
use Rattle.std.specs.FinMap.{FinMap, empty, entries, entries_sorted, from_entries, from_sorted, entries-from_sorted, get, get-empty, get-from_entries, get-from_sorted, same_map}
use Rattle.base_values.specs.KeyMap.{with_entry}
use Rattle.base_values.specs.laws.KeyMap.{get-with_entry}
use Rattle.base_maps.specs.Carried.{entry_made, gathered, if_there}
use Rattle.base_maps.specs.laws.Gathering.{gathered_by_turns, get-gathered}
use Rattle.base_maps.specs.laws.Inverses.{own_inverse}
use Rattle.base_maps.specs.laws.Keys.{one_key}

left : (a b : Bool) → T (a && b) → T a
left true b h = tt
left false b h = absurd h

right : (a b : Bool) → T (a && b) → T b
right true b h = h
right false b h = absurd h

joined : (a b : Bool) → T a → T b → T (a && b)
joined true b g h = h
joined false b g h = absurd g

module _ {K X Y : Type 0} (R : K → K → Ordering) (make : K → X → Option Y) where
  abbrev output : K × X → Option (K × Y)
  output = entry_made Some (λ _ q x. make q x)

  -- what makes nothing leaves the others in order
  below_made : (p : K) (es : List (K × X)) → T (below_all R p es) → T (below_all R p (filter_map output es))
  below_made p [] h = tt
  below_made p (e ∷ es) h = more (make e.0 e.1) (below_made p es (right (is_lt (R p e.0)) (below_all R p es) h))
    where
      more : (y : Option Y) → T (below_all R p (filter_map output es)) → T (below_all R p (cons_option (if_there y (λ y. Some (e.0, y))) (filter_map output es)))
      more None rest = rest
      more (Some y) rest = joined (is_lt (R p e.0)) _ (left (is_lt (R p e.0)) (below_all R p es) h) rest

  sorted_made : (es : List (K × X)) → T (is_sorted R es) → T (is_sorted R (filter_map output es))
  sorted_made [] h = tt
  sorted_made (e ∷ es) h = more (make e.0 e.1) (sorted_made es (right (below_all R e.0 es) (is_sorted R es) h))
    where
      more : (y : Option Y) → T (is_sorted R (filter_map output es)) → T (is_sorted R (cons_option (if_there y (λ y. Some (e.0, y))) (filter_map output es)))
      more None rest = rest
      more (Some y) rest = joined (below_all R e.0 (filter_map output es)) _ (below_made e.0 es (left (below_all R e.0 es) (is_sorted R es) h)) rest

  values_made : (es : List (K × X)) → map (λ e. e.1) (filter_map output es) ≡ filter_map (λ e. make e.0 e.1) es
  values_made [] = refl
  values_made (e ∷ es) = more (make e.0 e.1) (values_made es)
    where
      more : (y : Option Y) → map (λ f. f.1) (filter_map output es) ≡ filter_map (λ f. make f.0 f.1) es
          → map (λ f. f.1) (cons_option (if_there y (λ y. Some (e.0, y))) (filter_map output es)) ≡ cons_option y (filter_map (λ f. make f.0 f.1) es)
      more None rest = rest
      more (Some y) rest = ap (λ ys. y ∷ ys) rest

  module _ (total : IsTotalOrder R) (exact : CmpEqualImpliesEq R) where
    -- each value that a map has makes one at its key
    get-index : (m : FinMap R X) (q : K) → get (gathered Some Some (λ _ q x. make q x) m) q ≡ if_there (get m q) (make q)
    get-index m q = get-gathered R total exact Some Some own_inverse (λ _ q x. make q x) m q

    pub index-empty : gathered Some Some (λ _ q x. make q x) (empty {X = X} {R = R}) ≡ empty
    index-empty = same_map total exact _ _ (λ q. get-index empty q ∙ ap (λ o. if_there o (make q)) (get-empty R q) ∙ sym (get-empty R q))

    -- an entry that is put puts what it makes
    pub index-put : (m : FinMap R X) (k : K) (w : Option X) → gathered Some Some (λ _ q x. make q x) (with_entry m k w) ≡ with_entry (gathered Some Some (λ _ q x. make q x) m) k (if_there w (make k))
    index-put m k w = same_map total exact _ _ (λ q.
        get-index (with_entry m k w) q ∙ ap (λ o. if_there o (make q)) (get-with_entry total m k w q) ∙ at_key q (eq_by_cmp R q k) refl
        ∙ ap (cond (eq_by_cmp R q k) (if_there w (make k))) (sym (get-index m q)) ∙ sym (get-with_entry total (gathered Some Some (λ _ q x. make q x) m) k (if_there w (make k)) q))
      where
        at_key : (q : K) (b : Bool) → eq_by_cmp R q k ≡ b → if_there (cond b w (get m q)) (make q) ≡ cond b (if_there w (make k)) (if_there (get m q) (make q))
        at_key q true same = ap (λ j. if_there w (make j)) (one_key R total exact q k same)
        at_key q false apart = refl

    from_made : (es : List (K × Y)) → T (is_sorted R es) → entries (from_entries {R = R} es) ≡ es
    from_made es h =
        ap entries (same_map total exact (from_entries es) (from_sorted es) (λ q. get-from_entries total es q ∙ sym (get-from_sorted R es q h)))
        ∙ entries-from_sorted R es h

    -- the values, in the order of their keys
    pub index-values : (m : FinMap R X) → map (λ e. e.1) (entries (gathered Some Some (λ _ q x. make q x) m)) ≡ filter_map (λ e. make e.0 e.1) (entries m)
    index-values m = ap (λ n. map (λ e. e.1) (entries n)) (sym (gathered_by_turns R total exact Some Some own_inverse (λ _ q x. make q x) m))
        ∙ ap (map (λ e. e.1)) (from_made (filter_map output (entries m)) (sorted_made (entries m) (entries_sorted m))) ∙ values_made (entries m)
