-- Maps whose values are made of those of another map, key by key, and lists of what their entries make.
use Rattle.std.proofs.Common.{◌≡◌, Bool, true, false, cond, ◌&&◌, List, [], ◌∷◌, ◌++◌, map, Option, Some, None, option_map, refl, ap, sym, subst, ◌∙◌, T}
use Rattle.std.specs.List.{filter_map, cons_option, AllByRecursion}
use Rattle.std.specs.Option.{option_and_then}
use Rattle.std.specs.Cmp.{IsTotalOrder}
use Rattle.std.specs.declared.cmp.Ordering.{Ordering}
use Rattle.std.specs.Ordering.{is_lt, is_eq, eq_by_cmp}
use Rattle.std.specs.FinMap.{FinMap, entries, entries_sorted, get, get-entries, get-from_entries, from_entries, from_sorted, get-from_sorted, entries-from_sorted, same_map}
use Rattle.std.specs.FinMap.Entries.{find, is_sorted, below_all}
use Rattle.std.proofs.lemmas.Map.Lookups.{CmpEqualImpliesEq}
use Rattle.base_maps.specs.laws.Keys.{one_key, first_once, sorted_rest}
use Rattle.sheet_rules.specs.laws.EntryLaws.{both}

module _ {K X Y : Type 0} (R : K → K → Ordering) (total : IsTotalOrder R) (exact : CmpEqualImpliesEq R) (f : K → X → Y) where
  -- each entry with the value that is made of it
  abbrev pub mapped : List (K × X) → List (K × Y)
  mapped es = map (λ e. (e.0, f e.0 e.1)) es

  find-mapped : (es : List (K × X)) (q : K) → find R q (mapped es) ≡ option_map (f q) (find R q es)
  find-mapped [] q = refl
  find-mapped (e ∷ es) q = here (find-mapped es q) (eq_by_cmp R q e.0) refl
    where
      here : find R q (mapped es) ≡ option_map (f q) (find R q es) → (b : Bool) → eq_by_cmp R q e.0 ≡ b
          → cond b (Some (f e.0 e.1)) (find R q (mapped es)) ≡ option_map (f q) (cond b (Some e.1) (find R q es))
      here rest true is = ap (λ k. Some (f k e.1)) (sym (one_key R total exact q e.0 is))
      here rest false is = rest

  below-mapped : (k : K) (es : List (K × X)) → below_all R k (mapped es) ≡ below_all R k es
  below-mapped k [] = refl
  below-mapped k (e ∷ es) = ap (λ b. is_lt (R k e.0) && b) (below-mapped k es)

  sorted-mapped : (es : List (K × X)) → is_sorted R (mapped es) ≡ is_sorted R es
  sorted-mapped [] = refl
  sorted-mapped (e ∷ es) = λ i. below-mapped e.0 es i && sorted-mapped es i

  -- what the map of these entries has at a key
  pub get-mapped : (m : FinMap R X) (q : K) → get (from_entries {R = R} (mapped (entries m))) q ≡ option_map (f q) (get m q)
  get-mapped m q = get-from_entries total (mapped (entries m)) q ∙ find-mapped (entries m) q ∙ ap (option_map (f q)) (sym (get-entries m q))

  in_order : (m : FinMap R X) → T (is_sorted R (mapped (entries m)))
  in_order m = subst T (sym (sorted-mapped (entries m))) (entries_sorted m)

  -- and its entries
  pub entries-mapped : (m : FinMap R X) → entries (from_entries {R = R} (mapped (entries m))) ≡ mapped (entries m)
  entries-mapped m =
      ap entries (same_map total exact (from_entries (mapped (entries m))) (from_sorted (mapped (entries m)))
      (λ q. get-from_entries total (mapped (entries m)) q ∙ sym (get-from_sorted R (mapped (entries m)) q (in_order m))))
      ∙ entries-from_sorted R (mapped (entries m)) (in_order m)

-- entries under other keys in the same order, some of them
module _ {K L X Y : Type 0} (R : K → K → Ordering) (S : L → L → Ordering) (total : IsTotalOrder R) (exact : CmpEqualImpliesEq R)
    (tag : K → L) (order : (a b : K) → S (tag a) (tag b) ≡ R a b) (make : K → X → Option Y) where
  -- what entries make, under those keys
  abbrev pub tagged_entry : K × X → Option (L × Y)
  tagged_entry e = option_map (λ y. (tag e.0, y)) (make e.0 e.1)

  abbrev pub tagged : List (K × X) → List (L × Y)
  tagged es = filter_map tagged_entry es

  -- what is found at such a key
  pub find-tagged : (es : List (K × X)) → is_sorted R es ≡ true → (q : K) → find S (tag q) (tagged es) ≡ option_and_then (make q) (find R q es)
  find-tagged [] sorted q = refl
  find-tagged (e ∷ es) sorted q = here (find-tagged es (sorted_rest R e es sorted) q) (eq_by_cmp R q e.0) refl (make e.0 e.1) refl
    where
      tie : eq_by_cmp S (tag q) (tag e.0) ≡ eq_by_cmp R q e.0
      tie = ap is_eq (order q e.0)

      here : find S (tag q) (tagged es) ≡ option_and_then (make q) (find R q es) → (b : Bool) → eq_by_cmp R q e.0 ≡ b → (o : Option Y) → make e.0 e.1 ≡ o
          → find S (tag q) (cons_option (option_map (λ y. (tag e.0, y)) o) (tagged es)) ≡ option_and_then (make q) (cond b (Some e.1) (find R q es))
      here rest true is None makes =
          let one : q ≡ e.0 = one_key R total exact q e.0 is in
          rest ∙ ap (option_and_then (make q)) (ap (λ k. find R k es) one ∙ first_once R e es sorted) ∙ sym (ap (λ k. make k e.1) one ∙ makes)
      here rest true is (Some y) makes =
          let one : q ≡ e.0 = one_key R total exact q e.0 is in
          ap (λ b. cond b (Some y) (find S (tag q) (tagged es))) (tie ∙ is) ∙ sym (ap (λ k. make k e.1) one ∙ makes)
      here rest false is None makes = rest
      here rest false is (Some y) makes = ap (λ b. cond b (Some y) (find S (tag q) (tagged es))) (tie ∙ is) ∙ rest

  below-tagged : (k : K) (es : List (K × X)) → below_all R k es ≡ true → below_all S (tag k) (tagged es) ≡ true
  below-tagged k [] below = refl
  below-tagged k (e ∷ es) below = here (below-tagged k es (both _ _ below).1) (make e.0 e.1)
    where
      here : below_all S (tag k) (tagged es) ≡ true → (o : Option Y) → below_all S (tag k) (cons_option (option_map (λ y. (tag e.0, y)) o) (tagged es)) ≡ true
      here rest None = rest
      here rest (Some y) = λ i. (ap is_lt (order k e.0) ∙ (both _ _ below).0) i && rest i

  -- they are in order
  pub sorted-tagged : (es : List (K × X)) → is_sorted R es ≡ true → is_sorted S (tagged es) ≡ true
  sorted-tagged [] sorted = refl
  sorted-tagged (e ∷ es) sorted = here (sorted-tagged es (sorted_rest R e es sorted)) (make e.0 e.1)
    where
      here : is_sorted S (tagged es) ≡ true → (o : Option Y) → is_sorted S (cons_option (option_map (λ y. (tag e.0, y)) o) (tagged es)) ≡ true
      here rest None = rest
      here rest (Some y) = λ i. below-tagged e.0 es (both _ _ sorted).0 i && rest i

  -- and there is none at another key
  pub no_tag : (l : L) → ((k : K) → eq_by_cmp S l (tag k) ≡ false) → (es : List (K × X)) → find S l (tagged es) ≡ None
  no_tag l apart [] = refl
  no_tag l apart (e ∷ es) = here (no_tag l apart es) (make e.0 e.1)
    where
      here : find S l (tagged es) ≡ None → (o : Option Y) → find S l (cons_option (option_map (λ y. (tag e.0, y)) o) (tagged es)) ≡ None
      here rest None = rest
      here rest (Some y) = ap (λ b. cond b (Some y) (find S l (tagged es))) (apart e.0) ∙ rest

  -- all these keys are below one that is above each of them
  pub tagged_below : (l : L) → ((k : K) → is_lt (S (tag k) l) ≡ true) → (es : List (K × X)) → AllByRecursion (λ e. is_lt (S e.0 l) ≡ true) (tagged es)
  tagged_below l above [] = tt
  tagged_below l above (e ∷ es) = here (tagged_below l above es) (make e.0 e.1)
    where
      here : AllByRecursion (λ e. is_lt (S e.0 l) ≡ true) (tagged es) → (o : Option Y)
          → AllByRecursion (λ e. is_lt (S e.0 l) ≡ true) (cons_option (option_map (λ y. (tag e.0, y)) o) (tagged es))
      here rest None = rest
      here rest (Some y) = (above e.0, rest)

module _ {L Y : Type 0} (S : L → L → Ordering) (l : L) (v : Y) where
  below_more : (k : L) (es : List (L × Y)) → below_all S k es ≡ true → is_lt (S k l) ≡ true → below_all S k (es ++ (l, v) ∷ []) ≡ true
  below_more k [] below last = λ i. last i && true
  below_more k (e ∷ es) below last = let parts = both _ _ below in λ i. parts.0 i && below_more k es parts.1 last i

  -- entries in order are so with one more above them
  pub sorted_more : (es : List (L × Y)) → is_sorted S es ≡ true → AllByRecursion (λ e. is_lt (S e.0 l) ≡ true) es → is_sorted S (es ++ (l, v) ∷ []) ≡ true
  sorted_more [] sorted above = refl
  sorted_more (e ∷ es) sorted above = let parts = both _ _ sorted in λ i. below_more e.0 es parts.0 above.0 i && sorted_more es parts.1 above.1 i

test_of : (b : Bool) → T b → b ≡ true
test_of true h = refl
test_of false h = absurd h

-- the entries of a map are in order
pub rising : {K X : Type 0} {R : K → K → Ordering} (m : FinMap R X) → is_sorted R (entries m) ≡ true
rising m = test_of _ (entries_sorted m)
