-- What maps hold that stand under the ids of sheets, whatever their keys are.
use Rattle.std.proofs.Common.{◌≡◌, ℕ, ◌+◌, ◌<◌, T, Bool, true, false, cond, List, [], ◌∷◌, ◌++◌, length, map, take, get_or, Option, Some, None}
use Rattle.std.proofs.Common.{refl, ap, sym, subst, ◌∙◌}
use Rattle.std.specs.Prelude.{◌==◌, ◌||◌, is_some, IfSome}
use Rattle.std.specs.Option.{option_or}
use Rattle.std.specs.List.{cons_option, filter_map, fold, find as first, last_or, list_any, IsDistinct}
use Rattle.std.specs.declared.cmp.Ordering.{Ordering}
use Rattle.std.specs.declared.cmp.Ordering.TheVariants.{Less, Equal, Greater}
use Rattle.std.specs.Ordering.{nat_cmp, ordering_then, is_eq, eq_by_cmp}
use Rattle.std.specs.Cmp.{IsTotalOrder, nat_cmp_total, unsigned_Decides}
use Rattle.std.specs.FinMap.{FinMap, contains_key-keys, empty, entries, entries_sorted, get, get-entries, get-insert, insert, keys, same_map}
use Rattle.std.specs.FinMap.{nat_cmp-IsAntisymmetric}
use Rattle.std.specs.FinMap.Entries.{find, is_sorted}
use Rattle.std.proofs.lemmas.List.{take_more}
use Rattle.std.proofs.lemmas.List.Elements.{filter_map-append}
use Rattle.std.proofs.lemmas.List.Folds.{list_any-append}
use Rattle.std.proofs.lemmas.Map.Lookups.{CmpEqualImpliesEq}
use Rattle.base_values.specs.KeyMap.{put_under}
use Rattle.base_maps.specs.Carried.{if_there, map_at}
use Rattle.base_maps.specs.Under.{value_under, last_under, keys_under, all_under}
use Rattle.base_maps.specs.laws.Found.{not_again}
use Rattle.base_maps.specs.laws.Gathering.{get-map_at}
use Rattle.base_maps.specs.laws.Keys.{one_key, own_key, apart_keys, first_once, sorted_rest}

-- ids that compare alike are one
ids_alike : (id n : ℕ) → eq_by_cmp nat_cmp n id ≡ (id == n)
ids_alike id n = by_test (id == n) refl
  where
    by_test : (b : Bool) → (id == n) ≡ b → eq_by_cmp nat_cmp n id ≡ b
    by_test true h = ap (eq_by_cmp nat_cmp n) ((unsigned_Decides id n).0 h) ∙ own_key nat_cmp nat_cmp_total nat_cmp-IsAntisymmetric n
    by_test false h = apart_keys nat_cmp nat_cmp_total nat_cmp-IsAntisymmetric n id (λ same.
        let yes : (id == n) ≡ true = (unsigned_Decides id n).1 (sym same) in absurd (cc))

both_alike : (o r : Ordering) → is_eq (ordering_then o r) ≡ cond (is_eq o) (is_eq r) false
both_alike Less r = refl
both_alike Equal r = refl
both_alike Greater r = refl

test_of : (b : Bool) → T b → b ≡ true
test_of true h = refl
test_of false h = absurd h

-- ---- the last of some items

or_nothing : {X : Type 0} (o : Option X) → option_or o None ≡ o
or_nothing None = refl
or_nothing (Some x) = refl

last_behind : {X : Type 0} (o : Option X) (xs : List X) → last_or o xs ≡ option_or (last_or None xs) o
last_behind o [] = refl
last_behind o (x ∷ xs) = last_behind (Some x) xs ∙ at_last (last_or None xs) ∙ ap (λ v. option_or v o) (sym (last_behind (Some x) xs))
  where
    at_last : (v : Option _) → option_or v (Some x) ≡ option_or (option_or v (Some x)) o
    at_last None = refl
    at_last (Some y) = refl

-- with one more before them, if there is one, or behind them
last_before : {X : Type 0} (o : Option X) (xs : List X) → last_or None (cons_option o xs) ≡ option_or (last_or None xs) o
last_before None xs = sym (or_nothing (last_or None xs))
last_before (Some x) xs = last_behind (Some x) xs

last_more : {X : Type 0} (before : Option X) (xs : List X) (o : Option X) → last_or before (xs ++ cons_option o []) ≡ option_or o (last_or before xs)
last_more before [] None = refl
last_more before [] (Some y) = refl
last_more before (x ∷ xs) o = last_more (Some x) xs o

-- ---- keys under ids

-- keys of one sheet, in the order Q, stand under the id of the sheet among keys of all sheets, in the order R
pub record StandUnder {P K : Type 0} (Q : P → P → Ordering) (R : K → K → Ordering) (under : ℕ → P → K) (tag_of : K → ℕ) (key_of : K → P) : Type 0 where
  pub own_total : IsTotalOrder Q
  pub own_exact : CmpEqualImpliesEq Q
  pub total : IsTotalOrder R
  pub exact : CmpEqualImpliesEq R
  pub by_id : (k : K) (id : ℕ) (p : P) → R k (under id p) ≡ ordering_then (nat_cmp (tag_of k) id) (Q (key_of k) p)

module _ {P K : Type 0} {Q : P → P → Ordering} {R : K → K → Ordering} {under : ℕ → P → K} {tag_of : K → ℕ} {key_of : K → P}
    (laws : StandUnder Q R under tag_of key_of) where
  keys_alike : (k : K) (id : ℕ) (p : P) → eq_by_cmp R k (under id p) ≡ cond (id == tag_of k) (eq_by_cmp Q (key_of k) p) false
  keys_alike k id p =
      ap is_eq (laws.by_id k id p) ∙ both_alike (nat_cmp (tag_of k) id) (Q (key_of k) p)
      ∙ ap (λ b. cond b (eq_by_cmp Q (key_of k) p) false) (ids_alike id (tag_of k))

  module _ {X : Type 0} where
    put_at : (id : ℕ) (es : List (P × X)) → is_sorted Q es ≡ true → (own : FinMap R X) (k : K) →
        get (fold (λ output (e : P × X). insert output (under id e.0) e.1) own es) k ≡ option_or (cond (id == tag_of k) (find Q (key_of k) es) None) (get own k)
    put_at id [] sorted own k = elim (id == tag_of k) as (λ b. get own k ≡ option_or (cond b None None) (get own k)) [ true ↦ refl | false ↦ refl ]
    put_at id (e ∷ es) sorted own k =
        put_at id es (sorted_rest Q e es sorted) (insert own (under id e.0) e.1) k
        ∙ ap (option_or (cond (id == tag_of k) (find Q (key_of k) es) None))
        (get-insert laws.total own (under id e.0) e.1 k ∙ ap (λ b. cond b (Some e.1) (get own k)) (keys_alike k id e.0))
        ∙ by_key (id == tag_of k) (eq_by_cmp Q (key_of k) e.0) refl
      where
        by_key : (b c : Bool) → eq_by_cmp Q (key_of k) e.0 ≡ c → option_or (cond b (find Q (key_of k) es) None) (cond (cond b c false) (Some e.1) (get own k)) ≡
            option_or (cond b (cond c (Some e.1) (find Q (key_of k) es)) None) (get own k)
        by_key false c same = refl
        by_key true false same = refl
        by_key true true same = ap (λ o. option_or o (Some e.1))
            (ap (λ p. find Q p es) (one_key Q laws.own_total laws.own_exact (key_of k) e.0 same) ∙ first_once Q e es sorted)

    -- what stands at a key, when a map was put under an id
    pub get-put_under : (id : ℕ) (m : FinMap Q X) (own : FinMap R X) (k : K) →
        get (put_under under id m own) k ≡ option_or (cond (id == tag_of k) (get m (key_of k)) None) (get own k)
    get-put_under id m own k = put_at id (entries m) (test_of _ (entries_sorted m)) own k
        ∙ ap (λ o. option_or (cond (id == tag_of k) o None) (get own k)) (sym (get-entries m (key_of k)))

    -- what holds of the values of both holds of those
    pub put_under_are : (G : X → Type 0) (id : ℕ) (m : FinMap Q X) (own : FinMap R X) → ((p : P) → IfSome (get m p) G) → ((k : K) → IfSome (get own k) G) →
        (k : K) → IfSome (get (put_under under id m own) k) G
    put_under_are G id m own h i k = subst (λ o. IfSome o G) (sym (get-put_under id m own k)) (by_id (id == tag_of k))
      where
        by_value : (o : Option X) → IfSome o G → IfSome (option_or o (get own k)) G
        by_value None held = i k
        by_value (Some x) held = held

        by_id : (b : Bool) → IfSome (option_or (cond b (get m (key_of k)) None) (get own k)) G
        by_id true = by_value (get m (key_of k)) (h (key_of k))
        by_id false = i k

    module _ {S : Type 0} (id_of : S → ℕ) (map_of : S → FinMap Q X) where
      abbrev all_of : List S → FinMap R X
      all_of items = all_under under tag_of key_of id_of map_of items

      abbrev value_at : K → S → Option X
      value_at k item = value_under id_of map_of (tag_of k) (key_of k) item

      abbrev last_at : K → List S → Option X
      last_at k items = last_under id_of map_of (tag_of k) (key_of k) items

      item_before : (item : S) (items : List S) (k : K) → last_at k (item ∷ items) ≡ option_or (last_at k items) (value_at k item)
      item_before item items k = last_before (value_at k item) (filter_map (value_at k) items)

      -- a key is among those of a map under an id, and of all maps, where something stands
      own_among : (k : K) (id : ℕ) (ps : List P) →
          list_any (eq_by_cmp R k) (map (under id) ps) ≡ cond (id == tag_of k) (list_any (eq_by_cmp Q (key_of k)) ps) false
      own_among k id [] = elim (id == tag_of k) as (λ b. false ≡ cond b false false) [ true ↦ refl | false ↦ refl ]
      own_among k id (p ∷ ps) =
          (λ j. keys_alike k id p j || own_among k id ps j) ∙ either (id == tag_of k) (eq_by_cmp Q (key_of k) p) (list_any (eq_by_cmp Q (key_of k)) ps)
        where
          either : (b c d : Bool) → (cond b c false || cond b d false) ≡ cond b (c || d) false
          either true c d = refl
          either false c d = refl

      all_among : (k : K) (items : List S) → list_any (eq_by_cmp R k) (keys_under under id_of map_of items) ≡ is_some (last_at k items)
      all_among k [] = refl
      all_among k (item ∷ items) =
          list_any-append (eq_by_cmp R k) (map (under (id_of item)) (keys (map_of item))) (keys_under under id_of map_of items)
          ∙ (λ j. own_among k (id_of item) (keys (map_of item)) j || all_among k items j)
          ∙ ap (λ b. cond (id_of item == tag_of k) b false || is_some (last_at k items)) (sym (contains_key-keys (map_of item) (key_of k)))
          ∙ either (id_of item == tag_of k) (get (map_of item) (key_of k)) (last_at k items)
          ∙ sym (ap is_some (item_before item items k))
        where
          either : (b : Bool) (v o : Option X) → (cond b (is_some v) false || is_some o) ≡ is_some (option_or o (cond b v None))
          either true v None = elim v as (λ v. (is_some v || false) ≡ is_some v) [ None ↦ refl | Some x ↦ refl ]
          either true v (Some y) = elim v as (λ v. (is_some v || true) ≡ true) [ None ↦ refl | Some x ↦ refl ]
          either false v None = refl
          either false v (Some y) = refl

      -- under an id and a key stands what the last item of that id has there
      pub get-last_under : (items : List S) (k : K) → get (all_of items) k ≡ last_at k items
      unfolding all_under
      get-last_under items k =
          get-map_at R laws.total laws.exact (λ k. last_at k items) (keys_under under id_of map_of items) k (λ x h. all_among k items ∙ ap is_some h)

      last_found : (k : K) (items : List S) → IsDistinct ◌==◌ (map id_of items) →
          last_at k items ≡ if_there (first (λ item. id_of item == tag_of k) items) (λ item. get (map_of item) (key_of k))
      unfolding IsDistinct
      last_found k [] distinct = refl
      last_found k (item ∷ items) distinct =
          item_before item items k ∙ ap (λ o. option_or o (value_at k item)) (last_found k items distinct.1) ∙ by_test (id_of item == tag_of k) refl
        where
          found : Option S → Option X
          found o = if_there o (λ item. get (map_of item) (key_of k))

          by_test : (b : Bool) → (id_of item == tag_of k) ≡ b →
              option_or (found (first (λ item. id_of item == tag_of k) items)) (cond b (found (Some item)) None) ≡
              found (cond b (Some item) (first (λ item. id_of item == tag_of k) items))
          by_test true it = ap (λ o. option_or (found o) (found (Some item))) (not_again id_of item items distinct.0 (tag_of k) it)
          by_test false other = or_nothing (found (first (λ item. id_of item == tag_of k) items))

      -- where ids differ, under each id stands the map of the item that is found by it, and nothing else
      pub get-all_under : (items : List S) → IsDistinct ◌==◌ (map id_of items) → (k : K) →
          get (all_of items) k ≡ if_there (first (λ item. id_of item == tag_of k) items) (λ item. get (map_of item) (key_of k))
      get-all_under items distinct k = get-last_under items k ∙ last_found k items distinct

      -- of no items
      pub all_under_none : all_of [] ≡ empty
      unfolding all_under map_at
      all_under_none = refl

      one_more : (items : List S) (item : S) → all_of (items ++ item ∷ []) ≡ put_under under (id_of item) (map_of item) (all_of items)
      one_more items item = same_map laws.total laws.exact _ _ (λ k.
          get-last_under (items ++ item ∷ []) k
          ∙ ap (last_or None) (filter_map-append (value_at k) items (item ∷ [])) ∙ last_more None (filter_map (value_at k) items) (value_at k item)
          ∙ sym (get-put_under (id_of item) (map_of item) (all_of items) k ∙ ap (option_or (value_at k item)) (get-last_under items k)))

      -- of the first items, with one more
      pub all_under_more : (items : List S) (i : ℕ) (item : S) → i < length items → item ≡ get_or items i item →
          all_of (take (i + 1) items) ≡ put_under under (id_of item) (map_of item) (all_of (take i items))
      all_under_more items i item within is =
          ap all_of (take_more items i item within ∙ ap (λ one. take i items ++ one ∷ []) (sym is)) ∙ one_more (take i items) item
