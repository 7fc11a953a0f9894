-- What stands at each key of a map that is gathered, and how such a map is made entry by entry.
use Rattle.std.proofs.Common.{◌≡◌, Bool, true, false, cond, T, List, [], ◌∷◌, ◌++◌, Option, Some, None, refl, ap, sym, ◌∙◌, append_assoc}
use Rattle.std.specs.Prelude.{is_some, is_none, ◌||◌, if◌then◌else◌}
use Rattle.std.specs.List.{filter_map, cons_option, list_any}
use Rattle.std.specs.declared.cmp.Ordering.{Ordering}
use Rattle.std.specs.Ordering.{eq_by_cmp}
use Rattle.std.specs.Cmp.{IsTotalOrder}
use Rattle.std.proofs.lemmas.Map.Lookups.{CmpEqualImpliesEq}
use Rattle.std.specs.FinMap.Entries.{find, is_sorted}
use Rattle.std.specs.FinMap.{FinMap, contains_key-keys, empty, entries, entries_sorted, from_entries, get, get-entries, get-from_entries, get-retain_keys, get-empty, insert, get-insert, keys, same_map, from_entries_push}
use Rattle.std.proofs.lemmas.List.{append-nil}
use Rattle.base_values.specs.KeyMap.{with_entries}
use Rattle.base_maps.specs.Carried.{Inverse, if_there, entry_made, gathered, if_lost, lost_map, map_at, overlaid}
use Rattle.base_maps.specs.laws.Inverses.{own_inverse}
use Rattle.base_maps.specs.laws.Keys.{one_key, own_key, apart_keys, first_once, sorted_rest, sorted_front, not_before}

-- a map with one more entry, if there is one
abbrev pub with_made : {K Y : Type 0} {R : K → K → Ordering} → Option (K × Y) → FinMap R Y → FinMap R Y
with_made None m = m
with_made (Some e) m = insert m e.0 e.1

-- a list with one more entry behind it, if there is one
abbrev with_last : {E : Type 0} → List E → Option E → List E
with_last es None = es
with_last es (Some e) = es ++ e ∷ []

test_of : (b : Bool) → T b → b ≡ true
test_of true h = refl
test_of false h = absurd h

-- ---- a map that is said by its entries

or_true : (b : Bool) → (b || true) ≡ true
or_true true = refl
or_true false = refl

or_first : (a b : Bool) → a ≡ true → (a || b) ≡ true
or_first true b h = refl
or_first false b h = absurd (cc)

or_second : (a b : Bool) → b ≡ true → (a || b) ≡ true
or_second a b h = ap (λ c. a || c) h ∙ or_true a

any_append : {X : Type 0} (test : X → Bool) (xs ys : List X) → list_any test (xs ++ ys) ≡ (list_any test xs || list_any test ys)
any_append test [] ys = refl
any_append test (x ∷ xs) ys = elim (test x) as (λ b. (b || list_any test (xs ++ ys)) ≡ ((b || list_any test xs) || list_any test ys))
    [ true ↦ refl | false ↦ any_append test xs ys ]

-- nothing, whichever way a test goes
nothing_there : {X : Type 0} (b : Bool) (v : Option X) → v ≡ None → cond b v None ≡ v
nothing_there true v h = refl
nothing_there false v h = sym h

-- one of these keys is that one
abbrev Among : {K : Type 0} → (K → K → Ordering) → List K → K → Type 0
Among R places q = list_any (eq_by_cmp R q) places ≡ true

module _ {K X : Type 0} (R : K → K → Ordering) (total : IsTotalOrder R) (exact : CmpEqualImpliesEq R) where
  module _ (at : K → Option X) where
    abbrev entry_there : K → Option X → Option (K × X)
    entry_there k o = if_there o (λ x. Some (k, x))

    find_at : (places : List K) (q : K) → find R q (filter_map (λ k. entry_there k (at k)) places) ≡ cond (list_any (eq_by_cmp R q) places) (at q) None
    find_at [] q = refl
    find_at (k ∷ places) q = by_value (find_at places q) (eq_by_cmp R q k) refl (at k) refl
      where
        by_value : find R q (filter_map (λ k. entry_there k (at k)) places) ≡ cond (list_any (eq_by_cmp R q) places) (at q) None → (b : Bool) → eq_by_cmp R q k ≡ b → (o : Option X) → at k ≡ o →
            find R q (cons_option (entry_there k o) (filter_map (λ k. entry_there k (at k)) places)) ≡ cond (b || list_any (eq_by_cmp R q) places) (at q) None
        by_value rest true same None is =
            let none : at q ≡ None = ap at (one_key R total exact q k same) ∙ is in
            rest ∙ nothing_there (list_any (eq_by_cmp R q) places) (at q) none
        by_value rest true same (Some x) is =
            ap (λ b. cond b (Some x) (find R q (filter_map (λ k. entry_there k (at k)) places))) same
            ∙ sym is ∙ ap at (sym (one_key R total exact q k same))
        by_value rest false apart None is = rest
        by_value rest false apart (Some x) is = ap (λ b. cond b (Some x) (find R q (filter_map (λ k. entry_there k (at k)) places))) apart ∙ rest

    -- a map has at each of its keys what the function gives there
    pub get-map_at : (places : List K) (q : K) → ((x : X) → at q ≡ Some x → Among R places q) → get (map_at {R = R} places at) q ≡ at q
    unfolding map_at
    get-map_at places q among =
        get-from_entries total (filter_map (λ k. entry_there k (at k)) places) q ∙ find_at places q ∙ by_value (at q) refl
      where
        by_value : (o : Option X) → at q ≡ o → cond (list_any (eq_by_cmp R q) places) (at q) None ≡ at q
        by_value None is = nothing_there (list_any (eq_by_cmp R q) places) (at q) is
        by_value (Some x) is = ap (λ b. cond b (at q) None) (among x is)

  -- a key that has an entry is among the keys of the map
  pub key_among : (m : FinMap R X) (p : K) (x : X) → get m p ≡ Some x → Among R (keys m) p
  key_among m p x h = sym (contains_key-keys m p) ∙ ap is_some h

module _ {K : Type 0} (R : K → K → Ordering) (total : IsTotalOrder R) (exact : CmpEqualImpliesEq R) where
  -- where it goes is among the keys where they go
  pub goal_among : (to : K → Option K) (p q : K) → to p ≡ Some q → (places : List K) → Among R places p → Among R (filter_map to places) q
  goal_among to p q there [] h = absurd (cc)
  goal_among to p q there (k ∷ places) h = by_key (goal_among to p q there places) (eq_by_cmp R p k) refl h
    where
      behind : (o : Option K) → Among R (filter_map to places) q → Among R (cons_option o (filter_map to places)) q
      behind None rest = rest
      behind (Some r) rest = or_second (eq_by_cmp R q r) (list_any (eq_by_cmp R q) (filter_map to places)) rest

      by_key : (Among R places p → Among R (filter_map to places) q) → (b : Bool) → eq_by_cmp R p k ≡ b → (b || list_any (eq_by_cmp R p) places) ≡ true → Among R (cons_option (to k) (filter_map to places)) q
      by_key rest true same g =
          ap (λ o. list_any (eq_by_cmp R q) (cons_option o (filter_map to places))) (ap to (sym (one_key R total exact p k same)) ∙ there)
          ∙ or_first (eq_by_cmp R q q) (list_any (eq_by_cmp R q) (filter_map to places)) (own_key R total exact q)
      by_key rest false apart g = behind (to k) (rest g)

-- ---- a map whose entries go along

module _ {K X Y : Type 0} (R : K → K → Ordering) (total : IsTotalOrder R) (exact : CmpEqualImpliesEq R) (to from : K → Option K) (i : Inverse to from) (make : K → K → X → Option Y) where
  -- what the entries of a list make at a key
  abbrev made_at : List (K × X) → K → Option K → Option Y
  made_at es q s = if_there s (λ p. if_there (find R p es) (make p q))

  -- an entry whose key does not go there makes nothing there
  elsewhere : (e : K × X) (es : List (K × X)) (q : K) (s : Option K) → from q ≡ s → (to e.0 ≡ Some q → ⊥) → made_at es q s ≡ made_at (e ∷ es) q s
  elsewhere e es q None g h = refl
  elsewhere e es q (Some p) g h =
      ap (λ b. if_there (cond b (Some e.1) (find R p es)) (make p q))
      (sym (apart_keys R total exact p e.0 (λ same. h (ap to (sym same) ∙ i.forth p q g))))

  -- what is made of an entry that goes to a key, or of none
  abbrev entry_at : K → Option Y → Option (K × Y)
  entry_at r y = if_there y (λ y. Some (r, y))

  module _ (e : K × X) (es : List (K × X)) (sorted : is_sorted R (e ∷ es) ≡ true) (q : K) (rest : find R q (filter_map (entry_made to make) es) ≡ made_at es q (from q)) where
    -- what stands where an entry goes is made of it
    first_made : (y : Option Y) → to e.0 ≡ Some q → make e.0 q e.1 ≡ y → made_at (e ∷ es) q (from q) ≡ y
    first_made y there is =
        ap (made_at (e ∷ es) q) (i.back e.0 q there) ∙ ap (λ b. if_there (cond b (Some e.1) (find R e.0 es)) (make e.0 q)) (own_key R total exact e.0) ∙ is

    -- behind it nothing is made there
    none_behind : to e.0 ≡ Some q → made_at es q (from q) ≡ None
    none_behind there = ap (made_at es q) (i.back e.0 q there) ∙ ap (λ v. if_there v (make e.0 q)) (first_once R e es sorted)

    by_value : (r : K) → to e.0 ≡ Some r → (y : Option Y) → make e.0 r e.1 ≡ y → (b : Bool) → eq_by_cmp R q r ≡ b →
        find R q (cons_option (entry_at r y) (filter_map (entry_made to make) es)) ≡ made_at (e ∷ es) q (from q)
    by_value r there None is true same =
        let one : r ≡ q = sym (one_key R total exact q r same) in
        rest ∙ none_behind (there ∙ ap Some one) ∙ sym (first_made None (there ∙ ap Some one) (ap (λ k. make e.0 k e.1) (sym one) ∙ is))
    by_value r there None is false apart =
        rest ∙ elsewhere e es q (from q) refl (λ h. let one : q ≡ r = cc in let tie : eq_by_cmp R q r ≡ true = ap (eq_by_cmp R q) (sym one) ∙ own_key R total exact q in absurd (cc))
    by_value r there (Some y) is true same =
        let one : r ≡ q = sym (one_key R total exact q r same) in
        ap (λ b. cond b (Some y) (find R q (filter_map (entry_made to make) es))) same
        ∙ sym (first_made (Some y) (there ∙ ap Some one) (ap (λ k. make e.0 k e.1) (sym one) ∙ is))
    by_value r there (Some y) is false apart =
        ap (λ b. cond b (Some y) (find R q (filter_map (entry_made to make) es))) apart
        ∙ rest ∙ elsewhere e es q (from q) refl (λ h. let one : q ≡ r = cc in let tie : eq_by_cmp R q r ≡ true = ap (eq_by_cmp R q) (sym one) ∙ own_key R total exact q in absurd (cc))

    by_target : (t : Option K) → to e.0 ≡ t → find R q (cons_option (if_there t (λ r. entry_at r (make e.0 r e.1))) (filter_map (entry_made to make) es)) ≡ made_at (e ∷ es) q (from q)
    by_target None there = rest ∙ elsewhere e es q (from q) refl (λ h. absurd (cc))
    by_target (Some r) there = by_value r there (make e.0 r e.1) refl (eq_by_cmp R q r) refl

  none_made : (q : K) (s : Option K) → None ≡ made_at [] q s
  none_made q None = refl
  none_made q (Some p) = refl

  find-output : (es : List (K × X)) → is_sorted R es ≡ true → (q : K) → find R q (filter_map (entry_made to make) es) ≡ made_at es q (from q)
  find-output [] sorted q = none_made q (from q)
  find-output (e ∷ es) sorted q = by_target e es sorted q (find-output es (sorted_rest R e es sorted) q) (to e.0) refl

  -- a gathered map has at a key what the entry makes whose key goes there
  pub get-gathered : (m : FinMap R X) (q : K) → get (gathered to from make m) q ≡ if_there (from q) (λ p. if_there (get m p) (make p q))
  unfolding gathered
  get-gathered m q = get-map_at R total exact (λ q. if_there (from q) (λ p. if_there (get m p) (make p q))) (filter_map to (keys m)) q (by_source (from q) refl)
    where
      by_entry : (p : K) → from q ≡ Some p → (v : Option X) → get m p ≡ v → (y : Y) → if_there v (make p q) ≡ Some y → Among R (filter_map to (keys m)) q
      by_entry p came None held y h = absurd (cc)
      by_entry p came (Some x) held y h = goal_among R total exact to p q (i.forth p q came) (keys m) (key_among R total exact m p x held)

      by_source : (s : Option K) → from q ≡ s → (y : Y) → if_there s (λ p. if_there (get m p) (make p q)) ≡ Some y → Among R (filter_map to (keys m)) q
      by_source None came y h = absurd (cc)
      by_source (Some p) came y h = by_entry p came (get m p) refl y h

  -- put in one after another, what the entries make is that map
  pub gathered_by_turns : (m : FinMap R X) → from_entries {R = R} (filter_map (entry_made to make) (entries m)) ≡ gathered to from make m
  gathered_by_turns m = same_map total exact _ _ (λ q.
      get-from_entries total (filter_map (entry_made to make) (entries m)) q
      ∙ find-output (entries m) (test_of _ (entries_sorted m)) q
      ∙ at_key q (from q)
      ∙ sym (get-gathered m q))
    where
      at_key : (q : K) (s : Option K) → made_at (entries m) q s ≡ if_there s (λ p. if_there (get m p) (make p q))
      at_key q None = refl
      at_key q (Some p) = ap (λ v. if_there v (make p q)) (sym (get-entries m p))

  last_made : (o : Option (K × Y)) → cons_option o [] ≡ with_last [] o
  last_made None = refl
  last_made (Some f) = refl

  front_made : (f : Option (K × Y)) (fs : List (K × Y)) (o : Option (K × Y)) → cons_option f (with_last fs o) ≡ with_last (cons_option f fs) o
  front_made None fs o = refl
  front_made (Some f) fs None = refl
  front_made (Some f) fs (Some g) = refl

  append_made : (ys : List (K × X)) (e : K × X) → filter_map (entry_made to make) (ys ++ e ∷ []) ≡ with_last (filter_map (entry_made to make) ys) (entry_made to make e)
  append_made [] e = last_made (entry_made to make e)
  append_made (y ∷ ys) e = ap (cons_option (entry_made to make y)) (append_made ys e) ∙ front_made (entry_made to make y) (filter_map (entry_made to make) ys) (entry_made to make e)

  -- the key that an entry goes to has nothing made there by the entries before it
  free_key : (ys : List (K × X)) (e : K × X) (zs : List (K × X)) → is_sorted R (ys ++ e ∷ zs) ≡ true → (q : K) → to e.0 ≡ Some q → find R q (filter_map (entry_made to make) ys) ≡ None
  free_key ys e zs sorted q there =
      find-output ys (sorted_front R ys (e ∷ zs) sorted) q
      ∙ ap (made_at ys q) (i.back e.0 q there)
      ∙ ap (λ v. if_there v (make e.0 q)) (not_before R total exact ys e zs sorted)

  -- one more entry of a sorted list
  pub gathered_more : (ys : List (K × X)) (e : K × X) (zs : List (K × X)) → is_sorted R (ys ++ e ∷ zs) ≡ true →
      from_entries {R = R} (filter_map (entry_made to make) (ys ++ e ∷ [])) ≡ with_made (entry_made to make e) (from_entries (filter_map (entry_made to make) ys))
  gathered_more ys e zs sorted = ap from_entries (append_made ys e) ∙ by_target (to e.0) refl
    where
      by_value : (r : K) → to e.0 ≡ Some r → (y : Option Y) →
          from_entries {R = R} (with_last (filter_map (entry_made to make) ys) (if_there y (λ y. Some (r, y)))) ≡ with_made (if_there y (λ y. Some (r, y))) (from_entries (filter_map (entry_made to make) ys))
      by_value r there None = refl
      by_value r there (Some y) = from_entries_push total exact (filter_map (entry_made to make) ys) r y (free_key ys e zs sorted r there)

      by_target : (t : Option K) → to e.0 ≡ t →
          from_entries {R = R} (with_last (filter_map (entry_made to make) ys) (if_there t (λ r. if_there (make e.0 r e.1) (λ y. Some (r, y))))) ≡ with_made (if_there t (λ r. if_there (make e.0 r e.1) (λ y. Some (r, y)))) (from_entries (filter_map (entry_made to make) ys))
      by_target None there = refl
      by_target (Some r) there = by_value r there (make e.0 r e.1)

  -- the entries that are made, put in one after another, are the gathered map
  made_in_turn : (ys zs : List (K × X)) → is_sorted R (ys ++ zs) ≡ true →
      with_entries (from_entries {R = R} (filter_map (entry_made to make) ys)) (filter_map (entry_made to make) zs) ≡ from_entries (filter_map (entry_made to make) (ys ++ zs))
  made_in_turn ys [] sorted = ap (λ es. from_entries (filter_map (entry_made to make) es)) (sym (append-nil ys))
  made_in_turn ys (e ∷ zs) sorted =
      one_more (entry_made to make e)
      ∙ ap (λ m. with_entries m (filter_map (entry_made to make) zs)) (sym (gathered_more ys e zs sorted))
      ∙ made_in_turn (ys ++ e ∷ []) zs (ap (is_sorted R) (append_assoc ys (e ∷ []) zs) ∙ sorted)
      ∙ ap (λ es. from_entries (filter_map (entry_made to make) es)) (append_assoc ys (e ∷ []) zs)
    where
      one_more : (o : Option (K × Y)) → with_entries (from_entries {R = R} (filter_map (entry_made to make) ys)) (cons_option o (filter_map (entry_made to make) zs))
          ≡ with_entries (with_made o (from_entries (filter_map (entry_made to make) ys))) (filter_map (entry_made to make) zs)
      one_more None = refl
      one_more (Some f) = refl

  pub gathered_in_turn : (m : FinMap R X) → with_entries empty (filter_map (entry_made to make) (entries m)) ≡ gathered to from make m
  gathered_in_turn m = made_in_turn [] (entries m) (test_of _ (entries_sorted m)) ∙ gathered_by_turns m

-- the entries of a map are in order
pub rises_of : {K X : Type 0} {R : K → K → Ordering} (m : FinMap R X) (ys : List (K × X)) (e : K × X) (zs : List (K × X)) → ys ++ e ∷ zs ≡ entries m → is_sorted R (ys ++ e ∷ zs) ≡ true
rises_of {R = R} m ys e zs all = ap (is_sorted R) all ∙ test_of _ (entries_sorted m)

-- the entries that go nowhere are those that are kept
module _ {K X : Type 0} (R : K → K → Ordering) (total : IsTotalOrder R) (exact : CmpEqualImpliesEq R) where
  pub get-lost_map : (to : K → Option K) (m : FinMap R X) (p : K) → get (lost_map to m) p ≡ cond (is_none (to p)) (get m p) None
  unfolding lost_map
  get-lost_map to m p = get-retain_keys m (λ key. is_none (to key)) p (λ q h. ap (λ k. is_none (to k)) (sym (exact p q h)))

  find-both : (over es : List (K × X)) (q : K) → find R q (over ++ es) ≡ cond (is_some (find R q over)) (find R q over) (find R q es)
  find-both [] es q = refl
  find-both (e ∷ over) es q = elim (eq_by_cmp R q e.0) as (λ b. cond b (Some e.1) (find R q (over ++ es)) ≡ cond (is_some (cond b (Some e.1) (find R q over))) (cond b (Some e.1) (find R q over)) (find R q es))
      [ true ↦ refl | false ↦ find-both over es q ]

  -- a map with entries laid over it has these, and its own elsewhere
  pub get-overlaid : (over m : FinMap R X) (q : K) → get (overlaid over m) q ≡ cond (is_some (get over q)) (get over q) (get m q)
  unfolding overlaid
  get-overlaid over m q = get-map_at R total exact (λ q. if is_some (get over q) then get over q else get m q) (keys over ++ keys m) q (by_entry (get over q) refl)
    where
      either : (a b : Bool) → (a || b) ≡ true → list_any (eq_by_cmp R q) (keys over) ≡ a → list_any (eq_by_cmp R q) (keys m) ≡ b → Among R (keys over ++ keys m) q
      either a b h one two = any_append (eq_by_cmp R q) (keys over) (keys m) ∙ (λ j. one j || two j) ∙ h

      by_entry : (o : Option X) → get over q ≡ o → (x : X) → (if is_some o then o else get m q) ≡ Some x → Among R (keys over ++ keys m) q
      by_entry None is x h = either _ true (or_true (list_any (eq_by_cmp R q) (keys over))) refl (key_among R total exact m q x h)
      by_entry (Some y) is x h = either true _ refl (key_among R total exact over q y is) refl

  -- gathered one by one, the lost entries are those
  pub lost_gathered : (to : K → Option K) (m : FinMap R X) → gathered Some Some (if_lost to) m ≡ lost_map to m
  lost_gathered to m = same_map total exact _ _ (λ p.
      get-gathered R total exact Some Some own_inverse (if_lost to) m p ∙ at_key (is_none (to p)) (get m p) ∙ sym (get-lost_map to m p))
    where
      at_key : (b : Bool) (v : Option X) → if_there v (λ x. if b then Some x else None) ≡ cond b v None
      at_key true None = refl
      at_key true (Some x) = refl
      at_key false None = refl
      at_key false (Some x) = refl

  -- one more entry that is laid over a map
  pub overlaid_more : (over m : FinMap R X) (k : K) (x : X) → insert (overlaid over m) k x ≡ overlaid (insert over k x) m
  overlaid_more over m k x = same_map total exact _ _ (λ q.
      get-insert total (overlaid over m) k x q ∙ ap (cond (eq_by_cmp R q k) (Some x)) (get-overlaid over m q)
      ∙ at_key (eq_by_cmp R q k) (get over q) (get m q)
      ∙ sym (get-overlaid (insert over k x) m q ∙ ap (λ v. cond (is_some v) v (get m q)) (get-insert total over k x q)))
    where
      at_key : (b : Bool) (o v : Option X) → cond b (Some x) (cond (is_some o) o v) ≡ cond (is_some (cond b (Some x) o)) (cond b (Some x) o) v
      at_key true o v = refl
      at_key false o v = refl

  -- nothing laid over a map is the map
  pub nothing_overlaid : (m : FinMap R X) → overlaid empty m ≡ m
  nothing_overlaid m = same_map total exact _ _ (λ q. get-overlaid empty m q ∙ ap (λ v. cond (is_some v) v (get m q)) (get-empty R q))

  -- the map of its own entries
  pub own_entries : (m : FinMap R X) → from_entries (entries m) ≡ m
  own_entries m = same_map total exact _ _ (λ q. get-from_entries total (entries m) q ∙ sym (get-entries m q))

  -- an entry that stands between others is what the map has at its key
  pub held_between : (m : FinMap R X) (ys : List (K × X)) (e : K × X) (zs : List (K × X)) → ys ++ e ∷ zs ≡ entries m → get m e.0 ≡ Some e.1
  held_between m ys e zs all =
      get-entries m e.0 ∙ ap (find R e.0) (sym all) ∙ find-both ys (e ∷ zs) e.0
      ∙ ap (λ v. cond (is_some v) v (find R e.0 (e ∷ zs))) (not_before R total exact ys e zs (rises_of m ys e zs all))
      ∙ ap (λ b. cond b (Some e.1) (find R e.0 zs)) (own_key R total exact e.0)
