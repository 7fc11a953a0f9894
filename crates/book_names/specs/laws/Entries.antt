-- A map of which each value changes under its key: what it has at each key, its entries, and tests of these.
use Rattle.std.proofs.Common.{◌≡◌, Bool, true, false, cond, T, List, [], ◌∷◌, map, Option, Some, None, refl, ap, sym, ◌∙◌}
use Rattle.std.specs.Prelude.{◌&&◌}
use Rattle.std.specs.declared.cmp.Ordering.{Ordering}
use Rattle.std.specs.Ordering.{is_lt}
use Rattle.std.specs.Cmp.{IsTotalOrder}
use Rattle.std.specs.List.{cons_option, filter_map, find, list_all}
use Rattle.std.proofs.lemmas.Map.Lookups.{CmpEqualImpliesEq}
use Rattle.std.specs.FinMap.{FinMap, empty, entries, entries_sorted, from_entries, get, get-empty}
use Rattle.std.specs.FinMap.Entries.{below_all, is_sorted}
use Rattle.base_maps.specs.Carried.{carried_map, entry_made, if_there}
use Rattle.base_maps.specs.laws.CarriedLaws.{get-carried_map}
use Rattle.base_maps.specs.laws.Gathering.{gathered_by_turns}
use Rattle.base_maps.specs.laws.Inverses.{own_inverse}
use Rattle.base_maps.specs.laws.Known.{entries_again}
use Rattle.sheet_rules.specs.laws.EntryLaws.{passes_at_from_all, all_from_passes_at}

holds : (b : Bool) → T b → b ≡ true
holds true h = refl
holds false h = absurd h

-- ---- lists of entries

module _ {K X Y : Type 0} (R : K → K → Ordering) (f : K → X → Y) where
  abbrev entry_changed : K × X → K × Y
  entry_changed e = (e.0, f e.0 e.1)

  still_below : (k : K) (es : List (K × X)) → below_all R k (map entry_changed es) ≡ below_all R k es
  still_below k [] = refl
  still_below k (e ∷ es) = ap (λ b. is_lt (R k e.0) && b) (still_below k es)

  still_sorted : (es : List (K × X)) → is_sorted R (map entry_changed es) ≡ is_sorted R es
  still_sorted [] = refl
  still_sorted (e ∷ es) = λ i. still_below e.0 es i && still_sorted es i

  each_made : (es : List (K × X)) → filter_map (entry_made Some (λ p q x. Some (f q x))) es ≡ map entry_changed es
  each_made [] = refl
  each_made (e ∷ es) = ap (λ output. (e.0, f e.0 e.1) ∷ output) (each_made es)

  module _ (total : IsTotalOrder R) (exact : CmpEqualImpliesEq R) (m : FinMap R X) where
    -- what it has at each key
    pub get_changed : (k : K) → get (carried_map Some Some (λ _ q x. f q x) m) k ≡ if_there (get m k) (λ x. Some (f k x))
    get_changed k = get-carried_map R total exact Some Some own_inverse (λ _ q x. f q x) m k

    -- its entries
    pub entries_changed : entries (carried_map {R = R} Some Some (λ _ q x. f q x) m) ≡ map entry_changed (entries m)
    entries_changed =
        ap entries (sym (gathered_by_turns R total exact Some Some own_inverse (λ _ q x. Some (f q x)) m))
        ∙ ap (λ es. entries (from_entries {R = R} es)) (each_made (entries m))
        ∙ entries_again R total exact (map entry_changed (entries m)) (still_sorted (entries m) ∙ holds (is_sorted R (entries m)) (entries_sorted m))

-- ---- what holds of every entry of a map

module _ {K X : Type 0} (R : K → K → Ordering) (total : IsTotalOrder R) (exact : CmpEqualImpliesEq R) (P : K × X → Bool) where
  abbrev passes : K → Option X → Bool
  passes k None = true
  passes k (Some x) = P (k, x)

  -- what holds of each key that has a value, and of that, holds of every entry
  pub all_entries : (m : FinMap R X) → ((k : K) (x : X) → get m k ≡ Some x → P (k, x) ≡ true) → list_all P (entries m) ≡ true
  all_entries m h = all_from_passes_at R total exact passes (λ _. refl) m (λ k. go k (get m k) refl)
    where
      go : (k : K) (o : Option X) → get m k ≡ o → passes k o ≡ true
      go k None is = refl
      go k (Some x) is = h k x is

  -- so all that is asked holds of an empty map
  pub none_fails : list_all P (entries (empty {R = R})) ≡ true
  none_fails = all_entries empty (λ k x found. absurd (let never : ◌≡◌ {A = Option X} None (Some x) = sym (get-empty R k) ∙ found in cc))

  -- and what holds of every entry holds of those
  pub entry_holds : (m : FinMap R X) → list_all P (entries m) ≡ true → (k : K) (x : X) → get m k ≡ Some x → P (k, x) ≡ true
  entry_holds m h k x found = sym (ap (passes k) found) ∙ passes_at_from_all R total exact passes (λ _. refl) m h k

-- ---- tests of lists whose items change

module _ {X Y : Type 0} (g : X → Y) where
  -- what is found by a test that each item passes as it did
  pub found_same : (p : Y → Bool) (q : X → Bool) → ((x : X) → p (g x) ≡ q x) → (xs : List X) (x : X) → find q xs ≡ Some x → find p (map g xs) ≡ Some (g x)
  found_same p q same [] x found = absurd (cc)
  found_same p q same (y ∷ xs) x found = go (found_same p q same xs x) (q y) refl found
    where
      go : (find q xs ≡ Some x → find p (map g xs) ≡ Some (g x)) → (b : Bool) → q y ≡ b → cond b (Some y) (find q xs) ≡ Some x
          → cond (p (g y)) (Some (g y)) (find p (map g xs)) ≡ Some (g x)
      go rest true is it = let own : y ≡ x = cc in ap (λ b. cond b (Some (g y)) (find p (map g xs))) (same y ∙ is) ∙ ap (λ z. Some (g z)) own
      go rest false is it = ap (λ b. cond b (Some (g y)) (find p (map g xs))) (same y ∙ is) ∙ rest it

  -- a test that each item passes as it did
  pub all_same : (p : Y → Bool) (q : X → Bool) → ((x : X) → p (g x) ≡ q x) → (xs : List X) → list_all p (map g xs) ≡ list_all q xs
  all_same p q same [] = refl
  all_same p q same (x ∷ xs) = λ i. same x i && all_same p q same xs i

  -- what each item gives as it did
  pub gives_same : {Z : Type 0} (p : Y → Option Z) (q : X → Option Z) → ((x : X) → p (g x) ≡ q x) → (xs : List X) → filter_map p (map g xs) ≡ filter_map q xs
  gives_same p q same [] = refl
  gives_same p q same (x ∷ xs) = λ i. cons_option (same x i) (gives_same p q same xs i)

  -- what each item has as it had
  pub maps_same : {Z : Type 0} (p : Y → Z) (q : X → Z) → ((x : X) → p (g x) ≡ q x) → (xs : List X) → map p (map g xs) ≡ map q xs
  maps_same p q same [] = refl
  maps_same p q same (x ∷ xs) = λ i. same x i ∷ maps_same p q same xs i
