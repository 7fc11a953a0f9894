-- Tests of all items of a list, of one of them, and that no two are the same: of lists that items are put into and taken out of.
use Rattle.std.proofs.Common.{◌≡◌, ℕ, zero, suc, Bool, true, false, cond, not, ◌&&◌, ◌||◌, List, [], ◌∷◌, ◌++◌, map, Some, refl, ap, sym, ◌∙◌}
use Rattle.std.specs.Prelude.{slice_get}
use Rattle.std.specs.List.{AllByRecursion, filter, insert, list_all, list_any, remove}
use Rattle.std.proofs.lemmas.List.Folds.{list_any-append}
use Rattle.sheet_rules.specs.Distinct.{are_distinct}
use Rattle.sheet_rules.specs.laws.EntryLaws.{both}
use Rattle.sheet_rules.specs.laws.ShownLaws.{neither, not_true}
use Rattle.book_sheets.specs.laws.Placed.{all_inserted, all_removed, all_got}

-- ---- a function of each item

module _ {X Y : Type 0} (f : X → Y) where
  pub map_inserted : (xs : List X) (i : ℕ) (x : X) → map f (insert xs i x) ≡ insert (map f xs) i (f x)
  map_inserted xs zero x = refl
  map_inserted [] (suc i) x = refl
  map_inserted (y ∷ ys) (suc i) x = ap (λ zs. f y ∷ zs) (map_inserted ys i x)

  pub map_removed : (xs : List X) (i : ℕ) → map f (remove xs i) ≡ remove (map f xs) i
  map_removed [] zero = refl
  map_removed [] (suc i) = refl
  map_removed (y ∷ ys) zero = refl
  map_removed (y ∷ ys) (suc i) = ap (λ zs. f y ∷ zs) (map_removed ys i)

  pub map_got : (xs : List X) (i : ℕ) (x : X) → slice_get xs i ≡ Some x → slice_get (map f xs) i ≡ Some (f x)
  map_got [] i x found = absurd (cc)
  map_got (y ∷ ys) zero x found = let same : y ≡ x = cc in ap (λ z. Some (f z)) same
  map_got (y ∷ ys) (suc i) x found = map_got ys i x found

-- ---- one test

module _ {X : Type 0} (p : X → Bool) where
  each_passes : (xs : List X) → list_all p xs ≡ true → AllByRecursion (λ x. p x ≡ true) xs
  each_passes [] all = tt
  each_passes (x ∷ xs) all = let parts = both (p x) (list_all p xs) all in (parts.0, each_passes xs parts.1)

  all_pass : (xs : List X) → AllByRecursion (λ x. p x ≡ true) xs → list_all p xs ≡ true
  all_pass [] each = refl
  all_pass (x ∷ xs) each = λ i. each.0 i && all_pass xs each.1 i

  pub each_fails : (xs : List X) → list_any p xs ≡ false → AllByRecursion (λ x. p x ≡ false) xs
  each_fails [] none = tt
  each_fails (x ∷ xs) none = let parts = neither (p x) (list_any p xs) none in (parts.0, each_fails xs parts.1)

  pub none_passes : (xs : List X) → AllByRecursion (λ x. p x ≡ false) xs → list_any p xs ≡ false
  none_passes [] each = refl
  none_passes (x ∷ xs) each = λ i. each.0 i || none_passes xs each.1 i

  -- all pass, and so does one more
  pub all_with : (xs : List X) (i : ℕ) (x : X) → list_all p xs ≡ true → p x ≡ true → list_all p (insert xs i x) ≡ true
  all_with xs i x all one = all_pass (insert xs i x) (all_inserted (λ y. p y ≡ true) xs i x (each_passes xs all) one)

  pub all_without : (xs : List X) (i : ℕ) → list_all p xs ≡ true → list_all p (remove xs i) ≡ true
  all_without xs i all = all_pass (remove xs i) (all_removed (λ y. p y ≡ true) xs i (each_passes xs all))

  pub passes_at : (xs : List X) (i : ℕ) (x : X) → list_all p xs ≡ true → slice_get xs i ≡ Some x → p x ≡ true
  passes_at xs i x all found = all_got (λ y. p y ≡ true) xs i x (each_passes xs all) found

  -- none passes, nor does one more
  pub none_with : (xs : List X) (i : ℕ) (x : X) → list_any p xs ≡ false → p x ≡ false → list_any p (insert xs i x) ≡ false
  none_with xs i x none one = none_passes (insert xs i x) (all_inserted (λ y. p y ≡ false) xs i x (each_fails xs none) one)

  pub none_without : (xs : List X) (i : ℕ) → list_any p xs ≡ false → list_any p (remove xs i) ≡ false
  none_without xs i none = none_passes (remove xs i) (all_removed (λ y. p y ≡ false) xs i (each_fails xs none))

  second : (a b : Bool) → b ≡ true → (a || b) ≡ true
  second true b h = refl
  second false b h = h

  not_first : (a b : Bool) → a ≡ false → (a || b) ≡ true → b ≡ true
  not_first true b h one = absurd (cc)
  not_first false b h one = one

  -- the one that is put passes
  pub any_here : (xs : List X) (i : ℕ) (x : X) → p x ≡ true → list_any p (insert xs i x) ≡ true
  any_here xs zero x one = ap (λ b. b || list_any p xs) one
  any_here [] (suc i) x one = ap (λ b. b || false) one
  any_here (y ∷ ys) (suc i) x one = second (p y) (list_any p (insert ys i x)) (any_here ys i x one)

  -- another one passes
  pub any_with : (xs : List X) (i : ℕ) (x : X) → list_any p xs ≡ true → list_any p (insert xs i x) ≡ true
  any_with xs zero x any = second (p x) (list_any p xs) any
  any_with [] (suc i) x any = absurd (cc)
  any_with (y ∷ ys) (suc i) x any = go (p y) (any_with ys i x) any
    where
      go : (b : Bool) → (list_any p ys ≡ true → list_any p (insert ys i x) ≡ true) → (b || list_any p ys) ≡ true → (b || list_any p (insert ys i x)) ≡ true
      go true rest any = refl
      go false rest any = rest any

  pub any_without : (xs : List X) (i : ℕ) (x : X) → list_any p xs ≡ true → slice_get xs i ≡ Some x → p x ≡ false → list_any p (remove xs i) ≡ true
  any_without [] i x any found fails = absurd (cc)
  any_without (y ∷ ys) zero x any found fails = let same : y ≡ x = cc in not_first (p y) (list_any p ys) (ap p same ∙ fails) any
  any_without (y ∷ ys) (suc i) x any found fails = go (p y) (λ more. any_without ys i x more found fails) any
    where
      go : (b : Bool) → (list_any p ys ≡ true → list_any p (remove ys i) ≡ true) → (b || list_any p ys) ≡ true → (b || list_any p (remove ys i)) ≡ true
      go true rest any = refl
      go false rest any = rest any

-- ---- what is left by a test

pub each_left : {X : Type 0} (left : X → Bool) (P : X → Type 0) (xs : List X) → AllByRecursion P xs → AllByRecursion P (filter left xs)
each_left left P [] all = tt
each_left left P (x ∷ xs) all = elim (left x) as (λ b. AllByRecursion P (cond b (x ∷ filter left xs) (filter left xs))) [ true ↦ (all.0, each_left left P xs all.1) | false ↦ each_left left P xs all.1 ]

-- ---- two tests

module _ {X : Type 0} (p q : X → Bool) where
  -- what passes one test passes another
  pub all_others : (xs : List X) → ((x : X) → p x ≡ true → q x ≡ true) → list_all p xs ≡ true → list_all q xs ≡ true
  all_others [] step all = refl
  all_others (x ∷ xs) step all = let parts = both (p x) (list_all p xs) all in λ i. step x parts.0 i && all_others xs step parts.1 i

  -- of the items that are left by a third test
  pub all_left : (left : X → Bool) (xs : List X) → ((x : X) → left x ≡ true → p x ≡ true → q x ≡ true) → list_all p xs ≡ true → list_all q (filter left xs) ≡ true
  all_left left [] step all = refl
  all_left left (x ∷ xs) step all = let parts = both (p x) (list_all p xs) all in go (left x) refl parts.0 (all_left left xs step parts.1)
    where
      go : (b : Bool) → left x ≡ b → p x ≡ true → list_all q (filter left xs) ≡ true → list_all q (cond b (x ∷ filter left xs) (filter left xs)) ≡ true
      go true is passes rest = λ i. step x is passes i && rest i
      go false is passes rest = rest

-- ---- no two are the same

module _ {X : Type 0} (same : X → X → Bool) where
  pub distinct_left : (left : X → Bool) (xs : List X) → are_distinct same xs ≡ true → are_distinct same (filter left xs) ≡ true
  distinct_left left [] apart = refl
  distinct_left left (x ∷ xs) apart = let parts = both (not (list_any (same x) xs)) (are_distinct same xs) apart in go (left x) (none_left (not_true (list_any (same x) xs) parts.0)) (distinct_left left xs parts.1)
    where
      none_left : list_any (same x) xs ≡ false → list_any (same x) (filter left xs) ≡ false
      none_left none = none_passes (same x) (filter left xs) (each_left left (λ y. same x y ≡ false) xs (each_fails (same x) xs none))

      go : (b : Bool) → list_any (same x) (filter left xs) ≡ false → are_distinct same (filter left xs) ≡ true → are_distinct same (cond b (x ∷ filter left xs) (filter left xs)) ≡ true
      go true none rest = λ i. not (none i) && rest i
      go false none rest = rest

  pub distinct_without : (xs : List X) (i : ℕ) → are_distinct same xs ≡ true → are_distinct same (remove xs i) ≡ true
  distinct_without [] zero apart = refl
  distinct_without [] (suc i) apart = refl
  distinct_without (y ∷ ys) zero apart = (both (not (list_any (same y) ys)) (are_distinct same ys) apart).1
  distinct_without (y ∷ ys) (suc i) apart =
      let parts = both (not (list_any (same y) ys)) (are_distinct same ys) apart in
      λ j. not (none_without (same y) ys i (not_true (list_any (same y) ys) parts.0) j) && distinct_without ys i parts.1 j

  -- two lists, where no item of the first one is the same as one of the second
  pub distinct_joined : (xs ys : List X) → are_distinct same xs ≡ true → are_distinct same ys ≡ true → AllByRecursion (λ x. list_any (same x) ys ≡ false) xs → are_distinct same (xs ++ ys) ≡ true
  distinct_joined [] ys apart others none = others
  distinct_joined (x ∷ xs) ys apart others none =
      let parts = both (not (list_any (same x) xs)) (are_distinct same xs) apart in
      let first : list_any (same x) (xs ++ ys) ≡ false = list_any-append (same x) xs ys ∙ (λ i. not_true (list_any (same x) xs) parts.0 i || none.0 i) in
      λ i. not (first i) && distinct_joined xs ys parts.1 others none.1 i

  module _ (symmetric : (x y : X) → same x y ≡ false → same y x ≡ false) where
    pub distinct_with : (xs : List X) (i : ℕ) (x : X) → are_distinct same xs ≡ true → list_any (same x) xs ≡ false → are_distinct same (insert xs i x) ≡ true
    distinct_with xs zero x apart none = λ j. not (none j) && apart j
    distinct_with [] (suc i) x apart none = refl
    distinct_with (y ∷ ys) (suc i) x apart none =
        let parts = both (not (list_any (same y) ys)) (are_distinct same ys) apart in
        let others = neither (same x y) (list_any (same x) ys) none in
        let first : list_any (same y) (insert ys i x) ≡ false = none_with (same y) ys i x (not_true (list_any (same y) ys) parts.0) (symmetric x y others.0) in
        λ j. not (first j) && distinct_with ys i x parts.1 others.1 j

    -- an item that is taken out is none of those that are left
    pub differs_out : (xs : List X) (i : ℕ) (x : X) → are_distinct same xs ≡ true → slice_get xs i ≡ Some x → list_any (same x) (remove xs i) ≡ false
    differs_out [] i x apart found = absurd (cc)
    differs_out (y ∷ ys) zero x apart found =
        let one : y ≡ x = cc in ap (λ z. list_any (same z) ys) (sym one) ∙ not_true (list_any (same y) ys) (both (not (list_any (same y) ys)) (are_distinct same ys) apart).0
    differs_out (y ∷ ys) (suc i) x apart found =
        let parts = both (not (list_any (same y) ys)) (are_distinct same ys) apart in
        let other : same x y ≡ false = symmetric y x (all_got (λ z. same y z ≡ false) ys i x (each_fails (same y) ys (not_true (list_any (same y) ys) parts.0)) found) in
        λ j. other j || differs_out ys i x parts.1 found j
