-- Items that are found by their ids.
use Rattle.std.proofs.Common.{◌≡◌, ℕ, Bool, true, false, cond, List, [], ◌∷◌, map, Option, Some, None, refl, ap, sym, subst, ◌∙◌}
use Rattle.std.specs.Prelude.{◌==◌}
use Rattle.std.specs.List.{find, AllByRecursion, IsDistinct}
use Rattle.std.specs.Cmp.{nat_eq_equiv, unsigned_Decides}

-- what is found passes
pub found_passes : {S : Type 0} (p : S → Bool) (xs : List S) (x : S) → find p xs ≡ Some x → p x ≡ true
found_passes p [] x h = absurd (cc)
found_passes p (y ∷ xs) x h = by_test (found_passes p xs x) (p y) refl h
  where
    by_test : (find p xs ≡ Some x → p x ≡ true) → (b : Bool) → p y ≡ b → cond b (Some y) (find p xs) ≡ Some x → p x ≡ true
    by_test rest true e g = let same : y ≡ x = cc in ap p (sym same) ∙ e
    by_test rest false e g = rest g

-- what holds of each item holds of the one that is found
pub found_holds : {S : Type 0} (p : S → Bool) (P : S → Type 0) (xs : List S) → AllByRecursion P xs → (x : S) → find p xs ≡ Some x → P x
found_holds p P [] all x h = absurd (cc)
found_holds p P (y ∷ xs) all x h = by_test (found_holds p P xs all.1 x) (p y) h
  where
    by_test : (find p xs ≡ Some x → P x) → (b : Bool) → cond b (Some y) (find p xs) ≡ Some x → P x
    by_test rest true g = let same : y ≡ x = cc in subst P same all.0
    by_test rest false g = rest g

-- where each item comes back, so does the list
pub all_come_back : {S : Type 0} (P : S → Type 0) (there back : S → S) → ((x : S) → P x → back (there x) ≡ x) → (xs : List S) → AllByRecursion P xs → map back (map there xs) ≡ xs
all_come_back P there back each [] all = refl
all_come_back P there back each (x ∷ xs) all = λ i. each x all.0 i ∷ all_come_back P there back each xs all.1 i

module _ {S : Type 0} (id_of : S → ℕ) where
  -- the item of an id
  abbrev pub found_by : ℕ → List S → Option S
  found_by n items = find (λ item. id_of item == n) items

  -- behind an item there is none of its id
  pub not_again : (item : S) (items : List S) → AllByRecursion (λ other. (id_of item == other) ≡ false) (map id_of items) → (n : ℕ) → (id_of item == n) ≡ true → found_by n items ≡ None
  not_again item [] apart n it = refl
  not_again item (other ∷ items) apart n it =
      ap (λ b. cond b (Some other) (found_by n items))
      (ap (λ m. id_of other == m) (sym ((unsigned_Decides (id_of item) n).0 it)) ∙ nat_eq_equiv.symm (id_of other) (id_of item) ∙ apart.0)
      ∙ not_again item items apart.1 n it

  behind : (first : S) (items all : List S) → AllByRecursion (λ other. (id_of first == other) ≡ false) (map id_of items) → AllByRecursion (λ item. found_by (id_of item) all ≡ Some item) items →
      AllByRecursion (λ item. found_by (id_of item) (first ∷ all) ≡ Some item) items
  behind first [] all apart found = tt
  behind first (item ∷ items) all apart found = (ap (λ b. cond b (Some first) (found_by (id_of item) all)) apart.0 ∙ found.0, behind first items all apart.1 found.1)

  -- where ids differ, each item is found by its own
  pub all_found : (items : List S) → IsDistinct ◌==◌ (map id_of items) → AllByRecursion (λ item. found_by (id_of item) items ≡ Some item) items
  unfolding IsDistinct
  all_found [] distinct = tt
  all_found (item ∷ items) distinct = (
    ap (λ b. cond b (Some item) (found_by (id_of item) items)) ((unsigned_Decides (id_of item) (id_of item)).1 refl),
    behind item items items distinct.0 (all_found items distinct.1),
  )
