-- What is kept of a list's items under their places: what stands there, and that the items come back with it.
use Rattle.std.proofs.Common.{◌≡◌, ℕ, ◌+◌, ◌≤◌, ◌<◌, Bool, true, false, cond, List, [], ◌∷◌, ◌++◌, length, map, take, get_or, Option, Some, None, refl, ap, sym, subst, ◌∙◌, arith}
use Rattle.std.specs.Prelude.{IfSome, nat_lt}
use Rattle.std.specs.List.{AllByRecursion, cons_option, enumerate_from, filter_map}
use Rattle.std.specs.Option.{option_map}
use Rattle.std.specs.Cmp.{nat_cmp_total}
use Rattle.std.specs.Ordering.{eq_by_cmp, nat_cmp}
use Rattle.std.specs.FinMap.{from_entries, from_entries_push, get, get-from_entries}
use Rattle.std.specs.FinMap.Entries.{find}
use Rattle.std.proofs.lemmas.Bool.{ltb-false}
use Rattle.std.proofs.lemmas.List.{append-nil, length-take-le, take_more}
use Rattle.std.proofs.lemmas.List.Elements.{filter_map-append}
use Rattle.std.proofs.lemmas.Map.Lookups.{exact_unsigned}
use Rattle.base_maps.specs.Carried.{settled}
use Rattle.base_maps.specs.laws.Gathering.{with_made}
use Rattle.base_maps.specs.laws.Keys.{own_key, apart_keys}
use Rattle.base_maps.specs.laws.Known.{found_known}
use Rattle.base_maps.specs.ByIndex.{kept_at, kept_by_index, restored_at, restored_by_index}

-- ---- numbered lists

module _ {F : Type 0} where
  -- one item more, with its number
  counted : (at : ℕ) (items : List F) (item : F) → enumerate_from at (items ++ item ∷ []) ≡ enumerate_from at items ++ (at + length items, item) ∷ []
  counted at [] item = let here : at ≡ at + 0 = omega arith in ap (λ n. (n, item) ∷ []) here
  counted at (first ∷ items) item =
      let on : (at + 1) + length items ≡ at + length (first ∷ items) = omega arith in
      ap (λ es. (at, first) ∷ es) (counted (at + 1) items item ∙ ap (λ n. enumerate_from (at + 1) items ++ (n, item) ∷ []) on)

  -- the first items with one more
  pub numbered_more : (items : List F) (i : ℕ) (d : F) → i < length items → enumerate_from 0 (take (i + 1) items) ≡ enumerate_from 0 (take i items) ++
      (i, get_or items i d) ∷ []
  numbered_more items i d within =
      ap (enumerate_from 0) (take_more items i d within) ∙ counted 0 (take i items) (get_or items i d)
      ∙ ap (λ n. enumerate_from 0 (take i items) ++ (n, get_or items i d) ∷ []) count
    where
      count : 0 + length (take i items) ≡ i
      count = let long : length (take i items) ≡ i = length-take-le i items (omega arith) in omega (arith, long)

module _ {F P : Type 0} (part : F → Option P) where
  -- what is kept of some items with their places, where the first one has the place at
  abbrev listed : ℕ → List F → List (ℕ × P)
  listed at items = filter_map (kept_at part) (enumerate_from at items)

  unequal : (m n : ℕ) → m < n → eq_by_cmp nat_cmp n m ≡ false
  unequal m n h = apart_keys nat_cmp nat_cmp_total exact_unsigned n m (λ same. absurd (omega arith))

  other : (m n : ℕ) → m < n → eq_by_cmp nat_cmp m n ≡ false
  other m n h = apart_keys nat_cmp nat_cmp_total exact_unsigned m n (λ same. absurd (omega arith))

  -- what is kept of one item is found under its place, before what is kept of others
  first_kept : (at : ℕ) (o : Option P) (rest : List (ℕ × P)) → find nat_cmp at rest ≡ None → find nat_cmp at
      (cons_option (option_map (λ kept. (at, kept)) o) rest) ≡ o
  first_kept at None rest none = none
  first_kept at (Some kept) rest none = ap (λ b. cond b (Some kept) (find nat_cmp at rest)) (own_key nat_cmp nat_cmp_total exact_unsigned at)

  -- elsewhere it stands in the way of none
  later_kept : (at q : ℕ) → at < q → (o : Option P) (rest : List (ℕ × P)) → find nat_cmp q
      (cons_option (option_map (λ kept. (at, kept)) o) rest) ≡ find nat_cmp q rest
  later_kept at q h None rest = refl
  later_kept at q h (Some kept) rest = ap (λ b. cond b (Some kept) (find nat_cmp q rest)) (unequal at q h)

  -- before the first place nothing is kept
  none_before : (at q : ℕ) → q < at → (items : List F) → find nat_cmp q (listed at items) ≡ None
  none_before at q h [] = refl
  none_before at q h (item ∷ items) = go (part item) ∙ none_before (at + 1) q (omega arith) items
    where
      go : (o : Option P) → find nat_cmp q (cons_option (option_map (λ kept. (at, kept)) o) (listed (at + 1) items)) ≡ find nat_cmp q (listed (at + 1) items)
      go None = refl
      go (Some kept) = ap (λ b. cond b (Some kept) (find nat_cmp q (listed (at + 1) items))) (other q at h)

  -- nor is behind the last one
  none_behind : (at q : ℕ) (items : List F) → at + length items ≤ q → find nat_cmp q (listed at items) ≡ None
  none_behind at q [] h = refl
  none_behind at q (item ∷ items) h = later_kept at q (omega arith) (part item) (listed (at + 1) items) ∙ none_behind (at + 1) q items (omega arith)

  -- what is kept of each item of a list, whose first one has the place at, stands under its place
  abbrev KeptAt : (ℕ → Option P) → ℕ → List F → Type 0
  KeptAt kept at [] = Unit {0}
  KeptAt kept at (item ∷ items) = (kept at ≡ part item) × KeptAt kept (at + 1) items

  also_at : (kept others : ℕ → Option P) (at : ℕ) (items : List F) → ((q : ℕ) → at ≤ q → others q ≡ kept q) → KeptAt kept at items → KeptAt others at items
  also_at kept others at [] same all = tt
  also_at kept others at (item ∷ items) same all = (same at (omega arith) ∙ all.0, also_at kept others (at + 1) items (λ q h. same q (omega arith)) all.1)

  listed_at : (at : ℕ) (items : List F) → KeptAt (λ q. find nat_cmp q (listed at items)) at items
  listed_at at [] = tt
  listed_at at (item ∷ items) = (
    first_kept at (part item) (listed (at + 1) items) (none_before (at + 1) at (omega arith) items),
    also_at (λ q. find nat_cmp q (listed (at + 1) items)) (λ q. find nat_cmp q (listed at (item ∷ items))) (at + 1) items
        (λ q h. later_kept at q (omega arith) (part item) (listed (at + 1) items)) (listed_at (at + 1) items),
  )

  items_are_kept : (items : List F) → KeptAt (get (kept_by_index part items)) 0 items
  items_are_kept items =
      also_at (λ q. find nat_cmp q (listed 0 items)) (get (kept_by_index part items)) 0 items (λ q h. get-from_entries nat_cmp_total (listed 0 items) q)
      (listed_at 0 items)

  -- what is kept has the place of an item
  pub kept_within : (items : List F) (q : ℕ) (k : P) → get (kept_by_index part items) q ≡ Some k → nat_lt q (length items) ≡ true
  kept_within items q k h = go (nat_lt q (length items)) refl
    where
      go : (b : Bool) → nat_lt q (length items) ≡ b → b ≡ true
      go true e = refl
      go false e =
          let far : length items ≤ q = ltb-false q (length items) e in
          let none : find nat_cmp q (listed 0 items) ≡ None = none_behind 0 q items (omega arith) in
          let both : None ≡ Some k = sym none ∙ sym (get-from_entries nat_cmp_total (listed 0 items) q) ∙ h in
          absurd (cc)

  -- ---- what is known of it

  module _ (Q : F → Type 0) (R : P → Type 0) (h : (item : F) → Q item → IfSome (part item) R) where
    with_part : (at : ℕ) (o : Option P) (rest : List (ℕ × P)) → IfSome o R → AllByRecursion (λ (entry : ℕ × P). R entry.1) rest →
        AllByRecursion (λ (entry : ℕ × P). R entry.1) (cons_option (option_map (λ kept. (at, kept)) o) rest)
    with_part at None rest known all = all
    with_part at (Some kept) rest known all = (known, all)

    listed_are : (at : ℕ) (items : List F) → AllByRecursion Q items → AllByRecursion (λ (entry : ℕ × P). R entry.1) (listed at items)
    listed_are at [] all = tt
    listed_are at (item ∷ items) all = with_part at (part item) (listed (at + 1) items) (h item all.0) (listed_are (at + 1) items all.1)

    -- what holds of the part of each item holds of all that is kept
    pub kept_are : (items : List F) → AllByRecursion Q items → (q : ℕ) → IfSome (get (kept_by_index part items) q) R
    kept_are items all q =
        subst (λ o. IfSome o R) (sym (get-from_entries nat_cmp_total (listed 0 items) q)) (found_known nat_cmp R (listed 0 items) (listed_are 0 items all) q)

  -- ---- there and back

  module _ (carry home : F → F) (restore : F → P → F) (Q : F → Type 0) (back : (item : F) → Q item → part item ≡ None → home (carry item) ≡ item)
      (regained : (item : F) → Q item → (kept : P) → part item ≡ Some kept → restore (carry item) kept ≡ item) where
    settles : (item : F) → Q item → (o : Option P) → part item ≡ o → settled home restore o (carry item) ≡ item
    settles item known None h = back item known h
    settles item known (Some kept) h = regained item known kept h

    all_regained : (kept : ℕ → Option P) (at : ℕ) (items : List F) → AllByRecursion Q items → KeptAt kept at items →
        map (restored_at home restore kept) (enumerate_from at (map carry items)) ≡ items
    all_regained kept at [] known all = refl
    all_regained kept at (item ∷ items) known all = λ i.
        (ap (λ o. settled home restore o (carry item)) all.0 ∙ settles item known.0 (part item) refl) i
        ∷ all_regained kept (at + 1) items known.1 all.1 i

    -- the items come back with what is kept of them
    pub items_regained : (items : List F) → AllByRecursion Q items → restored_by_index home restore (get (kept_by_index part items)) (map carry items) ≡ items
    items_regained items known = all_regained (get (kept_by_index part items)) 0 items known (items_are_kept items)

  -- ---- kept one after another

  -- what is kept of the first items, with one more
  pub kept_more : (items : List F) (i : ℕ) (d : F) → i < length items →
      kept_by_index part (take (i + 1) items) ≡ with_made (kept_at part (i, get_or items i d)) (kept_by_index part (take i items))
  kept_more items i d within =
      ap (λ es. from_entries (filter_map (kept_at part) es)) (numbered_more items i d within)
      ∙ ap from_entries (filter_map-append (kept_at part) (enumerate_from 0 (take i items)) ((i, get_or items i d) ∷ []))
      ∙ go (part (get_or items i d))
    where
      long : length (take i items) ≡ i
      long = length-take-le i items (omega arith)

      go : (o : Option P) → from_entries {R = nat_cmp} (listed 0 (take i items) ++ cons_option (option_map (λ kept. (i, kept)) o) []) ≡
          with_made (option_map (λ kept. (i, kept)) o) (kept_by_index part (take i items))
      go None = ap from_entries (append-nil (listed 0 (take i items)))
      go (Some kept) = from_entries_push nat_cmp_total exact_unsigned (listed 0 (take i items)) i kept (none_behind 0 i (take i items) (omega (arith, long)))

-- what holds of restored items
module _ {F P : Type 0} (carry : F → F) (restore : F → P → F) (Q R : F → Type 0) (K : P → Type 0) (carried : (item : F) → Q item → R (carry item))
    (laid : (item : F) (kept : P) → K kept → R (restore item kept)) where
  settled_is : (item : F) → Q item → (o : Option P) → IfSome o K → R (settled carry restore o item)
  settled_is item known None h = carried item known
  settled_is item known (Some kept) h = laid item kept h

  restored_from : (kept : ℕ → Option P) → ((q : ℕ) → IfSome (kept q) K) → (at : ℕ) (items : List F) → AllByRecursion Q items →
      AllByRecursion R (map (restored_at carry restore kept) (enumerate_from at items))
  restored_from kept all at [] known = tt
  restored_from kept all at (item ∷ items) known = (settled_is item known.0 (kept at) (all at), restored_from kept all (at + 1) items known.1)

  -- where it holds of what is carried back, and of what is kept
  pub restored_are : (kept : ℕ → Option P) → ((q : ℕ) → IfSome (kept q) K) → (items : List F) → AllByRecursion Q items → AllByRecursion R
      (restored_by_index carry restore kept items)
  restored_are kept all items known = restored_from kept all 0 items known
