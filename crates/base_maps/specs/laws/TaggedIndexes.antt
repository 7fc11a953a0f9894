-- What maps of indexes hold that stand under the ids of sheets.
use Rattle.std.proofs.Common.{◌≡◌, ℕ, ◌+◌, ◌<◌, List, [], length, map, take, get_or, refl}
use Rattle.std.specs.Prelude.{◌==◌, IfSome}
use Rattle.std.specs.List.{find as first, IsDistinct}
use Rattle.std.specs.Cmp.{nat_cmp_total}
use Rattle.std.specs.FinMap.{FinMap, empty, get, nat_cmp-IsAntisymmetric}
use Rattle.std.specs.Ordering.{nat_cmp}
use Rattle.base_values.specs.KeyMap.{put_under as put_keys_under}
use Rattle.base_maps.specs.declared.sheet_index.SheetIndex.{SheetIndex}
use Rattle.base_maps.specs.Carried.{if_there}
use Rattle.base_maps.specs.SheetIndexes.{sheet_index_cmp}
use Rattle.base_maps.specs.TaggedIndexes.{index_on, all_under}
use Rattle.base_maps.specs.laws.SheetIndexes.{sheet_index_total, exact_sheet_indexes}
use Rattle.base_maps.specs.laws.Under as keys

-- indexes stand under the ids of their sheets
indexes_under : keys.StandUnder nat_cmp sheet_index_cmp index_on (λ at. at.sheet) (λ at. at.index)
indexes_under = record {
  own_total = nat_cmp_total;
  own_exact = nat_cmp-IsAntisymmetric;
  total = sheet_index_total;
  exact = exact_sheet_indexes;
  by_id = λ at id p. refl;
}

module _ {X : Type 0} where
  -- the entries of a map, put one after another under the id of a sheet
  abbrev pub put_under : ℕ → FinMap nat_cmp X → FinMap sheet_index_cmp X → FinMap sheet_index_cmp X
  put_under id m own = put_keys_under index_on id m own

  -- what holds of the values of a map and of those it is put among holds of all
  pub put_under_are : (P : X → Type 0) (id : ℕ) (m : FinMap nat_cmp X) (own : FinMap sheet_index_cmp X) →
      ((p : ℕ) → IfSome (get m p) P) → ((k : SheetIndex) → IfSome (get own k) P) → (k : SheetIndex) → IfSome (get (put_under id m own) k) P
  put_under_are P id m own h i k = keys.put_under_are indexes_under P id m own h i k

  module _ {S : Type 0} (id_of : S → ℕ) (map_of : S → FinMap nat_cmp X) where
    -- under each id stands the map of the item that is found by it, and nothing else
    pub get-all_under : (items : List S) → IsDistinct ◌==◌ (map id_of items) → (n : ℕ) (p : ℕ) →
        get (all_under id_of map_of items) (index_on n p) ≡ if_there (first (λ item. id_of item == n) items) (λ item. get (map_of item) p)
    get-all_under items distinct n p = keys.get-all_under indexes_under id_of map_of items distinct (index_on n p)

    -- of no items
    pub all_under_none : all_under id_of map_of [] ≡ empty
    all_under_none = keys.all_under_none indexes_under id_of map_of

    -- of the first items, with one more
    pub all_under_more : (items : List S) (i : ℕ) (item : S) → i < length items → item ≡ get_or items i item →
        all_under id_of map_of (take (i + 1) items) ≡ put_under (id_of item) (map_of item) (all_under id_of map_of (take i items))
    all_under_more items i item within is = keys.all_under_more indexes_under id_of map_of items i item within is
