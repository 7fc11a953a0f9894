-- What maps of places hold that stand under the ids of sheets.
use Rattle.std.proofs.Common.{◌≡◌, ℕ, ◌+◌, ◌<◌, List, [], length, map, take, get_or, refl}
use Rattle.std.specs.Prelude.{◌==◌, IfSome}
use Rattle.std.specs.List.{find as first, IsDistinct}
use Rattle.std.specs.FinMap.{FinMap, empty, get}
use Rattle.base_values.specs.declared.Position.{Position}
use Rattle.base_values.specs.Places.{position_cmp}
use Rattle.base_values.specs.laws.Places.{position_total, exact_positions}
use Rattle.base_maps.specs.declared.sheet_place.SheetPlace.{SheetPlace}
use Rattle.base_maps.specs.Carried.{if_there}
use Rattle.base_maps.specs.SheetPlaces.{sheet_place_cmp}
use Rattle.base_maps.specs.Tagged.{place_on, put_under, all_under}
use Rattle.base_maps.specs.laws.SheetPlaces.{sheet_place_total, exact_sheet_places}
use Rattle.base_maps.specs.laws.Under as keys

-- places stand under the ids of their sheets
places_under : keys.StandUnder position_cmp sheet_place_cmp place_on (λ at. at.sheet) (λ at. at.place)
places_under = record {
  own_total = position_total;
  own_exact = exact_positions;
  total = sheet_place_total;
  exact = exact_sheet_places;
  by_id = λ at id p. refl;
}

module _ {X : Type 0} where
  -- what holds of the values of a map and of those it is put among holds of all
  pub put_under_are : (P : X → Type 0) (id : ℕ) (m : FinMap position_cmp X) (own : FinMap sheet_place_cmp X) →
      ((p : Position) → IfSome (get m p) P) → ((k : SheetPlace) → IfSome (get own k) P) → (k : SheetPlace) → IfSome (get (put_under id m own) k) P
  put_under_are P id m own h i k = keys.put_under_are places_under P id m own h i k

  module _ {S : Type 0} (id_of : S → ℕ) (map_of : S → FinMap position_cmp X) where
    -- under each id stands the map of the item that is found by it, and nothing else
    pub get-all_under : (items : List S) → IsDistinct ◌==◌ (map id_of items) → (n : ℕ) (p : Position) →
        get (all_under id_of map_of items) (place_on n p) ≡ if_there (first (λ item. id_of item == n) items) (λ item. get (map_of item) p)
    get-all_under items distinct n p = keys.get-all_under places_under id_of map_of items distinct (place_on n p)

    -- of no items
    pub all_under_none : all_under id_of map_of [] ≡ empty
    all_under_none = keys.all_under_none places_under id_of map_of

    -- of the first items, with one more
    pub all_under_more : (items : List S) (i : ℕ) (item : S) → i < length items → item ≡ get_or items i item →
        all_under id_of map_of (take (i + 1) items) ≡ put_under (id_of item) (map_of item) (all_under id_of map_of (take i items))
    all_under_more items i item within is = keys.all_under_more places_under id_of map_of items i item within is
