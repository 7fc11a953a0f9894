-- Maps whose keys stand under the ids of sheets.
use Rattle.std.specs.Prelude.{ℕ, ◌==◌, List, map, Option, None, if◌then◌else◌}
use Rattle.std.specs.List.{filter_map, flat_map, last_or}
use Rattle.std.specs.declared.cmp.Ordering.{Ordering}
use Rattle.std.specs.FinMap.{FinMap, get, keys}
use Rattle.base_maps.specs.Carried.{map_at}

module _ {S X P : Type 0} {Q : P → P → Ordering} where
  -- what the map of an item has at a key, if this is the id of the item
  abbrev pub value_under : (S → ℕ) → (S → FinMap Q X) → ℕ → P → S → Option X
  value_under id_of map_of id key item = if id_of item == id then get (map_of item) key else None

  -- what stands under an id and a key: what the last item of that id has there, of those that have something there
  abbrev pub last_under : (S → ℕ) → (S → FinMap Q X) → ℕ → P → List S → Option X
  last_under id_of map_of id key items = last_or None (filter_map (value_under id_of map_of id key) items)

  -- the keys of the maps of all items, each under the id of its item
  abbrev pub keys_under : {K : Type 0} → (ℕ → P → K) → (S → ℕ) → (S → FinMap Q X) → List S → List K
  keys_under under id_of map_of items = flat_map (λ item. map (under (id_of item)) (keys (map_of item))) items

  -- the maps of the items of a list, each under the id of its item
  unfoldable pub all_under : {K : Type 0} {R : K → K → Ordering} → (ℕ → P → K) → (K → ℕ) → (K → P) → (S → ℕ) → (S → FinMap Q X) → List S → FinMap R X
  all_under under tag_of key_of id_of map_of items =
      map_at (keys_under under id_of map_of items) (λ at. last_under id_of map_of (tag_of at) (key_of at) items)
