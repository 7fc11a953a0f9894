-- Maps of indexes under the ids of their sheets.
use Rattle.std.specs.Prelude.{ℕ, List}
use Rattle.std.specs.FinMap.{FinMap}
use Rattle.std.specs.Ordering.{nat_cmp}
use Rattle.base_maps.specs.declared.sheet_index.SheetIndex.{SheetIndex}
use Rattle.base_maps.specs.SheetIndexes.{sheet_index_cmp}
use Rattle.base_maps.specs.Under.{all_under as all_keys_under}

-- an index of the sheet of an id
abbrev pub index_on : ℕ → ℕ → SheetIndex
index_on id index = record { sheet = id; index = index }

-- the maps of the items of a list, each under the id of its item
abbrev pub all_under : {S X : Type 0} → (S → ℕ) → (S → FinMap nat_cmp X) → List S → FinMap sheet_index_cmp X
all_under id_of map_of items = all_keys_under index_on (λ at. at.sheet) (λ at. at.index) id_of map_of items
