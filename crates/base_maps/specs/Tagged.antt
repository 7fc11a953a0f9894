-- Maps of places under the ids of their sheets.
use Rattle.std.specs.Prelude.{ℕ, List}
use Rattle.std.specs.FinMap.{FinMap}
use Rattle.base_values.specs.declared.Position.{Position}
use Rattle.base_values.specs.KeyMap.{put_under as put_keys_under}
use Rattle.base_values.specs.Places.{position_cmp}
use Rattle.base_maps.specs.declared.sheet_place.SheetPlace.{SheetPlace}
use Rattle.base_maps.specs.SheetPlaces.{sheet_place_cmp}
use Rattle.base_maps.specs.Under.{all_under as all_keys_under}

-- a place of the sheet of an id
abbrev pub place_on : ℕ → Position → SheetPlace
place_on id place = record { sheet = id; place = place }

-- the entries of a map, put one after another under the id of a sheet
abbrev pub put_under : {X : Type 0} → ℕ → FinMap position_cmp X → FinMap sheet_place_cmp X → FinMap sheet_place_cmp X
put_under id m own = put_keys_under place_on id m own

-- the maps of the items of a list, each under the id of its item
abbrev pub all_under : {S X : Type 0} → (S → ℕ) → (S → FinMap position_cmp X) → List S → FinMap sheet_place_cmp X
all_under id_of map_of items = all_keys_under place_on (λ at. at.sheet) (λ at. at.place) id_of map_of items
