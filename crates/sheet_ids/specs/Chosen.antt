-- Which sheet is selected after an edit, and what of it.
use Rattle.std.specs.Prelude.{ℕ, ℤ, ◌+◌, ◌-◌, ◌==◌, ◌&&◌, nat_lt, nat_eq, min, Bool, true, false, List, length, take, drop, slice_get, Option, if◌then◌else◌}
use Rattle.std.specs.List.{position}
use Rattle.std.specs.Option.{option_eq, option_map, option_or}
use Rattle.sheet_grid.specs.declared.SheetState.{SheetState}
use Rattle.sheet_grid.specs.declared.SheetState.TheVariants.{Visible, Hidden, VeryHidden}
use Rattle.sheet_grid.specs.Sheet.{Sheet}
use Rattle.sheet_ids.specs.declared.view.View.{View}
use Rattle.sheet_ids.specs.Views.{first_range}

-- ---- the index that an edit selects

abbrev pub is_shown : SheetState → Bool
is_shown Visible = true
is_shown Hidden = false
is_shown VeryHidden = false

abbrev pub is_visible : Sheet → Bool
is_visible sheet = is_shown sheet.state

-- the next visible sheet behind the one at an index, else the first one before it
abbrev pub next_visible : List Sheet → ℕ → Option ℕ
next_visible sheets index = option_or (option_map (λ further. index + 1 + further) (position is_visible (drop (index + 1) sheets))) (position is_visible (take index sheets))

-- where the last one of so many sheets was deleted, the one before it is selected
abbrev pub selected_after_delete : ℕ → ℕ → ℕ → ℕ
selected_after_delete count index selected = if (index + 1 == count) && nat_lt 0 index then index - 1 else selected

-- ---- the view where an index is selected

abbrev pub id_of : Sheet → ℕ
id_of sheet = sheet.id

-- the id of the sheet at an index
abbrev pub id_at : List Sheet → ℕ → Option ℕ
id_at sheets index = option_map id_of (slice_get sheets index)

-- the index of the last one of so many sheets. Their ids are distinct numbers below 2^32, so they are no more than that
abbrev pub last_index : ℕ → ℕ
last_index count = min (count - 1) 4294967295

-- what was selected of a sheet, as long as it is that sheet. Another one starts at A1
abbrev pub range_of : Option ℕ → Option ℕ → List ℤ → List ℤ
range_of was is range = if option_eq nat_eq was is then range else first_range

-- an index behind the last one becomes the last. The sheet that was viewed before had that id
abbrev pub viewed : Option ℕ → List Sheet → ℕ → View → View
viewed was sheets index view =
    let chosen : ℕ = min index (last_index (length sheets)) in record { sheet = chosen; range = range_of was (id_at sheets chosen) view.range }
