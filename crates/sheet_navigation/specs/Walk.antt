-- Walks from a place of a sheet to the sheet's edge.
use Rattle.std.specs.Prelude.{ℕ, pos, ◌+ℤ◌, ◌-ℤ◌, List, map}
use Rattle.std.specs.Int.{int_gap}
use Rattle.std.specs.List.{range_with_len}
use Rattle.base_values.specs.declared.Position.{Position}
use Rattle.sheet_navigation.specs.declared.direction.NavigationDirection.{NavigationDirection}
use Rattle.sheet_navigation.specs.declared.direction.NavigationDirection.TheVariants.{Left, Right, Up, Down}

-- the place so many steps from one
unfoldable pub steps_on : NavigationDirection → Position → ℕ → Position
steps_on Left place n = record place { column = place.column -ℤ pos n }
steps_on Right place n = record place { column = place.column +ℤ pos n }
steps_on Up place n = record place { row = place.row -ℤ pos n }
steps_on Down place n = record place { row = place.row +ℤ pos n }

-- how many steps there are from a place to the sheet's edge
unfoldable pub steps_left : NavigationDirection → Position → ℕ
steps_left Left place = int_gap (pos 1) place.column
steps_left Right place = int_gap place.column (pos 16384)
steps_left Up place = int_gap (pos 1) place.row
steps_left Down place = int_gap place.row (pos 1048576)

-- the places that a walk passes: one step on, two steps on, and so forth up to the sheet's edge
unfoldable pub walk : NavigationDirection → Position → List Position
walk direction start = map (steps_on direction start) (range_with_len 1 (steps_left direction start))
