-- Where navigation goes from a place of a sheet.
use Rattle.std.specs.Prelude.{ℤ, Bool, not, ◌||◌, if◌then◌else◌, List, [], ◌∷◌, Result}
use Rattle.std.specs.List.{All, find, take_while}
use Rattle.std.specs.Option.{option_map_or, unwrap_or}
use Rattle.base_values.specs.declared.EditError.{EditError}
use Rattle.base_values.specs.declared.Position.{Position}
use Rattle.base_values.specs.Answers.{map_ok}
use Rattle.base_values.specs.Places.{place_of}
use Rattle.base_axis.specs.declared.MergedCell.{MergedCell}
use Rattle.base_axis.specs.Rectangles.{IsInside, last_row, last_column}
use Rattle.sheet_grid.specs.Merges.{merge_holding, anchor_of, is_blank}
use Rattle.sheet_grid.specs.Sheet.{Sheet}
use Rattle.sheet_navigation.specs.declared.direction.NavigationDirection.{NavigationDirection}
use Rattle.sheet_navigation.specs.declared.direction.NavigationDirection.TheVariants.{Left, Right, Up, Down}
use Rattle.sheet_navigation.specs.Walk.{walk}

-- the merges of a sheet are inside it
abbrev pub MergesInside : Sheet → Type 0
MergesInside sheet = All IsInside sheet.merges

-- the place at the far edge of a merge, on the same row where the direction goes along a row, else in the same column
unfoldable pub far_edge : NavigationDirection → MergedCell → Position → Position
far_edge Left merge place = record place { column = merge.column }
far_edge Right merge place = record place { column = last_column merge }
far_edge Up merge place = record place { row = merge.row }
far_edge Down merge place = record place { row = last_row merge }

-- where the walk begins: at the far edge of the merge that holds the place, if one does
unfoldable pub walk_start : Sheet → NavigationDirection → Position → Position
walk_start sheet direction place = option_map_or (λ merge. far_edge direction merge place) (merge_holding sheet.merges place) place

-- a place is as empty as the first place of the merge that holds it
unfoldable pub shows_nothing : Sheet → Position → Bool
shows_nothing sheet place = is_blank sheet (anchor_of sheet.merges place)

-- the last of some places, or the start where there is none
abbrev pub last_place : Position → List Position → Position
last_place start [] = start
last_place start (place ∷ places) = last_place place places

-- the first place that is not empty, else the last one
unfoldable pub first_filled : (Position → Bool) → Position → List Position → Position
first_filled empty start places = unwrap_or (find (λ place. not (empty place)) places) (last_place start places)

-- the last place before the first empty one
unfoldable pub last_filled : (Position → Bool) → Position → List Position → Position
last_filled empty start places = last_place start (take_while (λ place. not (empty place)) places)

-- of the places that a walk passes: from an empty start, or beside an empty neighbour, the first place that is not empty, else the last one
-- passed; from any other start the last place of the run that begins there. Where no step is possible it is the start
unfoldable pub reached : (Position → Bool) → Position → List Position → Position
reached empty start [] = start
reached empty start (next ∷ rest) =
    if empty start || empty next then first_filled empty start (next ∷ rest) else last_filled empty start (next ∷ rest)

-- where navigation goes from a place
unfoldable pub navigated : Sheet → NavigationDirection → Position → Position
navigated sheet direction place = let start = walk_start sheet direction place in reached (shows_nothing sheet) start (walk direction start)

-- the same from a row and a column, or the first of them that is outside
abbrev pub navigated_at : Sheet → ℤ → ℤ → NavigationDirection → Result (ℤ × ℤ) EditError
navigated_at sheet row column direction =
    map_ok (λ place. ((navigated sheet direction place).row, (navigated sheet direction place).column)) (place_of row column)
