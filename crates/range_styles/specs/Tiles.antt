-- Styles that are laid over places as tiles.
use Rattle.std.specs.Prelude.{ℕ, ◌%◌, ◌-ℤ◌, List, length, Option, Some, None, slice_get, unsigned_abs, if◌then◌else◌}
use Rattle.std.specs.Option.{option_and_then}
use Rattle.base_values.specs.declared.Position.{Position}
use Rattle.base_styles.specs.declared.Style.{Style}
use Rattle.sheet_rules.specs.WellFormed.{has_font}
use Rattle.range_styles.specs.Styled.{StyleAt}

-- the item of a list so many places on, where the list is repeated without end
abbrev pub repeated : {T : Type 0} → List T → ℕ → Option T
repeated items index = slice_get items (index % length items)

-- the style that stands so many rows and columns behind the first one of a tile
abbrev pub tile_at : List (List Style) → ℕ → ℕ → Option Style
tile_at styles rows columns = option_and_then (λ row. repeated row columns) (repeated styles rows)

-- a style in place of another one, if it is there and its font has a size of 1 or more
abbrev pub style_instead : Style → Option Style → Style
style_instead style None = style
style_instead style (Some other) = if has_font other then other else style

-- each place gets the style of the tile that lies over it, where the first one begins at a place
abbrev pub tiles : List (List Style) → Position → StyleAt
tiles styles first place style = style_instead style (tile_at styles (unsigned_abs (place.row -ℤ first.row)) (unsigned_abs (place.column -ℤ first.column)))
