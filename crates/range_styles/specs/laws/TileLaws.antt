-- Styles that are laid over places have fonts of size 1 or more.
use Rattle.std.proofs.Common.{◌≡◌, Bool, true, false, cond, List, Option, Some, None, refl}
use Rattle.std.specs.Prelude.{◌-ℤ◌, IsTrue, unsigned_abs}
use Rattle.base_values.specs.declared.Position.{Position}
use Rattle.base_styles.specs.declared.Style.{Style}
use Rattle.sheet_rules.specs.WellFormed.{has_font}
use Rattle.range_styles.specs.Tiles.{style_instead, tile_at, tiles}

instead_sized : (style : Style) (o : Option Style) → IsTrue (has_font style) → IsTrue (has_font (style_instead style o))
instead_sized style None font = font
instead_sized style (Some other) font = go (has_font other) refl
  where
    go : (b : Bool) → has_font other ≡ b → IsTrue (has_font (cond b other style))
    go true is = is
    go false is = font

pub tiles_sized : (styles : List (List Style)) (first place : Position) (style : Style) → IsTrue (has_font style)
    → IsTrue (has_font (tiles styles first place style))
tiles_sized styles first place style =
    instead_sized style (tile_at styles (unsigned_abs (place.row -ℤ first.row)) (unsigned_abs (place.column -ℤ first.column)))
