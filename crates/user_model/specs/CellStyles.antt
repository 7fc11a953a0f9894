-- The style that a cell shows beside its neighbours.
use Rattle.std.proofs.Common.{ℕ, ℤ, pos, ◌+ℤ◌, ◌-ℤ◌, Option, None, Result, Ok, Err}
use Rattle.std.specs.Prelude.{if◌then◌else◌}
use Rattle.base_values.specs.declared.EditError.{EditError}
use Rattle.base_values.specs.declared.Position.{Position}
use Rattle.base_values.specs.Answers.{and_then, map_ok}
use Rattle.base_values.specs.Places.{place_of}
use Rattle.base_styles.specs.declared.Border.{Border}
use Rattle.base_styles.specs.declared.BorderItem.{BorderItem}
use Rattle.base_styles.specs.declared.Style.{Style}
use Rattle.base_styles.specs.declared.Theme.{Theme}
use Rattle.style_edits.specs.BorderOrder.{is_max_border}
use Rattle.sheet_grid.specs.Sheet.{Sheet, shown_style, style_at}
use Rattle.sheet_grid.specs.Book.{Book, sheet_at}

abbrev pub no_border : Border
no_border = record { left = None; right = None; top = None; bottom = None }

-- the border of the style at a place, and none outside the sheet
abbrev pub border_of : Result Style EditError → Border
border_of (Ok style) = style.border
border_of (Err error) = no_border

abbrev pub border_at : Sheet → ℤ → ℤ → Border
border_at sheet row column = border_of (style_at sheet row column)

-- the neighbour's facing border, where that one shows, else the own one
abbrev pub heavier : Theme → Option BorderItem → Option BorderItem → Option BorderItem
heavier theme own facing = if is_max_border own facing theme then facing else own

-- the own border of a place with each side as it shows
abbrev pub shown_border : Theme → Sheet → Position → Border → Border
shown_border theme sheet place own = record {
  left = heavier theme own.left (border_at sheet place.row (place.column -ℤ pos 1)).right;
  right = heavier theme own.right (border_at sheet place.row (place.column +ℤ pos 1)).left;
  top = heavier theme own.top (border_at sheet (place.row -ℤ pos 1) place.column).bottom;
  bottom = heavier theme own.bottom (border_at sheet (place.row +ℤ pos 1) place.column).top;
}

-- the style of a place with these borders
abbrev pub bordered : Theme → Sheet → Position → Style → Style
bordered theme sheet place style = record style { border = shown_border theme sheet place style.border }

-- that of the cell at a row and a column of the sheet at an index, or the first refusal: no such sheet, the row outside, the column outside
abbrev pub cell_style_at : ℕ → ℤ → ℤ → Book → Result Style EditError
cell_style_at index row column book =
    and_then (sheet_at book index) (λ sheet. map_ok (λ place. bordered book.theme sheet place (shown_style sheet place)) (place_of row column))
