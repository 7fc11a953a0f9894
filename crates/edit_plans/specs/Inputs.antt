-- The input of a content at a place.
use Rattle.std.proofs.Common.{◌≡◌, ℕ, ℤ, Option, Some, None, Result, Ok, Err}
use Rattle.std.specs.Prelude.{if◌then◌else◌, is_some, IsTrue}
use Rattle.std.specs.FinMap as fin
use Rattle.base_values.specs.declared.EditError.{EditError}
use Rattle.base_values.specs.declared.EditError.TheVariants.{CoveredCell, ArrayCell}
use Rattle.base_values.specs.declared.Position.{Position}
use Rattle.base_values.specs.Answers.{and_then, map_ok}
use Rattle.base_values.specs.KeyMap.{with_entry}
use Rattle.base_values.specs.Places.{place_of}
use Rattle.base_styles.specs.declared.Style.{Style}
use Rattle.cell_content.specs.declared.Content.{Content}
use Rattle.cell_content.specs.declared.Content.TheVariants.{Empty}
use Rattle.cell_content.specs.Fitting.{fits_at}
use Rattle.sheet_grid.specs.declared.Cell.{Cell}
use Rattle.sheet_grid.specs.declared.LineAttr.{LineAttr}
use Rattle.sheet_grid.specs.Arrays.{array_at}
use Rattle.sheet_grid.specs.Merges.{is_covered, is_empty}
use Rattle.sheet_grid.specs.Sheet.{Sheet, with_cell, shown_style}
use Rattle.sheet_grid.specs.Book.{Book, sheet_edit}
use Rattle.line_sizes.specs.Heights.{needed_height, raised_entry}
use Rattle.sheet_rules.specs.Occupied.{array_over}

-- a new cell, with the style that its place shows; an empty input makes none
abbrev pub new_cell : Content → Style → Option Cell
new_cell Empty style = None
new_cell content style = Some (record { content = content; style = style })

-- a present cell gets the content, and shows its own style as before
abbrev pub entered : Option Cell → Content → Style → Option Cell
entered None content style = new_cell content style
entered (Some cell) content style = Some (record { content = content; style = style })

-- the cell at a place after the input of a content there
abbrev pub cell_entered : Sheet → Position → Content → Option Cell
cell_entered sheet place content = entered (fin.get sheet.cells place) content (shown_style sheet place)

-- an empty input takes the link of a place away, also where there is no cell
abbrev pub link_left : Content → Sheet → Position → Sheet
link_left content sheet place = if is_empty content then record sheet { links = with_entry sheet.links place None } else sheet

-- the sheet with a content at a place
abbrev pub with_content : Sheet → Content → Position → Sheet
with_content sheet content place = link_left content (with_cell sheet place (cell_entered sheet place content)) place

-- what the row of a place has where a text of so many line feeds is put there: the height that it asks for in the font that the place shows,
-- where that is greater than the row's
abbrev pub row_raised : Sheet → Position → ℕ → Option LineAttr
row_raised sheet place feeds = raised_entry (needed_height feeds (shown_style sheet place).font.sz) (fin.get sheet.rows place.row)

-- a sheet whose row has this
abbrev pub with_row : Sheet → ℤ → Option LineAttr → Sheet
with_row sheet row entry = record sheet { rows = with_entry sheet.rows row entry }

-- the sheet after the input of a content at a place, whose text has so many line feeds
abbrev pub with_input : Sheet → Content → ℕ → Position → Sheet
with_input sheet content feeds place = with_row (with_content sheet content place) place.row (row_raised sheet place feeds)

-- a place that no merge covers, and that no array of more than one cell holds
abbrev pub free_place : Sheet → Position → Result Position EditError
free_place sheet place =
    if is_covered sheet.merges place then Err CoveredCell
    else if is_some (array_over sheet place) then Err ArrayCell
    else Ok place

-- the place at a row and a column to which an input may go, or the first refusal: the row outside, the column outside, a covered
-- cell, a cell of an array
abbrev pub input_place : Sheet → ℤ → ℤ → Result Position EditError
input_place sheet row column = and_then (place_of row column) (free_place sheet)

-- the workbook after an input, or the first refusal: no such sheet, or no place to which it may go
unfoldable pub input_put : ℕ → ℤ → ℤ → Content → ℕ → Book → Result Book EditError
input_put index row column content feeds book = sheet_edit book index (λ sheet. map_ok (with_input sheet content feeds) (input_place sheet row column))

-- what an input may be: a content that may stand at its place, and no array
pub record IsInput (row column : ℤ) (content : Content) : Type 0 where
  pub fits : IsTrue (fits_at (record { row = row; column = column }) content)
  pub plain : array_at (record { row = row; column = column }) content ≡ None
