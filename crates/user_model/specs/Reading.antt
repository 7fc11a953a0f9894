-- Texts that are read as contents of cells, and that contents are shown as.
use Rattle.std.proofs.Common.{ℕ, ℤ, List, [], ◌∷◌, Option, Some, None, Result}
use Rattle.base_values.specs.declared.EditError.{EditError}
use Rattle.base_values.specs.declared.Position.{Position}
use Rattle.base_values.specs.Answers.{and_then, map_ok}
use Rattle.base_axis.specs.declared.Area.{Area}
use Rattle.base_axis.specs.declared.MergedCell.{MergedCell}
use Rattle.base_tables.specs.declared.Language.{Language}
use Rattle.base_tables.specs.declared.Locale.{Locale}
use Rattle.formula_tree.specs.declared.Node.{Node}
use Rattle.formula_grammar.specs.declared.Profile.{Profile}
use Rattle.formula_read.specs.Formula.{formula_of, without_equals}
use Rattle.cell_content.specs.declared.Content.{Content}
use Rattle.cell_content.specs.declared.Content.TheVariants.{Empty}
use Rattle.cell_input.specs.Inputs.{input_of, input_text}
use Rattle.sheet_grid.specs.declared.Cell.{Cell}
use Rattle.sheet_grid.specs.declared.Link.{Link}
use Rattle.sheet_grid.specs.Sheet.{cell_at}
use Rattle.sheet_grid.specs.Book.{Book, sheet_at}

-- how formulas are read and printed at a place
abbrev pub profile_at : Position → Locale → Language → Profile
profile_at place locale language = record { place = place; locale = locale; language = language }

-- what a text is read as at a row and a column
abbrev pub typed : Book → Language → ℤ → ℤ → List ℕ → Content
typed book language row column text = input_of (profile_at (record { row = row; column = column }) book.locale language) text

-- the formula that a text is read as at a row and a column
abbrev pub formula_typed : Book → Language → ℤ → ℤ → List ℕ → Node
formula_typed book language row column text = formula_of (profile_at (record { row = row; column = column }) book.locale language) (without_equals text)

-- the formula that a text is read as at a place
abbrev pub formula_at : Position → List ℕ → Book → Language → Node
formula_at place text book language = formula_of (profile_at place book.locale language) (without_equals text)

-- a link to a target
abbrev pub link_to : List ℕ → Link
link_to target = record { target = target }

-- the rectangle of an area, whatever its sheet
abbrev pub rectangle_of : Area → MergedCell
rectangle_of area = record { row = area.row; column = area.column; width = area.width; height = area.height }

-- the rectangle of a first row and column, a width and a height
abbrev pub rectangle : ℤ → ℤ → ℤ → ℤ → MergedCell
rectangle row column width height = record { row = row; column = column; width = width; height = height }

-- the content of a cell, or of none
abbrev pub content_in : Option Cell → Content
content_in None = Empty
content_in (Some cell) = cell.content

-- the text that the cell at a row and a column of the sheet at an index shows for editing, or the first refusal: no such sheet, the row
-- outside, the column outside
abbrev pub content_text : ℕ → ℤ → ℤ → Book → Language → Result (List ℕ) EditError
content_text index row column book language =
    and_then (sheet_at book index) (λ sheet.
    map_ok (λ cell. input_text (profile_at (record { row = row; column = column }) book.locale language) (content_in cell)) (cell_at sheet row column))
