-- What is listed of each sheet, and asked of one.
use Rattle.std.proofs.Common.{ℕ, ℤ, Bool, List, map, Option, Result}
use Rattle.base_values.specs.declared.EditError.{EditError}
use Rattle.base_values.specs.Answers.{and_then, map_ok}
use Rattle.format_rules.specs.declared.ConditionalFormatting.{ConditionalFormatting}
use Rattle.sheet_grid.specs.Lines.{shown_size, usual_height, usual_width}
use Rattle.sheet_grid.specs.Sheet.{Sheet, of_column, of_row}
use Rattle.sheet_grid.specs.Book.{Book, sheet_at}
use Rattle.sheet_navigation.specs.Searches.{first_filled_after, last_filled_before}
use Rattle.user_model.specs.declared.properties.SheetProperties.{SheetProperties}

abbrev pub properties_of : Sheet → SheetProperties
properties_of sheet = record { name = sheet.name; state = sheet.state; sheet_id = sheet.id; color = sheet.color }

-- of all sheets, in order
abbrev pub all_properties : Book → List SheetProperties
all_properties book = map properties_of book.worksheets

-- whether grid lines are drawn in the sheet at an index, or the refusal where there is none
abbrev pub draws_grid_lines : ℕ → Book → Result Bool EditError
draws_grid_lines index book = map_ok (λ sheet. sheet.show_grid_lines) (sheet_at book index)

-- the greatest column below one, in a row of the sheet at an index, whose cell has a content. The first refusal is that there is no such sheet
abbrev pub last_filled : ℕ → ℤ → ℤ → Book → Result (Option ℤ) EditError
last_filled index row column book = and_then (sheet_at book index) (λ sheet. last_filled_before sheet row column)

-- the least column above it
abbrev pub first_filled : ℕ → ℤ → ℤ → Book → Result (Option ℤ) EditError
first_filled index row column book = and_then (sheet_at book index) (λ sheet. first_filled_after sheet row column)

-- the height that a row of the sheet at an index shows. The first refusal is that there is no such sheet
abbrev pub row_height : ℕ → ℤ → Book → Result ℤ EditError
row_height index row book = and_then (sheet_at book index) (λ sheet. of_row (shown_size usual_height) sheet row)

-- the width that a column of the sheet shows
abbrev pub column_width : ℕ → ℤ → Book → Result ℤ EditError
column_width index column book = and_then (sheet_at book index) (λ sheet. of_column (shown_size usual_width) sheet column)

-- how many first rows, and columns, of the sheet are frozen
abbrev pub frozen_rows : ℕ → Book → Result ℤ EditError
frozen_rows index book = map_ok (λ sheet. sheet.frozen_rows) (sheet_at book index)

abbrev pub frozen_columns : ℕ → Book → Result ℤ EditError
frozen_columns index book = map_ok (λ sheet. sheet.frozen_columns) (sheet_at book index)

-- the conditional rules of the sheet, in their order
abbrev pub formattings_in : ℕ → Book → Result (List ConditionalFormatting) EditError
formattings_in index book = map_ok (λ sheet. sheet.formattings) (sheet_at book index)
