-- The sheets of a workbook by their ids.
use Rattle.std.specs.Prelude.{ℕ, ◌==◌, List, [], Option, Some, None, map}
use Rattle.std.specs.List.{IsDistinct, find}
use Rattle.sheet_grid.specs.Sheet.{Sheet}
use Rattle.sheet_grid.specs.Book.{Book}

-- the sheet of an id
abbrev pub sheet_of : Book → ℕ → Option Sheet
sheet_of book id = find (λ sheet. sheet.id == id) book.worksheets

-- the name of a sheet
abbrev pub name_of : Option Sheet → List ℕ
name_of None = []
name_of (Some sheet) = sheet.name

-- no two sheets have one id
abbrev pub HasDistinctIds : Book → Type 0
HasDistinctIds book = IsDistinct ◌==◌ (map (λ sheet. sheet.id) book.worksheets)
