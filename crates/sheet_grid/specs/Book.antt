-- A workbook, as contracts see it.
use Rattle.std.proofs.Common.{ℕ, List, [], ◌∷◌, Option, Result, Ok, Err}
use Rattle.std.specs.Prelude.{◌==◌, ◌&&◌, nat_le, nat_lt, map, length, position, slice_get, slice_set, codes, if◌then◌else◌}
use Rattle.std.specs.List.{insert, remove}
use Rattle.std.specs.Option.{option_map_or}
use Rattle.base_values.specs.declared.EditError.{EditError}
use Rattle.base_values.specs.declared.EditError.TheVariants.{InvalidSheet}
use Rattle.base_values.specs.Answers.{ok_or, map_ok, and_then}
use Rattle.base_tables.specs.declared.Locale.{Locale}
use Rattle.base_tables.specs.declared.Zone.{Zone}
use Rattle.base_styles.specs.declared.Theme.{Theme}
use Rattle.base_styles.specs.Themes.{default_theme}
use Rattle.defined_names.specs.declared.DefinedName.{DefinedName}
use Rattle.sheet_grid.specs.Sheet.{Sheet, new_sheet}

pub record Book : Type 0 where
  pub name : List ℕ
  pub locale : Locale
  pub zone : Zone
  pub theme : Theme
  pub names : List DefinedName
  pub worksheets : List Sheet

-- a workbook of the default theme with one empty sheet, `Sheet1`, of id 1
abbrev pub new_book : List ℕ → Locale → Zone → Book
new_book name locale zone = record { name = name; locale = locale; zone = zone; theme = default_theme; names = []; worksheets = new_sheet 1 (codes "Sheet1") ∷ [] }

-- the ids of sheets, and their names
abbrev pub ids_of : List Sheet → List ℕ
ids_of sheets = map (λ (sheet : Sheet). sheet.id) sheets

abbrev pub names_of : List Sheet → List (List ℕ)
names_of sheets = map (λ (sheet : Sheet). sheet.name) sheets

-- the sheet at an index
abbrev pub sheet_at : Book → ℕ → Result Sheet EditError
sheet_at book index = ok_or InvalidSheet (slice_get book.worksheets index)

-- the index of the first sheet with an id
abbrev pub index_of : Book → ℕ → Option ℕ
index_of book id = position (λ sheet. sheet.id == id) book.worksheets

-- the workbook with this sheet at an index
abbrev pub with_sheet : Book → ℕ → Sheet → Book
with_sheet book index sheet = record book { worksheets = slice_set book.worksheets index sheet }

-- an edit of the sheet at an index
abbrev pub sheet_edit : Book → ℕ → (Sheet → Result Sheet EditError) → Result Book EditError
sheet_edit book index edit = and_then (sheet_at book index) (λ sheet. map_ok (with_sheet book index) (edit sheet))

-- an edit of the sheet of an id
abbrev pub edit_by_id : Book → ℕ → (Sheet → Result Sheet EditError) → Result Book EditError
edit_by_id book id edit = and_then (ok_or InvalidSheet (index_of book id)) (λ index. sheet_edit book index edit)

-- ---- the list of the sheets

-- a sheet is put at an index, before the one there, or behind the last one
abbrev pub sheet_inserted : Book → ℕ → Sheet → Result Book EditError
sheet_inserted book index sheet = if nat_le index (length book.worksheets) then Ok (record book { worksheets = insert book.worksheets index sheet }) else Err InvalidSheet

-- the sheet at an index goes
abbrev pub sheet_removed : Book → ℕ → Result Book EditError
sheet_removed book index = if nat_lt index (length book.worksheets) then Ok (record book { worksheets = remove book.worksheets index }) else Err InvalidSheet

-- the sheets with the one at an index taken to another index
abbrev pub sheets_moved : List Sheet → ℕ → ℕ → List Sheet
sheets_moved sheets from to = option_map_or (λ sheet. insert (remove sheets from) to sheet) (slice_get sheets from) sheets

-- the sheet at an index is taken to exactly that other index
abbrev pub sheet_moved : Book → ℕ → ℕ → Result Book EditError
sheet_moved book from to =
    if nat_lt from (length book.worksheets) && nat_lt to (length book.worksheets) then Ok (record book { worksheets = sheets_moved book.worksheets from to }) else Err InvalidSheet
