-- When a diff of the list of a workbook's sheets is made, and when it is taken back.
use Rattle.std.proofs.Common.{ℕ, ◌+◌, Bool, true, List, length, Option, Some, None, Result, Ok, Err}
use Rattle.std.specs.Prelude.{◌&&◌, is_none, nat_le, nat_lt, if◌then◌else◌}
use Rattle.std.specs.List.{insert, list_all, remove}
use Rattle.std.specs.Ordering.{nat_cmp}
use Rattle.std.specs.FinMap.{FinMap, entries, len}
use Rattle.base_values.specs.declared.EditError.{EditError}
use Rattle.base_values.specs.declared.EditError.TheVariants.{DiffRefused}
use Rattle.base_values.specs.declared.Position.{Position}
use Rattle.base_values.specs.Places.{position_cmp}
use Rattle.base_axis.specs.declared.MergedCell.{MergedCell}
use Rattle.base_axis.specs.Rectangles.{is_inside}
use Rattle.cell_content.specs.Fitting.{fits_at, tree_fits_at}
use Rattle.defined_names.specs.declared.DefinedName.{DefinedName}
use Rattle.defined_names.specs.Names.{AreCanonicalPlaced, kept_names, names_left, names_restored, names_copied}
use Rattle.format_rules.specs.Canonical.{AreCanonicalRules}
use Rattle.format_rules.specs.Fitting.{has_parts, has_fitting_trees}
use Rattle.sheet_grid.specs.Arrays.{array_at}
use Rattle.sheet_grid.specs.declared.Cell.{Cell}
use Rattle.sheet_grid.specs.CanonicalCell.{CanonicalCells}
use Rattle.sheet_grid.specs.Sheet.{Sheet, new_sheet}
use Rattle.sheet_grid.specs.Book.{Book, index_of, sheets_moved}
use Rattle.sheet_rules.specs.Names.{first_place}
use Rattle.sheet_ids.specs.Ids.{sheet_of}
use Rattle.book_sheets.specs.declared.kept_sheet.KeptSheet.{KeptSheet}

-- ---- a sheet comes

-- no sheet has the id, and the index is at most the number of the sheets
unfoldable pub may_come : ℕ → ℕ → Book → Bool
may_come index id book = is_none (index_of book id) && nat_le index (length book.worksheets)

-- the workbook with a sheet at an index, and these names
abbrev pub with_sheet_at : ℕ → Sheet → List DefinedName → Book → Book
with_sheet_at index sheet names book = record book { names = names; worksheets = insert book.worksheets index sheet }

-- the sheet comes, or the diff of that number is refused
abbrev pub sheet_comes : ℕ → ℕ → Sheet → List DefinedName → Book → Result Book EditError
sheet_comes at index sheet names book = if may_come index sheet.id book then Ok (with_sheet_at index sheet names book) else Err (DiffRefused 0 at)

-- ---- a sheet goes

-- the workbook without the sheet at an index, and with these names
abbrev pub without_sheet_at : ℕ → List DefinedName → Book → Book
without_sheet_at index names book = record book { names = names; worksheets = remove book.worksheets index }

abbrev pub goes_from : ℕ → Option ℕ → List DefinedName → Book → Result Book EditError
goes_from at None names book = Err (DiffRefused 0 at)
goes_from at (Some index) names book = Ok (without_sheet_at index names book)

-- the sheet of an id goes, or the diff of that number is refused
abbrev pub sheet_goes : ℕ → ℕ → List DefinedName → Book → Result Book EditError
sheet_goes at id names book = goes_from at (index_of book id) names book

-- ---- a new sheet

unfoldable pub new_forward : ℕ → ℕ → ℕ → List ℕ → Book → Result Book EditError
new_forward at id index name book = sheet_comes at index (new_sheet id name) book.names book

unfoldable pub new_back : ℕ → ℕ → Book → Result Book EditError
new_back at id book = sheet_goes at id book.names book

-- ---- a copy

-- the same sheet with another id and another name
abbrev pub sheet_as : ℕ → List ℕ → Sheet → Sheet
sheet_as id name sheet = record sheet { id = id; name = name }

abbrev pub copied_from : ℕ → Option Sheet → ℕ → ℕ → ℕ → List ℕ → Book → Result Book EditError
copied_from at None source id index name book = Err (DiffRefused 0 at)
copied_from at (Some sheet) source id index name book = sheet_comes at index (sheet_as id name sheet) (names_copied source id book.names) book

-- the source is there: its copy comes, with copies of the names that are known in it alone
unfoldable pub copy_forward : ℕ → ℕ → ℕ → ℕ → List ℕ → Book → Result Book EditError
copy_forward at source id index name book = copied_from at (sheet_of book source) source id index name book

-- the copy goes, with the names that are known in it alone
unfoldable pub copy_back : ℕ → ℕ → Book → Result Book EditError
copy_back at id book = sheet_goes at id (names_left id book.names) book

-- ---- what is kept of a deleted sheet

-- a sheet, and of these names those that are known in it alone
abbrev pub kept_of : Sheet → List DefinedName → KeptSheet
kept_of sheet names = record { sheet = sheet; names = kept_names sheet.id names }

-- every number of a kept sheet, of its conditional rules and of the trees of its names is canonical
pub record IsCanonicalSheet (kept : KeptSheet) : Type 0 where
  pub cells : CanonicalCells kept.sheet.cells
  pub names : AreCanonicalPlaced kept.names
  pub formattings : AreCanonicalRules kept.sheet.formattings

-- a rectangle, if there is one, is inside the sheet
abbrev pub is_inside_if_any : Option MergedCell → Bool
is_inside_if_any None = true
is_inside_if_any (Some r) = is_inside r

-- each array and each merge of a sheet is inside, and each of its conditional rules stands on parts inside
unfoldable pub is_sheet_inside : Sheet → Bool
is_sheet_inside sheet =
    list_all (λ (entry : Position × Cell). is_inside_if_any (array_at entry.0 entry.1.content)) (entries sheet.cells) && list_all is_inside sheet.merges
    && list_all has_parts sheet.formattings

-- the formula of each cell fits its place
unfoldable pub cells_fit : FinMap position_cmp Cell → Bool
cells_fit cells = list_all (λ (entry : Position × Cell). fits_at entry.0 entry.1.content) (entries cells)

-- the places of kept names are ones of the list of names when they are back in it
abbrev pub are_places : ℕ → FinMap nat_cmp DefinedName → Bool
are_places count names = list_all (λ (entry : ℕ × DefinedName). nat_lt entry.0 (count + len names)) (entries names)

-- the trees of kept names may stand at A1
abbrev pub names_fit : FinMap nat_cmp DefinedName → Bool
names_fit names = list_all (λ (entry : ℕ × DefinedName). tree_fits_at first_place entry.1.formula) (entries names)

-- what is kept may come back among so many names
unfoldable pub may_come_back : ℕ → KeptSheet → Bool
may_come_back count kept =
    is_sheet_inside kept.sheet && cells_fit kept.sheet.cells && list_all has_fitting_trees kept.sheet.formattings
    && (are_places count kept.names && names_fit kept.names)

-- ---- a deleted sheet

-- the sheet goes, with the names that are known in it alone
unfoldable pub deletion_forward : ℕ → KeptSheet → Book → Result Book EditError
deletion_forward at kept book = if is_sheet_inside kept.sheet then sheet_goes at kept.sheet.id (names_left kept.sheet.id book.names) book else Err (DiffRefused 0 at)

-- the sheet comes back, and so do the names
unfoldable pub deletion_back : ℕ → ℕ → KeptSheet → Book → Result Book EditError
deletion_back at index kept book = if may_come_back (length book.names) kept then sheet_comes at index kept.sheet (names_restored kept.names book.names) book else Err (DiffRefused 0 at)

-- ---- a moved sheet

abbrev pub moved_from : ℕ → Option ℕ → ℕ → Book → Result Book EditError
moved_from at None to book = Err (DiffRefused 0 at)
moved_from at (Some index) to book = Ok (record book { worksheets = sheets_moved book.worksheets index to })

-- both indexes are below the number of the sheets: the sheet of an id is taken from where it stands to one of them
unfoldable pub sheet_moves : ℕ → ℕ → ℕ → ℕ → Book → Result Book EditError
sheet_moves at id other to book =
    if nat_lt other (length book.worksheets) && nat_lt to (length book.worksheets) then moved_from at (index_of book id) to book else Err (DiffRefused 0 at)
