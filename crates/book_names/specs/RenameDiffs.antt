-- When a diff of a renamed sheet is made, and when it is taken back; and which name a sheet may get.
use Rattle.std.proofs.Common.{ℕ, Bool, false, List, length, Option, Some, None, Result, Ok, Err}
use Rattle.std.specs.Prelude.{◌&&◌, ◌==◌, not, is_some, nat_lt, if◌then◌else◌}
use Rattle.std.specs.List.{list_all, list_any}
use Rattle.std.specs.Ordering.{nat_cmp}
use Rattle.std.specs.FinMap.{FinMap, entries, get}
use Rattle.base_values.specs.declared.EditError.{EditError}
use Rattle.base_values.specs.declared.EditError.TheVariants.{DiffRefused}
use Rattle.base_values.specs.declared.Position.{Position}
use Rattle.base_values.specs.Places.{is_place, position_cmp}
use Rattle.base_maps.specs.declared.SheetPlace.{SheetPlace}
use Rattle.base_maps.specs.SheetPlaces.{sheet_place_cmp}
use Rattle.base_tables.specs.Folding.{same_folded}
use Rattle.formula_tree.specs.declared.Node.{Node}
use Rattle.cell_content.specs.Fitting.{tree_fits_at}
use Rattle.cell_content.specs.Lens.{tree_of}
use Rattle.format_rules.specs.declared.ConditionalFormatting.{ConditionalFormatting}
use Rattle.format_rules.specs.Fitting.{has_fitting_trees, has_parts}
use Rattle.base_maps.specs.declared.SheetIndex.{SheetIndex}
use Rattle.base_maps.specs.SheetIndexes.{sheet_index_cmp}
use Rattle.sheet_grid.specs.declared.Cell.{Cell}
use Rattle.sheet_grid.specs.Sheet.{Sheet}
use Rattle.sheet_grid.specs.Book.{Book}
use Rattle.sheet_rules.specs.Names.{first_place}
use Rattle.sheet_rules.specs.SheetNames.{is_sheet_name}
use Rattle.sheet_ids.specs.Ids.{sheet_of}
use Rattle.book_names.specs.declared.kept_trees.KeptTrees.{KeptTrees}
use Rattle.book_names.specs.Renaming.{book_renamed, book_back}

-- each kept tree of a cell stands at a place of a sheet
unfoldable pub stand_on_places : FinMap sheet_place_cmp Node → Bool
stand_on_places formulas = list_all (λ (entry : SheetPlace × Node). is_place entry.0.place) (entries formulas)

-- each kept conditional rule has a part, and its parts are inside the sheet
unfoldable pub stand_on_parts : FinMap sheet_index_cmp ConditionalFormatting → Bool
stand_on_parts formattings = list_all (λ (entry : SheetIndex × ConditionalFormatting). has_parts entry.1) (entries formattings)

-- what is kept is inside its sheets
abbrev pub are_in_sheets : KeptTrees → Bool
are_in_sheets kept = stand_on_places kept.formulas && stand_on_parts kept.formattings

-- whether a cell is there, and its content is a formula
abbrev pub is_formula : Option Cell → Bool
is_formula None = false
is_formula (Some cell) = is_some (tree_of cell.content)

-- whether a place is there, and at it a formula
abbrev pub is_formula_at : FinMap position_cmp Cell → Option Position → Bool
is_formula_at cells None = false
is_formula_at cells (Some place) = is_formula (get cells place)

-- the formula of a tree is sought where the tree stood
abbrev pub own_place : Sheet → Position → Option Position
own_place sheet place = Some place

-- a kept tree fits its place, the sheet is there, and there is a formula where one is sought for the place
unfoldable pub tree_stands : (Sheet → Position → Option Position) → Option Sheet → Position → Node → Bool
tree_stands seek None place tree = false
tree_stands seek (Some sheet) place tree = tree_fits_at place tree && is_formula_at sheet.cells (seek sheet place)

-- so does each kept tree of a cell
unfoldable pub formulas_stand : (Sheet → Position → Option Position) → FinMap sheet_place_cmp Node → Book → Bool
formulas_stand seek formulas book =
    list_all (λ (entry : SheetPlace × Node). tree_stands seek (sheet_of book entry.0.sheet) entry.0.place entry.1) (entries formulas)

-- each kept tree of a defined name fits A1, and its place is one of so many names
unfoldable pub names_stand : FinMap nat_cmp Node → ℕ → Bool
names_stand names count = list_all (λ (entry : ℕ × Node). nat_lt entry.0 count && tree_fits_at first_place entry.1) (entries names)

-- a kept conditional rule stands on parts of the sheet and its trees fit there, the sheet is there, and its place is one of the sheet's list
unfoldable pub formatting_stands : Option Sheet → ℕ → ConditionalFormatting → Bool
formatting_stands None index formatting = false
formatting_stands (Some sheet) index formatting = nat_lt index (length sheet.formattings) && has_parts formatting && has_fitting_trees formatting

-- so does each kept conditional rule
unfoldable pub formattings_stand : FinMap sheet_index_cmp ConditionalFormatting → Book → Bool
formattings_stand formattings book =
    list_all (λ (entry : SheetIndex × ConditionalFormatting). formatting_stands (sheet_of book entry.0.sheet) entry.0.index entry.1) (entries formattings)

-- whether what is kept may stand where it stood
abbrev pub may_stand : KeptTrees → Book → Bool
may_stand kept book = formulas_stand own_place kept.formulas book && names_stand kept.names (length book.names) && formattings_stand kept.formattings book

-- whether the sheet of an id can be renamed
abbrev pub goes_forward : ℕ → KeptTrees → Book → Bool
goes_forward id kept book = is_some (sheet_of book id) && are_in_sheets kept

-- whether it can get its old name back
abbrev pub goes_back : ℕ → KeptTrees → Book → Bool
goes_back id kept book = goes_forward id kept book && may_stand kept book

-- the workbook with the sheet renamed, or the diff of that number is refused
unfoldable pub rename_forward : ℕ → ℕ → List ℕ → List ℕ → KeptTrees → Book → Result Book EditError
rename_forward at id old new kept book = if goes_forward id kept book then Ok (book_renamed id old new book) else Err (DiffRefused 0 at)

-- the workbook with the old name back, or the diff of that number is refused
unfoldable pub rename_back : ℕ → ℕ → List ℕ → List ℕ → KeptTrees → Book → Result Book EditError
rename_back at id old new kept book = if goes_back id kept book then Ok (book_back id old new kept book) else Err (DiffRefused 0 at)

-- ---- names that a sheet may get

-- another sheet than the one of the id has a name that is equal by folding
unfoldable pub is_taken : ℕ → List ℕ → List Sheet → Bool
is_taken id name sheets = list_any (λ (sheet : Sheet). not (sheet.id == id) && same_folded name sheet.name) sheets

-- the name is one of 1 to 31 characters, none of them forbidden and none at an end an apostrophe, and no other sheet has it
unfoldable pub may_be_named : ℕ → List ℕ → List Sheet → Bool
may_be_named id name sheets = is_sheet_name name && not (is_taken id name sheets)
