-- A workbook after one of its defined names came, went or changed, what the way back does not give, and the workbook taken back with it.
use Rattle.std.specs.Prelude.{ℕ, List, map, Option, Some, None, IfSome}
use Rattle.std.specs.List.{insert, remove}
use Rattle.std.specs.FinMap.{FinMap, empty, get}
use Rattle.base_maps.specs.SheetPlaces.{sheet_place_cmp}
use Rattle.format_rules.specs.declared.ConditionalFormatting.{ConditionalFormatting}
use Rattle.formula_tree.specs.declared.Node.{Node}
use Rattle.formula_names.specs.declared.Reach.TheVariants.{Nothing}
use Rattle.defined_names.specs.declared.DefinedName.{DefinedName}
use Rattle.defined_names.specs.Names.{IsCanonicalName}
use Rattle.base_maps.specs.SheetIndexes.{sheet_index_cmp}
use Rattle.sheet_grid.specs.Sheet.{Sheet}
use Rattle.sheet_grid.specs.Book.{Book}
use Rattle.book_names.specs.declared.KeptTrees.{KeptTrees}
use Rattle.book_names.specs.Renaming.{cells_renamed, cells_back, formulas_kept, kept_under, names_back}
use Rattle.book_names.specs.Renaming.{formattings_renamed, formattings_back, formattings_kept, formattings_under}
use Rattle.name_edits.specs.declared.name_change.NameChange.{NameChange}
use Rattle.name_edits.specs.LookUp.{reach_at}

-- the numbers of the trees of both names are canonical
pub record IsCanonicalChange (change : NameChange) : Type 0 where
  pub old : IfSome change.old IsCanonicalName
  pub new : IfSome change.new IsCanonicalName

-- the change that takes a change back
abbrev pub opposite : NameChange → NameChange
opposite change = record { index = change.index; old = change.new; new = change.old }

-- ---- the list of the names

-- one name goes from an index, or none does
abbrev pub name_gone : ℕ → Option DefinedName → List DefinedName → List DefinedName
name_gone index None names = names
name_gone index (Some old) names = remove names index

-- one name comes at an index, or none does
abbrev pub name_come : ℕ → Option DefinedName → List DefinedName → List DefinedName
name_come index None names = names
name_come index (Some new) names = insert names index new

-- the old name goes, and the new one comes at the same index
abbrev pub names_changed : NameChange → List DefinedName → List DefinedName
names_changed change names = name_come change.index change.new (name_gone change.index change.old names)

-- ---- the later workbook

-- a sheet whose formulas mean the name at an index, among these names, by the old text: the text becomes the new one in them, and in those
-- of its conditional rules
abbrev pub sheet_updated : ℕ → List ℕ → List ℕ → List DefinedName → Sheet → Sheet
sheet_updated index old new names sheet = record sheet {
  cells = cells_renamed (reach_at index old names sheet.id) old new sheet.cells;
  formattings = formattings_renamed (reach_at index old names sheet.id) old new sheet.formattings;
}

-- the sheets where one name stands in the place of another: so it is of each
abbrev pub sheets_updated : ℕ → Option DefinedName → Option DefinedName → List DefinedName → List Sheet → List Sheet
sheets_updated index (Some old) (Some new) names sheets = map (sheet_updated index old.name new.name names) sheets
sheets_updated index (Some old) None names sheets = sheets
sheets_updated index None new names sheets = sheets

-- the workbook after a change: the trees of the names themselves stay
abbrev pub name_made : NameChange → Book → Book
name_made change book = record book {
  names = names_changed change book.names;
  worksheets = sheets_updated change.index change.old change.new book.names book.worksheets;
}

-- ---- what is kept

-- the trees of cells that renaming the other way does not give back. It reaches the sheets whose formulas mean the new name among the
-- later names
abbrev pub formulas_lost : NameChange → Option DefinedName → Option DefinedName → Book → FinMap sheet_place_cmp Node
formulas_lost change (Some old) (Some new) book =
    formulas_kept (reach_at change.index old.name book.names) (reach_at change.index new.name (names_changed change book.names)) old.name new.name book.worksheets
formulas_lost change (Some old) None book = empty
formulas_lost change None new book = empty

-- the conditional rules that renaming the other way does not give back
abbrev pub formattings_lost : NameChange → Option DefinedName → Option DefinedName → Book → FinMap sheet_index_cmp ConditionalFormatting
formattings_lost change (Some old) (Some new) book =
    formattings_kept (reach_at change.index old.name book.names) (reach_at change.index new.name (names_changed change book.names)) old.name new.name book.worksheets
formattings_lost change (Some old) None book = empty
formattings_lost change None new book = empty

-- nothing is kept of the trees of names, since none of them is renamed
abbrev pub trees_lost : NameChange → Book → KeptTrees
trees_lost change book = record {
  formulas = formulas_lost change change.old change.new book;
  names = empty;
  formattings = formattings_lost change change.old change.new book;
}

-- ---- the workbook taken back

-- a sheet whose trees and conditional rules are the kept ones, or renamed back where its formulas mean the name at an index, among these
-- names, by the new text
abbrev pub sheet_returned : ℕ → List ℕ → List ℕ → List DefinedName → KeptTrees → Sheet → Sheet
sheet_returned index old new names kept sheet = record sheet {
  cells = cells_back (reach_at index new names sheet.id) old new (kept_under kept sheet.id) sheet.cells;
  formattings = formattings_back (reach_at index new names sheet.id) old new (formattings_under kept sheet.id) sheet.formattings;
}

abbrev pub sheets_returned : ℕ → Option DefinedName → Option DefinedName → List DefinedName → KeptTrees → List Sheet → List Sheet
sheets_returned index (Some old) (Some new) names kept sheets = map (sheet_returned index old.name new.name names kept) sheets
sheets_returned index (Some old) None names kept sheets = sheets
sheets_returned index None new names kept sheets = sheets

-- names whose trees are the kept ones, or stay without one
abbrev pub trees_laid : Option DefinedName → Option DefinedName → KeptTrees → List DefinedName → List DefinedName
trees_laid (Some old) (Some new) kept names = names_back Nothing old.name new.name (get kept.names) names
trees_laid (Some old) None kept names = names
trees_laid None new kept names = names

-- the workbook before a change: the change is taken back, and the kept trees are laid over
abbrev pub name_unmade : NameChange → KeptTrees → Book → Book
name_unmade change kept book = record book {
  names = trees_laid change.old change.new kept (names_changed (opposite change) book.names);
  worksheets = sheets_returned change.index change.old change.new book.names kept book.worksheets;
}
