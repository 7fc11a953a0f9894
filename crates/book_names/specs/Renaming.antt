-- Formulas of a workbook after a renaming, what the opposite renaming does not give back, and the formulas taken back with it; and a
-- workbook whose sheet was renamed.
use Rattle.std.specs.Prelude.{◌≡◌, ℕ, ◌==◌, true, List, map, Option, Some, None, IfSome, if◌then◌else◌}
use Rattle.std.specs.Ordering.{nat_cmp}
use Rattle.std.specs.FinMap.{FinMap, get}
use Rattle.base_values.specs.declared.Position.{Position}
use Rattle.base_values.specs.Places.{position_cmp}
use Rattle.base_maps.specs.Carried.{carried_map, gathered, if_there, settled}
use Rattle.base_maps.specs.declared.SheetPlace.{SheetPlace}
use Rattle.base_maps.specs.SheetPlaces.{sheet_place_cmp}
use Rattle.base_maps.specs.Tagged.{all_under, place_on}
use Rattle.formula_tree.specs.declared.Node.{Node}
use Rattle.formula_tree.specs.Placed.{is_placed}
use Rattle.formula_names.specs.declared.Reach.{Reach}
use Rattle.formula_names.specs.declared.Reach.TheVariants.{Sheets}
use Rattle.formula_names.specs.Renamed.{tree_renamed, tree_kept}
use Rattle.cell_content.specs.declared.Content.{Content}
use Rattle.cell_content.specs.Lens.{content_changed, tree_of}
use Rattle.defined_names.specs.declared.DefinedName.{DefinedName}
use Rattle.format_rules.specs.declared.ConditionalFormatting.{ConditionalFormatting}
use Rattle.format_rules.specs.contracts.formatting.ConditionalFormattingPartialEq.TheImpl as equality
use Rattle.format_rules.specs.Canonical.{IsCanonicalFormatting}
use Rattle.format_rules.specs.Fitting.{RuleInside}
use Rattle.format_rules.specs.RuleTrees.{trees_changed}
use Rattle.base_maps.specs.declared.SheetIndex.{SheetIndex}
use Rattle.base_maps.specs.SheetIndexes.{sheet_index_cmp}
use Rattle.base_maps.specs.TaggedIndexes.{all_under as indexes_under, index_on}
use Rattle.line_map.specs.Contents.{cell_restored}
use Rattle.sheet_grid.specs.declared.Cell.{Cell}
use Rattle.sheet_grid.specs.Sheet.{Sheet}
use Rattle.sheet_grid.specs.Book.{Book}
use Rattle.base_maps.specs.ByIndex.{kept_by_index, restored_by_index}
use Rattle.sheet_lines.specs.Back.{AreCanonicalFormulas}
use Rattle.book_names.specs.declared.kept_trees.KeptTrees.{KeptTrees}

-- ---- the later workbook

-- a content whose tree, if it has one, is renamed
abbrev pub content_renamed : Reach → List ℕ → List ℕ → Content → Content
content_renamed reach old new content = content_changed (tree_renamed reach old new) content

-- a cell: its content is, and its style stays
abbrev pub cell_renamed : Reach → List ℕ → List ℕ → Cell → Cell
cell_renamed reach old new cell = record cell { content = content_renamed reach old new cell.content }

-- each cell of a sheet at its place
abbrev pub cells_renamed : Reach → List ℕ → List ℕ → FinMap position_cmp Cell → FinMap position_cmp Cell
cells_renamed reach old new cells = carried_map Some Some (λ _ _ cell. cell_renamed reach old new cell) cells

-- a conditional rule: its trees are, and its parts and its priority stay
abbrev pub formatting_renamed : Reach → List ℕ → List ℕ → ConditionalFormatting → ConditionalFormatting
formatting_renamed reach old new formatting = record formatting { rule = trees_changed (tree_renamed reach old new) formatting.rule }

-- each conditional rule of a sheet
abbrev pub formattings_renamed : Reach → List ℕ → List ℕ → List ConditionalFormatting → List ConditionalFormatting
formattings_renamed reach old new formattings = map (formatting_renamed reach old new) formattings

-- a sheet: the one of the id has the new name, and in the trees of each the name of a sheet is renamed
abbrev pub sheet_renamed : ℕ → List ℕ → List ℕ → Sheet → Sheet
sheet_renamed id old new sheet = record sheet {
  name = if sheet.id == id then new else sheet.name;
  cells = cells_renamed Sheets old new sheet.cells;
  formattings = formattings_renamed Sheets old new sheet.formattings;
}

-- a defined name whose tree is renamed
abbrev pub defined_renamed : Reach → List ℕ → List ℕ → DefinedName → DefinedName
defined_renamed reach old new name = record name { formula = tree_renamed reach old new name.formula }

-- a workbook whose sheet of an id is renamed: the trees of all sheets and of all defined names are, and all else stays
abbrev pub book_renamed : ℕ → List ℕ → List ℕ → Book → Book
book_renamed id old new book = record book { names = map (defined_renamed Sheets old new) book.names; worksheets = map (sheet_renamed id old new) book.worksheets }

-- ---- what is kept

-- of a cell: its tree, where the opposite renaming does not give it
abbrev pub cell_kept : Reach → Reach → List ℕ → List ℕ → Cell → Option Node
cell_kept there back old new cell = if_there (tree_of cell.content) (tree_kept there back old new)

-- of the cells of a sheet, under their places
abbrev pub cells_kept : Reach → Reach → List ℕ → List ℕ → FinMap position_cmp Cell → FinMap position_cmp Node
cells_kept there back old new cells = gathered Some Some (λ _ _ cell. cell_kept there back old new cell) cells

-- of each sheet, under its id, where the renamings reach what they do in the sheet of an id
abbrev pub formulas_kept : (ℕ → Reach) → (ℕ → Reach) → List ℕ → List ℕ → List Sheet → FinMap sheet_place_cmp Node
formulas_kept there back old new sheets = all_under (λ (sheet : Sheet). sheet.id) (λ (sheet : Sheet). cells_kept (there sheet.id) (back sheet.id) old new sheet.cells) sheets

-- the renaming of a sheet reaches the names of sheets in every sheet
abbrev pub everywhere : ℕ → Reach
everywhere id = Sheets

-- of a defined name: its tree, where the opposite renaming of a sheet does not give it
abbrev pub defined_kept : List ℕ → List ℕ → DefinedName → Option Node
defined_kept old new name = tree_kept Sheets Sheets old new name.formula

-- of the defined names, by their places in the list
abbrev pub names_kept : List ℕ → List ℕ → List DefinedName → FinMap nat_cmp Node
names_kept old new names = kept_by_index (defined_kept old new) names

-- of a conditional rule: the whole rule, where the opposite renaming does not give it
unfoldable pub formatting_kept : Reach → Reach → List ℕ → List ℕ → ConditionalFormatting → Option ConditionalFormatting
formatting_kept there back old new formatting =
    if equality.ghosts.eq (formatting_renamed back new old (formatting_renamed there old new formatting)) formatting then None else Some formatting

-- of the conditional rules of a sheet, by their places in its list
abbrev pub own_formattings_kept : Reach → Reach → List ℕ → List ℕ → List ConditionalFormatting → FinMap nat_cmp ConditionalFormatting
own_formattings_kept there back old new formattings = kept_by_index (formatting_kept there back old new) formattings

-- of each sheet, under its id, where the renamings reach what they do in the sheet of an id
abbrev pub formattings_kept : (ℕ → Reach) → (ℕ → Reach) → List ℕ → List ℕ → List Sheet → FinMap sheet_index_cmp ConditionalFormatting
formattings_kept there back old new sheets =
    indexes_under (λ (sheet : Sheet). sheet.id) (λ (sheet : Sheet). own_formattings_kept (there sheet.id) (back sheet.id) old new sheet.formattings) sheets

-- the trees and the conditional rules that the opposite renaming of a sheet does not give back
abbrev pub trees_kept : List ℕ → List ℕ → Book → KeptTrees
trees_kept old new book = record {
  formulas = formulas_kept everywhere everywhere old new book.worksheets;
  names = names_kept old new book.names;
  formattings = formattings_kept everywhere everywhere old new book.worksheets;
}

-- the numbers of kept conditional rules are canonical
abbrev pub AreCanonicalFormattings : FinMap sheet_index_cmp ConditionalFormatting → Type 0
AreCanonicalFormattings formattings = (key : SheetIndex) → IfSome (get formattings key) IsCanonicalFormatting

-- every number of what is kept is canonical
pub record AreCanonicalTrees (kept : KeptTrees) : Type 0 where
  pub formulas : AreCanonicalFormulas kept.formulas
  pub names : AreCanonicalFormulas kept.names
  pub formattings : AreCanonicalFormattings kept.formattings

-- the kept trees of cells may stand where they stood, and the kept conditional rules inside their sheets
pub record ArePlacedTrees (kept : KeptTrees) : Type 0 where
  pub formulas : (key : SheetPlace) (tree : Node) → get kept.formulas key ≡ Some tree → is_placed key.place tree ≡ true
  pub formattings : (key : SheetIndex) (formatting : ConditionalFormatting) → get kept.formattings key ≡ Some formatting → RuleInside formatting

-- ---- the workbook taken back

-- a cell with the tree that is kept of it, if there is one, else renamed back
abbrev pub cell_back : Reach → List ℕ → List ℕ → Option Node → Cell → Cell
cell_back reach old new kept cell = settled (cell_renamed reach new old) cell_restored kept cell

-- each cell of a sheet at its place
abbrev pub cells_back : Reach → List ℕ → List ℕ → (Position → Option Node) → FinMap position_cmp Cell → FinMap position_cmp Cell
cells_back reach old new kept cells = carried_map Some Some (λ _ place cell. cell_back reach old new (kept place) cell) cells

-- what is kept of the sheet of an id, by place
abbrev pub kept_under : KeptTrees → ℕ → Position → Option Node
kept_under kept id place = get kept.formulas (place_on id place)

-- each conditional rule of a sheet that is kept, and each other one renamed back
abbrev pub formattings_back : Reach → List ℕ → List ℕ → (ℕ → Option ConditionalFormatting) → List ConditionalFormatting → List ConditionalFormatting
formattings_back reach old new kept formattings = restored_by_index (formatting_renamed reach new old) (λ _ own. own) kept formattings

-- what is kept of the conditional rules of the sheet of an id, by their places in its list
abbrev pub formattings_under : KeptTrees → ℕ → ℕ → Option ConditionalFormatting
formattings_under kept id index = get kept.formattings (index_on id index)

-- a sheet: the one of the id has the old name, and the trees of each are the kept ones or renamed back
abbrev pub sheet_back : ℕ → List ℕ → List ℕ → KeptTrees → Sheet → Sheet
sheet_back id old new kept sheet = record sheet {
  name = if sheet.id == id then old else sheet.name;
  cells = cells_back Sheets old new (kept_under kept sheet.id) sheet.cells;
  formattings = formattings_back Sheets old new (formattings_under kept sheet.id) sheet.formattings;
}

-- a defined name with the tree that is kept of it
abbrev pub with_kept_tree : DefinedName → Node → DefinedName
with_kept_tree name tree = record name { formula = tree }

-- each defined name with the tree that is kept of it, if there is one, else renamed back
abbrev pub names_back : Reach → List ℕ → List ℕ → (ℕ → Option Node) → List DefinedName → List DefinedName
names_back reach old new kept names = restored_by_index (defined_renamed reach new old) with_kept_tree kept names

-- a workbook whose sheet of an id gets its old name back: every tree is the kept one or renamed back, and all else stays
abbrev pub book_back : ℕ → List ℕ → List ℕ → KeptTrees → Book → Book
book_back id old new kept book = record book { names = names_back Sheets old new (get kept.names) book.names; worksheets = map (sheet_back id old new kept) book.worksheets }
