-- A well-formed workbook can be encoded: its formulas are at most 64 deep, and each line has something of its own.
use Rattle.std.proofs.Common.{◌≡◌, ℕ, ℤ, Bool, true, false, cond, not, List, [], ◌∷◌, Option, Some, None, refl}
use Rattle.std.specs.Prelude.{IfSome, IsTrue, ◌&&◌}
use Rattle.std.specs.List.{AllByRecursion, list_all}
use Rattle.std.specs.Ordering.{int_cmp}
use Rattle.std.specs.Cmp.{int_cmp_total}
use Rattle.std.specs.FinMap.{FinMap, entries, get}
use Rattle.std.proofs.lemmas.Map.Lookups.{exact_signed}
use Rattle.base_values.specs.declared.Position.{Position}
use Rattle.formula_tree.specs.declared.Node.{Node}
use Rattle.formula_tree.specs.Depth.{is_within}
use Rattle.cell_content.specs.Fitting.{tree_fits_at}
use Rattle.format_rules.specs.Fitting.{has_fitting_trees}
use Rattle.format_rules.specs.declared.ConditionalFormatting.{ConditionalFormatting}
use Rattle.defined_names.specs.declared.DefinedName.{DefinedName}
use Rattle.sheet_grid.specs.declared.Cell.{Cell}
use Rattle.sheet_grid.specs.declared.LineAttr.{LineAttr}
use Rattle.sheet_grid.specs.Lines.{is_plain}
use Rattle.sheet_grid.specs.Sheet.{Sheet}
use Rattle.sheet_grid.specs.Book.{Book}
use Rattle.sheet_grid.specs.laws.FittingLaws.{shallow_entry}
use Rattle.sheet_rules.specs.Names.{first_place, have_name_trees}
use Rattle.sheet_rules.specs.laws.EntryLaws.{both}
use Rattle.sheet_rules.specs.laws.WellFormedLaws.{cells_fit_from_trees, well_formed_parts}
use Rattle.sheet_rules.specs.WellFormed.{has_font, have_attributes, is_row, is_column, is_size, is_width, is_row_style, is_column_style, IsWellFormed}
use Rattle.book_sheets.specs.laws.SheetRules.{KeepsSheetRules, all_keep}
use Rattle.sheet_history.specs.laws.Entries.{entry_holds}
use Rattle.sheet_history.specs.laws.StandingRules.{rule_shallow}
use Rattle.grid_wire.specs.BookBytes.{IsKnownBook}
use Rattle.grid_wire.specs.FormattingBytes.{AreKnownFormattings}
use Rattle.grid_wire.specs.NameBytes.{AreKnownNames}
use Rattle.grid_wire.specs.SheetBytes.{IsKnownSheet}

-- ---- lines

-- what rows and columns have of their own
record Attributes (sheet : Sheet) : Type 0 where
  rows : list_all (λ (entry : ℤ × LineAttr). is_row entry.1) (entries sheet.rows) ≡ true
  columns : list_all (λ (entry : ℤ × LineAttr). is_column entry.1) (entries sheet.columns) ≡ true

attributes_of : (sheet : Sheet) → have_attributes sheet ≡ true → Attributes sheet
unfolding have_attributes
attributes_of sheet all =
    let row_test : Bool = list_all (λ (entry : ℤ × LineAttr). is_row entry.1) (entries sheet.rows) in
    let column_test : Bool = list_all (λ (entry : ℤ × LineAttr). is_column entry.1) (entries sheet.columns) in
    let font_test : Bool = list_all (λ (entry : Position × Cell). has_font entry.1.style) (entries sheet.cells) in
    let one = both (row_test && column_test) font_test all in
    let two = both row_test column_test one.0 in
    record { rows = two.0; columns = two.1 }

abbrev pub IsOwn : LineAttr → Type 0
IsOwn attr = is_plain attr ≡ false

is_not : (b : Bool) → not b ≡ true → b ≡ false
is_not true h = cc
is_not false h = refl

row_own : (attr : LineAttr) → is_row attr ≡ true → IsOwn attr
row_own attr h = is_not (is_plain attr) (both (not (is_plain attr)) (is_size attr.size) (both (not (is_plain attr) && is_size attr.size) (is_row_style attr.style) h).0).0

column_own : (attr : LineAttr) → is_column attr ≡ true → IsOwn attr
column_own attr h = is_not (is_plain attr) (both (not (is_plain attr)) (is_width attr.size) (both (not (is_plain attr) && is_width attr.size) (is_column_style attr.style) h).0).0

own_at : (test : LineAttr → Bool) → ((attr : LineAttr) → test attr ≡ true → IsOwn attr) → (m : FinMap int_cmp LineAttr) → list_all (λ (entry : ℤ × LineAttr). test entry.1) (entries m) ≡ true → (line : ℤ) → IfSome (get m line) IsOwn
own_at test own m all line = go (get m line) refl
  where
    go : (o : Option LineAttr) → get m line ≡ o → IfSome o IsOwn
    go None is = tt
    go (Some attr) is = own attr (entry_holds int_cmp int_cmp_total exact_signed (λ (entry : ℤ × LineAttr). test entry.1) m all line attr is)

-- of each row and of each column a sheet has something of its own
pub own_lines : (sheet : Sheet) → have_attributes sheet ≡ true → (b : Bool) (line : ℤ) → IfSome (get (cond b sheet.rows sheet.columns) line) IsOwn
own_lines sheet all true line = own_at is_row row_own sheet.rows (attributes_of sheet all).rows line
own_lines sheet all false line = own_at is_column column_own sheet.columns (attributes_of sheet all).columns line

-- ---- formulas

-- a tree that fits is not deep
pub shallow_tree : (place : Position) (tree : Node) → tree_fits_at place tree ≡ true → IsTrue (is_within 64 tree)
unfolding tree_fits_at
shallow_tree place tree fits = (both _ _ (both _ _ fits).0).1

each_name : (names : List DefinedName) → list_all (λ (name : DefinedName). tree_fits_at first_place name.formula) names ≡ true → AreKnownNames names
each_name [] all = refl
each_name (name ∷ names) all =
    let p = both (tree_fits_at first_place name.formula) _ all in
    λ i. shallow_tree first_place name.formula p.0 i && each_name names p.1 i

names_shallow : (names : List DefinedName) → have_name_trees names ≡ true → AreKnownNames names
unfolding have_name_trees
names_shallow names all = each_name names all

each_rule : (rules : List ConditionalFormatting) → list_all has_fitting_trees rules ≡ true → AreKnownFormattings rules
each_rule [] all = refl
each_rule (rule ∷ rules) all =
    let p = both (has_fitting_trees rule) _ all in
    λ i. rule_shallow rule p.0 i && each_rule rules p.1 i

-- ---- workbooks

sheet_known : (sheet : Sheet) → KeepsSheetRules sheet → IsKnownSheet sheet
sheet_known sheet keeps = record {
  rows = λ row. own_lines sheet keeps.attributes true row;
  columns = λ column. own_lines sheet keeps.attributes false column;
  cells = λ place. shallow_entry place (get sheet.cells place) (cells_fit_from_trees sheet keeps.trees place);
  formattings = each_rule sheet.formattings keeps.rule_trees;
}

each_known : (sheets : List Sheet) → AllByRecursion KeepsSheetRules sheets → AllByRecursion IsKnownSheet sheets
each_known [] all = tt
each_known (sheet ∷ sheets) all = (sheet_known sheet all.0, each_known sheets all.1)

pub known_book : (book : Book) → IsWellFormed book → IsKnownBook book
known_book book rules = record { names = names_shallow book.names (well_formed_parts book rules).name_trees; sheets = each_known book.worksheets (all_keep book rules) }
