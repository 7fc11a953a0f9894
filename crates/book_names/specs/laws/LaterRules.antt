-- A well-formed workbook stays so where one of its sheets gets a name that it may get.
use Rattle.std.proofs.Common.{◌≡◌, ℕ, true, not, ◌&&◌, ◌||◌, List, [], ◌∷◌, map, refl, ap, ◌∙◌}
use Rattle.std.specs.List.{list_any}
use Rattle.formula_names.specs.declared.Reach.TheVariants.{Sheets}
use Rattle.cell_content.specs.Fitting.{tree_fits_at}
use Rattle.defined_names.specs.declared.DefinedName.{DefinedName}
use Rattle.defined_names.specs.Legal.{is_defined_name}
use Rattle.defined_names.specs.Names.{is_same_name}
use Rattle.sheet_grid.specs.Book.{Book}
use Rattle.sheet_rules.specs.Distinct.{are_distinct}
use Rattle.sheet_rules.specs.Names.{first_place, has_living_scope, have_name_trees, are_names}
use Rattle.sheet_rules.specs.SheetNames.{is_sheet_name}
use Rattle.sheet_rules.specs.WellFormed.{ids_of, IsWellFormed}
use Rattle.sheet_rules.specs.laws.EntryLaws.{both}
use Rattle.sheet_rules.specs.laws.ShownLaws.{not_true}
use Rattle.sheet_rules.specs.laws.WellFormedLaws.{well_formed_parts}
use Rattle.book_sheets.specs.laws.SheetRules.{all_keep, well_formed_by}
use Rattle.book_names.specs.Renaming.{defined_renamed, book_renamed}
use Rattle.book_names.specs.RenameDiffs.{is_taken, may_be_named}
use Rattle.book_names.specs.laws.Cells.{tree_fits}
use Rattle.book_names.specs.laws.Entries.{all_same}
use Rattle.book_names.specs.laws.SheetNames.{same_ids, sheets_stay}
use Rattle.book_names.specs.laws.Sheets.{all_rules_stay}

module _ (old new : List ℕ) where
  -- a defined name differs from others as it did
  same_among : (name : DefinedName) (names : List DefinedName) → list_any (is_same_name (defined_renamed Sheets old new name)) (map (defined_renamed Sheets old new) names) ≡ list_any (is_same_name name) names
  same_among name [] = refl
  same_among name (other ∷ names) = ap (λ b. is_same_name name other || b) (same_among name names)

  same_distinct : (names : List DefinedName) → are_distinct is_same_name (map (defined_renamed Sheets old new) names) ≡ are_distinct is_same_name names
  same_distinct [] = refl
  same_distinct (name ∷ names) = λ i. not (same_among name names i) && same_distinct names i

  -- the trees of defined names fit as they did
  name_trees_same : (names : List DefinedName) → have_name_trees (map (defined_renamed Sheets old new) names) ≡ have_name_trees names
  unfolding have_name_trees
  name_trees_same names = all_same (defined_renamed Sheets old new) (λ (name : DefinedName). tree_fits_at first_place name.formula) (λ (name : DefinedName). tree_fits_at first_place name.formula)
      (λ name. tree_fits Sheets old new first_place name.formula) names

  -- and they keep their rules
  names_same : (ids : List ℕ) (names : List DefinedName) → are_names ids (map (defined_renamed Sheets old new) names) ≡ are_names ids names
  unfolding are_names
  names_same ids names = λ i.
      all_same (defined_renamed Sheets old new) (λ (name : DefinedName). is_defined_name name.name) (λ (name : DefinedName). is_defined_name name.name) (λ name. refl) names i
      && same_distinct names i
      && all_same (defined_renamed Sheets old new) (has_living_scope ids) (has_living_scope ids) (λ name. refl) names i

-- the later workbook breaks no rule
pub renamed_well_formed : (id : ℕ) (old new : List ℕ) (book : Book) → IsWellFormed book → may_be_named id new book.worksheets ≡ true → IsWellFormed (book_renamed id old new book)
unfolding may_be_named
renamed_well_formed id old new book rules may =
    let name = both (is_sheet_name new) (not (is_taken id new book.worksheets)) may in
    let parts = well_formed_parts book rules in
    well_formed_by (book_renamed id old new book)
    (sheets_stay id old new book.worksheets name.0 (not_true (is_taken id new book.worksheets) name.1) parts.sheets)
    (all_rules_stay id old new book.worksheets (all_keep book rules))
    (name_trees_same old new book.names ∙ parts.name_trees)
    (ap (λ ids. are_names ids (map (defined_renamed Sheets old new) book.names)) (same_ids id old new book.worksheets) ∙ names_same old new (ids_of book.worksheets) book.names ∙ parts.names)
