-- The sheets of a workbook where a defined name stands in the place of another: they come back with what was kept, and stay placed.
use Rattle.std.proofs.Common.{◌≡◌, ℕ, ◌+◌, List, [], ◌∷◌, map, Some, refl, ap, ◌∙◌}
use Rattle.std.specs.Prelude.{◌==◌}
use Rattle.std.specs.List.{AllByRecursion, enumerate_from, find}
use Rattle.std.specs.Ordering.{nat_cmp}
use Rattle.std.specs.FinMap.{empty, get, get-empty}
use Rattle.base_maps.specs.ByIndex.{restored_at}
use Rattle.base_maps.specs.Carried.{settled}
use Rattle.base_maps.specs.laws.Found.{all_come_back, all_found}
use Rattle.formula_names.specs.declared.Reach.TheVariants.{Nothing}
use Rattle.formula_names.specs.laws.RenamedLaws.{tree_left}
use Rattle.defined_names.specs.declared.DefinedName.{DefinedName}
use Rattle.sheet_grid.specs.Sheet.{Sheet}
use Rattle.sheet_grid.specs.Book.{Book}
use Rattle.sheet_rules.specs.WellFormed.{ids_of, names_of}
use Rattle.sheet_ids.specs.Ids.{sheet_of, HasDistinctIds}
use Rattle.sheet_lines.specs.Sheets.{IsPlacedSheet}
use Rattle.book_sheets.specs.laws.SheetRules.{KeepsSheetRules}
use Rattle.book_names.specs.declared.KeptTrees.{KeptTrees}
use Rattle.book_names.specs.Renaming.{ArePlacedTrees, defined_renamed, with_kept_tree, names_back}
use Rattle.book_names.specs.laws.Entries.{found_same, maps_same}
use Rattle.book_names.specs.laws.Regained.{sheet_cells_regained, sheet_formattings_regained}
use Rattle.book_names.specs.laws.Sheets.{placed_sheet, rules_stay, sheet_placed_back}
use Rattle.name_edits.specs.LookUp.{reach_at}
use Rattle.name_edits.specs.NameChanges.{names_changed, sheet_updated, sheet_returned, trees_lost}
use Rattle.name_edits.specs.laws.Lists.{change_at}

-- ---- names

-- names of whose trees nothing is kept stay
names_stay_from : (old new : List ℕ) (at : ℕ) (names : List DefinedName) →
    map (restored_at (defined_renamed Nothing new old) with_kept_tree (get (empty {R = nat_cmp}))) (enumerate_from at names) ≡ names
names_stay_from old new at [] = refl
names_stay_from old new at (name ∷ names) = λ i.
    (ap (λ o. settled (defined_renamed Nothing new old) with_kept_tree o name) (get-empty nat_cmp at) ∙ (λ j. record name { formula = tree_left new old name.formula j })) i
    ∷ names_stay_from old new (at + 1) names i

pub names_laid : (old new : List ℕ) (names : List DefinedName) → names_back Nothing old new (get (empty {R = nat_cmp})) names ≡ names
names_laid old new names = names_stay_from old new 0 names

-- ---- sheets

module _ (index : ℕ) (old new : List ℕ) (names : List DefinedName) where
  -- they keep their ids and names
  pub same_ids : (sheets : List Sheet) → ids_of (map (sheet_updated index old new names) sheets) ≡ ids_of sheets
  same_ids sheets = maps_same (sheet_updated index old new names) (λ (sheet : Sheet). sheet.id) (λ (sheet : Sheet). sheet.id) (λ sheet. refl) sheets

  pub same_names : (sheets : List Sheet) → names_of (map (sheet_updated index old new names) sheets) ≡ names_of sheets
  same_names sheets = maps_same (sheet_updated index old new names) (λ (sheet : Sheet). sheet.name) (λ (sheet : Sheet). sheet.name) (λ sheet. refl) sheets

  -- the sheet of an id in the later workbook
  pub later_found : (n : ℕ) (sheets : List Sheet) (s : Sheet) → find (λ (t : Sheet). t.id == n) sheets ≡ Some s
      → find (λ (t : Sheet). t.id == n) (map (sheet_updated index old new names) sheets) ≡ Some (sheet_updated index old new names s)
  later_found n sheets s = found_same (sheet_updated index old new names) (λ (t : Sheet). t.id == n) (λ (t : Sheet). t.id == n) (λ t. refl) sheets s

  -- each keeps the rules of a sheet
  pub all_rules_stay : (sheets : List Sheet) → AllByRecursion KeepsSheetRules sheets → AllByRecursion KeepsSheetRules (map (sheet_updated index old new names) sheets)
  all_rules_stay [] all = tt
  all_rules_stay (sheet ∷ sheets) all = (rules_stay (reach_at index old names sheet.id) sheet.name old new sheet all.0, all_rules_stay sheets all.1)

  -- and stays placed
  pub placed_book : (sheets : List Sheet) → AllByRecursion IsPlacedSheet sheets → AllByRecursion IsPlacedSheet (map (sheet_updated index old new names) sheets)
  placed_book [] all = tt
  placed_book (sheet ∷ sheets) all = (placed_sheet (reach_at index old names sheet.id) sheet.name old new sheet all.0, placed_book sheets all.1)

  -- so does one that is taken back, where the kept trees are placed
  pub placed_book_back : (kept : KeptTrees) → ArePlacedTrees kept → (sheets : List Sheet) → AllByRecursion IsPlacedSheet sheets
      → AllByRecursion IsPlacedSheet (map (sheet_returned index old new names kept) sheets)
  placed_book_back kept trees [] all = tt
  placed_book_back kept trees (sheet ∷ sheets) all =
      (sheet_placed_back (reach_at index new names sheet.id) sheet.name old new kept trees sheet all.0, placed_book_back kept trees sheets all.1)

-- ---- there and back

module _ (index : ℕ) (old new : DefinedName) (book : Book) (distinct : HasDistinctIds book) where
  abbrev later : List DefinedName
  later = names_changed (change_at index (Some old) (Some new)) book.names

  abbrev kept : KeptTrees
  kept = trees_lost (change_at index (Some old) (Some new)) book

  sheet_regained : (s : Sheet) → sheet_of book s.id ≡ Some s → sheet_returned index old.name new.name later kept (sheet_updated index old.name new.name book.names s) ≡ s
  sheet_regained s there = λ i. record s {
    cells = sheet_cells_regained (reach_at index old.name book.names) (reach_at index new.name later) old.name new.name book distinct s there i;
    formattings = sheet_formattings_regained (reach_at index old.name book.names) (reach_at index new.name later) old.name new.name book distinct s there i;
  }

  -- the sheets come back with what was kept
  pub sheets_regained : map (sheet_returned index old.name new.name later kept) (map (sheet_updated index old.name new.name book.names) book.worksheets) ≡ book.worksheets
  sheets_regained = all_come_back (λ s. sheet_of book s.id ≡ Some s) (sheet_updated index old.name new.name book.names) (sheet_returned index old.name new.name later kept) sheet_regained
      book.worksheets (all_found (λ (s : Sheet). s.id) book.worksheets distinct)
