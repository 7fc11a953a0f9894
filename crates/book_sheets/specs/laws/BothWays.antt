-- The diffs of the list of sheets lead from the earlier workbook to the later one and back.
use Rattle.std.proofs.Common.{◌≡◌, ℕ, suc, ◌+◌, ◌≤◌, ◌<◌, Bool, true, false, cond, not, ◌&&◌, List, [], ◌∷◌, length, Some, None, Result, Err, refl, ap, sym, ◌∙◌, arith}
use Rattle.std.specs.Prelude.{nat_lt, slice_get}
use Rattle.std.specs.FinMap.{entries, len, len-entries}
use Rattle.std.specs.List.{cons_option, enumerate_from, filter_map, list_all}
use Rattle.std.proofs.lemmas.Bool.{lt-ltb}
use Rattle.base_values.specs.declared.EditError.{EditError}
use Rattle.base_values.specs.declared.EditError.TheVariants.{DiffRefused}
use Rattle.base_values.specs.declared.Position.{Position}
use Rattle.base_axis.specs.declared.MergedCell.{MergedCell}
use Rattle.base_axis.specs.Rectangles.{is_inside}
use Rattle.cell_content.specs.Fitting.{tree_fits_at}
use Rattle.defined_names.specs.declared.DefinedName.{DefinedName}
use Rattle.defined_names.specs.Names.{is_scoped_to, kept_names, names_left, placed_names, names_restored, names_copied}
use Rattle.defined_names.specs.laws.NameLaws.{kept_listed, names_come_back, copied_go}
use Rattle.sheet_grid.specs.Arrays.{array_at}
use Rattle.sheet_grid.specs.declared.Cell.{Cell}
use Rattle.sheet_grid.specs.Sheet.{Sheet, new_sheet}
use Rattle.sheet_grid.specs.Book.{Book, index_of, ids_of, sheets_moved}
use Rattle.sheet_rules.specs.Names.{first_place, have_name_trees}
use Rattle.sheet_rules.specs.Occupied.{have_arrays, is_merge}
use Rattle.sheet_rules.specs.WellFormed.{have_trees, IsWellFormed}
use Rattle.sheet_rules.specs.laws.EntryLaws.{both}
use Rattle.sheet_rules.specs.laws.WellFormedLaws.{well_formed_parts, distinct_ids_from_well_formed}
use Rattle.sheet_rules.specs.laws.OccupiedLaws.{keeps_merges}
use Rattle.sheet_ids.specs.Ids.{sheet_of}
use Rattle.book_sheets.specs.SheetDiffs.{with_sheet_at, without_sheet_at, sheet_comes, sheet_goes, sheet_as, copied_from, kept_of, is_inside_if_any, is_sheet_inside, cells_fit, are_places, names_fit, may_come_back, new_forward, new_back, copy_forward, copy_back, deletion_forward, deletion_back, sheet_moves}
use Rattle.book_sheets.specs.laws.SheetRules.{KeepsSheetRules, rules_at}
pub use Rattle.book_sheets.specs.Ways.{LeadsBothWays}
use Rattle.book_sheets.specs.laws.LaterNames.{named_parts, none_scoped}
use Rattle.book_sheets.specs.laws.LaterRules.{id_is_free}
use Rattle.book_sheets.specs.laws.ListTests.{all_others, all_left}
use Rattle.book_sheets.specs.laws.SheetDiffLaws.{comes, comes_and_goes, goes, goes_and_comes, moves, moves_back, found_at}

-- ---- a new sheet

pub new_both_ways : (at id index : ℕ) (name : List ℕ) (w : Book) → index_of w id ≡ None → index ≤ length w.worksheets
    → LeadsBothWays (new_forward at id index name) (new_back at id) w (with_sheet_at index (new_sheet id name) w.names w)
unfolding new_forward new_back
new_both_ways at id index name w free within = record {
  forth = comes at index (new_sheet id name) w.names w free within;
  back = comes_and_goes at index (new_sheet id name) w.names w free within w.names refl;
}

-- ---- a copy

pub copy_both_ways : (at id index from : ℕ) (name : List ℕ) (source : Sheet) (w : Book) → IsWellFormed w → slice_get w.worksheets from ≡ Some source → index_of w id ≡ None → index ≤ length w.worksheets
    → LeadsBothWays (copy_forward at source.id id index name) (copy_back at id) w (with_sheet_at index (sheet_as id name source) (names_copied source.id id w.names) w)
unfolding copy_forward copy_back
copy_both_ways at id index from name source w rules found free within =
    let copy : Sheet = sheet_as id name source in
    let names : List DefinedName = names_copied source.id id w.names in
    let there : sheet_of w source.id ≡ Some source = found_at from w.worksheets source (distinct_ids_from_well_formed w rules) found in
    let others = none_scoped (ids_of w.worksheets) id (id_is_free id w free) w.names (named_parts (ids_of w.worksheets) w.names (well_formed_parts w rules).names) in
    record {
      forth = ap (λ o. copied_from at o source.id id index name w) there ∙ comes at index copy names w free within;
      back = comes_and_goes at index copy names w free within (names_left id names) (copied_go source.id id w.names others);
    }

-- ---- a deleted sheet

-- arrays are inside where each that there is does
arrays_listed : (es : List (Position × Cell)) → list_all is_inside (filter_map (λ (entry : Position × Cell). array_at entry.0 entry.1.content) es) ≡ list_all (λ (entry : Position × Cell). is_inside_if_any (array_at entry.0 entry.1.content)) es
arrays_listed [] = refl
arrays_listed (e ∷ es) =
    let rest = arrays_listed es in
    elim (array_at e.0 e.1.content) as (λ o. list_all is_inside (cons_option o (filter_map (λ (entry : Position × Cell). array_at entry.0 entry.1.content) es)) ≡ (is_inside_if_any o && list_all (λ (entry : Position × Cell). is_inside_if_any (array_at entry.0 entry.1.content)) es))
    [ None ↦ rest | Some r ↦ ap (λ b. is_inside r && b) rest ]

merge_inside : (merge : MergedCell) → is_merge merge ≡ true → is_inside merge ≡ true
merge_inside merge h = (both _ _ h).1

-- arrays, merges and parts of conditional rules of a sheet that keeps its rules are inside
pub inside_by_rules : (s : Sheet) → KeepsSheetRules s → is_sheet_inside s ≡ true
unfolding is_sheet_inside have_arrays
inside_by_rules s h =
    let arrays = sym (arrays_listed (entries s.cells)) ∙ (both _ _ h.arrays).0 in
    let merges = all_others is_merge is_inside s.merges merge_inside (keeps_merges s h.merges).merges in
    λ i. arrays i && merges i && h.rule_parts i

cells_fit_by_rules : (s : Sheet) → KeepsSheetRules s → cells_fit s.cells ≡ true
unfolding cells_fit have_trees
cells_fit_by_rules s h = h.trees

-- each kept name has a place among all names
places_below : (limit at : ℕ) (names : List DefinedName) → at + length names ≤ limit → list_all (λ (entry : ℕ × DefinedName). nat_lt entry.0 limit) (enumerate_from at names) ≡ true
places_below limit at [] room = refl
places_below limit at (name ∷ names) room = λ i. lt-ltb at limit (omega arith) i && places_below limit (at + 1) names (omega arith) i

names_listed : (fits : DefinedName → Bool) (at : ℕ) (names : List DefinedName) → list_all fits names ≡ true → list_all (λ (entry : ℕ × DefinedName). fits entry.1) (enumerate_from at names) ≡ true
names_listed fits at [] all = refl
names_listed fits at (name ∷ names) all = let parts = both (fits name) (list_all fits names) all in λ i. parts.0 i && names_listed fits (at + 1) names parts.1 i

-- what holds of all names with their places holds of those of a sheet
placed_pass : (test : ℕ × DefinedName → Bool) (id at : ℕ) (names : List DefinedName) → list_all test (enumerate_from at names) ≡ true → list_all test (placed_names id at names) ≡ true
placed_pass test id at names all = all_left test test (λ (entry : ℕ × DefinedName). is_scoped_to id entry.1) (enumerate_from at names) (λ entry is passes. passes) all

-- those that are left and those of the sheet are all
names_counted : (id at : ℕ) (names : List DefinedName) → length (names_left id names) + length (placed_names id at names) ≡ length names
names_counted id at [] = refl
names_counted id at (name ∷ names) = go (is_scoped_to id name) (names_counted id (at + 1) names)
  where
    go : (b : Bool) → length (names_left id names) + length (placed_names id (at + 1) names) ≡ length names
        → length (cond (not b) (name ∷ names_left id names) (names_left id names)) + length (cond b ((at, name) ∷ placed_names id (at + 1) names) (placed_names id (at + 1) names)) ≡ suc (length names)
    go true rest = omega (arith, rest)
    go false rest = omega (arith, rest)

module _ (sheet : Sheet) (names : List DefinedName) where
  count : length (names_left sheet.id names) + len (kept_names sheet.id names) ≡ length names
  count =
      let listed : len (kept_names sheet.id names) ≡ length (placed_names sheet.id 0 names) = len-entries (kept_names sheet.id names) ∙ ap length (kept_listed sheet.id names) in
      omega (arith, listed, names_counted sheet.id 0 names)

  kept_have_places : are_places (length (names_left sheet.id names)) (kept_names sheet.id names) ≡ true
  kept_have_places =
      (λ i. list_all (λ (entry : ℕ × DefinedName). nat_lt entry.0 (count i)) (kept_listed sheet.id names i))
      ∙ placed_pass (λ (entry : ℕ × DefinedName). nat_lt entry.0 (length names)) sheet.id 0 names (places_below (length names) 0 names (omega arith))

  kept_fit : have_name_trees names ≡ true → names_fit (kept_names sheet.id names) ≡ true
  unfolding have_name_trees
  kept_fit trees =
      ap (list_all (λ (entry : ℕ × DefinedName). tree_fits_at first_place entry.1.formula)) (kept_listed sheet.id names)
      ∙ placed_pass (λ (entry : ℕ × DefinedName). tree_fits_at first_place entry.1.formula) sheet.id 0 names (names_listed (λ (name : DefinedName). tree_fits_at first_place name.formula) 0 names trees)

  -- what is kept of a sheet may come back among the names that are left
  may_return : KeepsSheetRules sheet → have_name_trees names ≡ true → may_come_back (length (names_left sheet.id names)) (kept_of sheet names) ≡ true
  unfolding may_come_back
  may_return h trees = λ i. inside_by_rules sheet h i && cells_fit_by_rules sheet h i && h.rule_trees i && (kept_have_places i && kept_fit trees i)

pub deletion_both_ways : (at index : ℕ) (sheet : Sheet) (w : Book) → IsWellFormed w → slice_get w.worksheets index ≡ Some sheet
    → LeadsBothWays (deletion_forward at (kept_of sheet w.names)) (deletion_back at index (kept_of sheet w.names)) w (without_sheet_at index (names_left sheet.id w.names) w)
unfolding deletion_forward deletion_back
deletion_both_ways at index sheet w rules found =
    let h = rules_at w rules index sheet found in
    let own = distinct_ids_from_well_formed w rules in
    let left : List DefinedName = names_left sheet.id w.names in
    let all : List DefinedName = names_restored (kept_names sheet.id w.names) left in
    let later : Book = without_sheet_at index left w in
    let refusal : Result Book EditError = Err (DiffRefused 0 at) in
    record {
      forth = ap (λ b. cond b (sheet_goes at sheet.id left w) refusal) (inside_by_rules sheet h) ∙ goes w own index sheet found at left;
      back = ap (λ b. cond b (sheet_comes at index sheet all later) refusal) (may_return sheet w.names h (well_formed_parts w rules).name_trees)
          ∙ goes_and_comes w own index sheet found at left all (names_come_back sheet.id w.names);
    }

-- ---- a moved sheet

pub move_both_ways : (at from to : ℕ) (sheet : Sheet) (w : Book) → IsWellFormed w → slice_get w.worksheets from ≡ Some sheet → to < length w.worksheets
    → LeadsBothWays (sheet_moves at sheet.id from to) (sheet_moves at sheet.id to from) w (record w { worksheets = sheets_moved w.worksheets from to })
move_both_ways at from to sheet w rules found within =
    let own = distinct_ids_from_well_formed w rules in
    record { forth = moves w own from sheet found to within at; back = moves_back w own from sheet found to within at }
