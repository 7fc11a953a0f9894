-- A later workbook is well-formed: with a new sheet, with a copy, without a sheet, and with a sheet at another index.
use Rattle.std.proofs.Common.{◌≡◌, ℕ, zero, suc, ◌+◌, ◌<◌, Bool, true, false, ◌&&◌, ◌||◌, List, [], ◌∷◌, length, Option, Some, None, refl, ap, sym, ◌∙◌, arith}
use Rattle.std.specs.Prelude.{◌==◌, codes, nat_lt, slice_get}
use Rattle.std.specs.Cmp.{unsigned_Decides}
use Rattle.std.specs.List.{AllByRecursion, insert, list_all, list_any, position_from, remove}
use Rattle.std.specs.Option.{option_map_or}
use Rattle.std.proofs.lemmas.Bool.{lt-ltb}
use Rattle.std.proofs.lemmas.Iterator.Adapters.{position_from-zero}
use Rattle.base_tables.specs.Folding.{same_folded}
use Rattle.defined_names.specs.declared.DefinedName.{DefinedName}
use Rattle.defined_names.specs.Names.{names_left, names_copied}
use Rattle.sheet_grid.specs.Sheet.{Sheet, new_sheet}
use Rattle.sheet_grid.specs.Book.{Book, new_book, ids_of, names_of, index_of, sheets_moved}
use Rattle.sheet_rules.specs.Distinct.{are_distinct}
use Rattle.sheet_rules.specs.Names.{are_names, have_name_trees}
use Rattle.sheet_rules.specs.Occupied.{have_arrays, have_merges, are_hidden_blank}
use Rattle.sheet_rules.specs.SheetNames.{is_sheet_name}
use Rattle.sheet_rules.specs.WellFormed.{are_sheets, has_keys_inside, have_trees, have_attributes, IsWellFormed}
use Rattle.sheet_rules.specs.laws.EntryLaws.{both}
use Rattle.sheet_rules.specs.laws.WellFormedLaws.{well_formed_parts, well_formed-new}
use Rattle.book_sheets.specs.SheetDiffs.{with_sheet_at, without_sheet_at, sheet_as}
use Rattle.book_sheets.specs.laws.Placed.{all_inserted, all_removed}
use Rattle.book_sheets.specs.laws.SheetRules.{KeepsSheetRules, all_keep, rules_at, well_formed_by}
use Rattle.book_sheets.specs.laws.LaterNames.{AreNamed, named_parts, names_with, names_moved, names_without, trees_without, names_with_copies, trees_with_copies}
use Rattle.book_sheets.specs.laws.ListEdits.{length_removed, not_first}
use Rattle.book_sheets.specs.laws.ListTests.{map_inserted, map_removed, map_got, all_with, all_without, passes_at, distinct_with, distinct_without, differs_out}
use Rattle.book_sheets.specs.laws.SheetDiffLaws.{has_id, none_among}
use Rattle.book_sheets.specs.laws.Turned.{ids_turned, names_turned}

-- ---- free ids

free_among : (id n : ℕ) (ss : List Sheet) → position_from (has_id id) n ss ≡ None → list_any (λ other. id == other) (ids_of ss) ≡ false
free_among id n [] none = refl
free_among id n (s ∷ ss) none = let parts = not_first (has_id id) n s ss none in λ i. ids_turned s.id id parts.0 i || free_among id (n + 1) ss parts.1 i

-- an id that no sheet is found by is none of the ids
pub id_is_free : (id : ℕ) (w : Book) → index_of w id ≡ None → list_any (λ other. id == other) (ids_of w.worksheets) ≡ false
id_is_free id w free = free_among id 0 w.worksheets (sym (position_from-zero (has_id id) w.worksheets) ∙ free)

above_differs : (id other : ℕ) → other < id → (id == other) ≡ false
above_differs id other less = go (id == other) refl
  where
    go : (b : Bool) → (id == other) ≡ b → b ≡ false
    go true is = let same : id ≡ other = (unsigned_Decides id other).0 is in absurd (omega (arith, same, less))
    go false is = refl

all_differ : (id : ℕ) (ids : List ℕ) → AllByRecursion (λ other. other < id) ids → AllByRecursion (λ other. (id == other) ≡ false) ids
all_differ id [] above = tt
all_differ id (other ∷ ids) above = (above_differs id other above.0, all_differ id ids above.1)

-- an id above all others is free
pub free_above : (id : ℕ) (w : Book) → AllByRecursion (λ other. other < id) (ids_of w.worksheets) → index_of w id ≡ None
free_above id w above = position_from-zero (has_id id) w.worksheets ∙ none_among id 0 w.worksheets (all_differ id (ids_of w.worksheets) above)

-- ---- the list of the sheets

-- the parts of rule 1 but that there is a sheet
record AreApart (sheets : List Sheet) : Type 0 where
  ids : are_distinct (λ a b. a == b) (ids_of sheets) ≡ true
  legal : list_all is_sheet_name (names_of sheets) ≡ true
  names : are_distinct same_folded (names_of sheets) ≡ true

apart_parts : (sheets : List Sheet) → are_sheets sheets ≡ true → (nat_lt 0 (length sheets) ≡ true) × AreApart sheets
unfolding are_sheets
apart_parts sheets h =
    let outer = both _ _ h in
    let middle = both _ _ outer.0 in
    let inner = both _ _ middle.0 in
    (inner.0, record { ids = inner.1; legal = middle.1; names = outer.1 })

sheets_from_parts : (sheets : List Sheet) → nat_lt 0 (length sheets) ≡ true → AreApart sheets → are_sheets sheets ≡ true
unfolding are_sheets
sheets_from_parts sheets some h = λ i. some i && h.ids i && h.legal i && h.names i

some_inserted : {X : Type 0} (xs : List X) (i : ℕ) (x : X) → nat_lt 0 (length (insert xs i x)) ≡ true
some_inserted xs zero x = lt-ltb 0 (length (insert xs zero x)) (omega arith)
some_inserted [] (suc i) x = refl
some_inserted (y ∷ ys) (suc i) x = lt-ltb 0 (length (insert (y ∷ ys) (suc i) x)) (omega arith)

apart_with : (sheets : List Sheet) (index : ℕ) (s : Sheet) → AreApart sheets → list_any (λ other. s.id == other) (ids_of sheets) ≡ false → is_sheet_name s.name ≡ true → list_any (same_folded s.name) (names_of sheets) ≡ false
    → are_sheets (insert sheets index s) ≡ true
apart_with sheets index s h free legal own =
    sheets_from_parts (insert sheets index s) (some_inserted sheets index s) (record {
      ids = ap (are_distinct (λ a b. a == b)) (map_inserted (λ (t : Sheet). t.id) sheets index s) ∙ distinct_with (λ a b. a == b) ids_turned (ids_of sheets) index s.id h.ids free;
      legal = ap (list_all is_sheet_name) (map_inserted (λ (t : Sheet). t.name) sheets index s) ∙ all_with is_sheet_name (names_of sheets) index s.name h.legal legal;
      names = ap (are_distinct same_folded) (map_inserted (λ (t : Sheet). t.name) sheets index s) ∙ distinct_with same_folded names_turned (names_of sheets) index s.name h.names own;
    })

apart_without : (sheets : List Sheet) (index : ℕ) → AreApart sheets → AreApart (remove sheets index)
apart_without sheets index h = record {
  ids = ap (are_distinct (λ a b. a == b)) (map_removed (λ (t : Sheet). t.id) sheets index) ∙ distinct_without (λ a b. a == b) (ids_of sheets) index h.ids;
  legal = ap (list_all is_sheet_name) (map_removed (λ (t : Sheet). t.name) sheets index) ∙ all_without is_sheet_name (names_of sheets) index h.legal;
  names = ap (are_distinct same_folded) (map_removed (λ (t : Sheet). t.name) sheets index) ∙ distinct_without same_folded (names_of sheets) index h.names;
}

-- ---- the rules of one sheet

rules_as : (id : ℕ) (name : List ℕ) (s : Sheet) → KeepsSheetRules s → KeepsSheetRules (sheet_as id name s)
unfolding has_keys_inside have_arrays have_merges are_hidden_blank have_trees have_attributes
rules_as id name s h = record {
  inside = h.inside;
  arrays = h.arrays;
  merges = h.merges;
  hidden = h.hidden;
  trees = h.trees;
  rule_trees = h.rule_trees;
  attributes = h.attributes;
  frozen = h.frozen;
  rule_parts = h.rule_parts;
}

-- a new sheet keeps them as that of a new workbook does
rules_new : (id : ℕ) (name : List ℕ) (w : Book) → KeepsSheetRules (new_sheet id name)
rules_new id name w =
    let first : Sheet = new_sheet 1 (codes "Sheet1") in
    rules_as id name first (rules_at (new_book [] w.locale w.zone) (well_formed-new [] w.locale w.zone) 0 first refl)

-- ---- the workbook

module _ (w : Book) (rules : IsWellFormed w) where
  apart : AreApart w.worksheets
  apart = (apart_parts w.worksheets (well_formed_parts w rules).sheets).1

  named : AreNamed (ids_of w.worksheets) w.names
  named = named_parts (ids_of w.worksheets) w.names (well_formed_parts w rules).names

  name_trees : have_name_trees w.names ≡ true
  name_trees = (well_formed_parts w rules).name_trees

  -- a sheet comes, and the names are these
  with_sheet : (index : ℕ) (s : Sheet) (names : List DefinedName) → KeepsSheetRules s → index_of w s.id ≡ None → is_sheet_name s.name ≡ true → list_any (same_folded s.name) (names_of w.worksheets) ≡ false
      → have_name_trees names ≡ true → are_names (insert (ids_of w.worksheets) index s.id) names ≡ true → IsWellFormed (with_sheet_at index s names w)
  with_sheet index s names keeps free legal own trees are =
      well_formed_by (with_sheet_at index s names w) (apart_with w.worksheets index s apart (id_is_free s.id w free) legal own) (all_inserted KeepsSheetRules w.worksheets index s (all_keep w rules) keeps) trees
      (ap (λ ids. are_names ids names) (map_inserted (λ (t : Sheet). t.id) w.worksheets index s) ∙ are)

  -- the sheet at an index is taken to another one
  with_moved : (from to : ℕ) (s : Sheet) → slice_get w.worksheets from ≡ Some s → IsWellFormed (record w { worksheets = insert (remove w.worksheets from) to s })
  with_moved from to s found =
      let id_at = map_got (λ (t : Sheet). t.id) w.worksheets from s found in
      let name_at = map_got (λ (t : Sheet). t.name) w.worksheets from s found in
      let fewer = map_removed (λ (t : Sheet). t.id) w.worksheets from in
      let fewer_names = map_removed (λ (t : Sheet). t.name) w.worksheets from in
      well_formed_by (record w { worksheets = insert (remove w.worksheets from) to s })
      (apart_with (remove w.worksheets from) to s (apart_without w.worksheets from apart)
      (ap (list_any (λ other. s.id == other)) fewer ∙ differs_out (λ a b. a == b) ids_turned (ids_of w.worksheets) from s.id apart.ids id_at)
      (passes_at is_sheet_name (names_of w.worksheets) from s.name apart.legal name_at)
      (ap (list_any (same_folded s.name)) fewer_names ∙ differs_out same_folded names_turned (names_of w.worksheets) from s.name apart.names name_at))
      (all_inserted KeepsSheetRules (remove w.worksheets from) to s (all_removed KeepsSheetRules w.worksheets from (all_keep w rules)) (rules_at w rules from s found))
      name_trees
      (ap (λ ids. are_names ids w.names) (map_inserted (λ (t : Sheet). t.id) (remove w.worksheets from) to s ∙ ap (λ ids. insert ids to s.id) fewer) ∙ names_moved (ids_of w.worksheets) from to s.id id_at w.names named)

-- with a new sheet
pub new_well_formed : (id index : ℕ) (name : List ℕ) (w : Book) → IsWellFormed w → index_of w id ≡ None → is_sheet_name name ≡ true → list_any (same_folded name) (names_of w.worksheets) ≡ false
    → IsWellFormed (with_sheet_at index (new_sheet id name) w.names w)
new_well_formed id index name w rules free legal own =
    with_sheet w rules index (new_sheet id name) w.names (rules_new id name w) free legal own (name_trees w rules) (names_with (ids_of w.worksheets) index id w.names (named w rules))

-- with the copy of a sheet, and copies of the names that are known in that sheet alone
pub copy_well_formed : (id index from : ℕ) (name : List ℕ) (source : Sheet) (w : Book) → IsWellFormed w → slice_get w.worksheets from ≡ Some source → index_of w id ≡ None → is_sheet_name name ≡ true
    → list_any (same_folded name) (names_of w.worksheets) ≡ false → IsWellFormed (with_sheet_at index (sheet_as id name source) (names_copied source.id id w.names) w)
copy_well_formed id index from name source w rules found free legal own =
    with_sheet w rules index (sheet_as id name source) (names_copied source.id id w.names) (rules_as id name source (rules_at w rules from source found)) free legal own
    (trees_with_copies source.id id w.names (name_trees w rules)) (names_with_copies source.id id (ids_of w.worksheets) index w.names (id_is_free id w free) (named w rules))

-- without a sheet that is not the only one, and without the names that are known in it alone
pub deletion_well_formed : (index : ℕ) (sheet : Sheet) (w : Book) → IsWellFormed w → slice_get w.worksheets index ≡ Some sheet → 1 < length w.worksheets → IsWellFormed (without_sheet_at index (names_left sheet.id w.names) w)
deletion_well_formed index sheet w rules found more =
    let shorter : suc (length (remove w.worksheets index)) ≡ length w.worksheets = length_removed w.worksheets index sheet found in
    let some : nat_lt 0 (length (remove w.worksheets index)) ≡ true = lt-ltb 0 (length (remove w.worksheets index)) (omega (arith, shorter, more)) in
    let id_at = map_got (λ (t : Sheet). t.id) w.worksheets index sheet found in
    well_formed_by (without_sheet_at index (names_left sheet.id w.names) w) (sheets_from_parts (remove w.worksheets index) some (apart_without w.worksheets index (apart w rules)))
    (all_removed KeepsSheetRules w.worksheets index (all_keep w rules)) (trees_without sheet.id w.names (name_trees w rules))
    (ap (λ ids. are_names ids (names_left sheet.id w.names)) (map_removed (λ (t : Sheet). t.id) w.worksheets index) ∙ names_without (ids_of w.worksheets) index sheet.id id_at w.names (named w rules))

-- with a sheet at another index
pub move_well_formed : (from to : ℕ) (w : Book) → IsWellFormed w → IsWellFormed (record w { worksheets = sheets_moved w.worksheets from to })
move_well_formed from to w rules = go (slice_get w.worksheets from) refl
  where
    go : (o : Option Sheet) → slice_get w.worksheets from ≡ o → IsWellFormed (record w { worksheets = option_map_or (λ (sheet : Sheet). insert (remove w.worksheets from) to sheet) o w.worksheets })
    go None found = rules
    go (Some sheet) found = with_moved w rules from to sheet found
