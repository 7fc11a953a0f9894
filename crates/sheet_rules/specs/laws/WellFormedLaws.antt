-- What a workbook has that breaks no rule.
use Rattle.std.proofs.Common.{◌≡◌, ℕ, ℤ, pos, Bool, true, false, not, ◌&&◌, ◌||◌, List, [], ◌∷◌, map, length, Option, Some, None, refl, ap, sym, ◌∙◌, arith}
use Rattle.std.specs.Prelude.{◌↔◌, ◌==◌, codes, if◌then◌else◌}
use Rattle.std.specs.List.{list_all, list_any, filter_map, IsDistinct, AllByRecursion}
use Rattle.std.specs.Str.{chars}
use Rattle.std.specs.Ordering.{int_cmp}
use Rattle.std.specs.declared.cmp.Ordering.{Ordering}
use Rattle.std.specs.FinMap.{entries, empty, len-entries, len-empty}
use Rattle.std.proofs.lemmas.List.Elements.{All-from_recursion}
use Rattle.base_values.specs.declared.Position.{Position}
use Rattle.base_values.specs.Places.{position_cmp, is_line, is_place}
use Rattle.base_values.specs.laws.Places.{position_total, exact_positions}
use Rattle.base_tables.specs.declared.Locale.{Locale}
use Rattle.base_tables.specs.declared.Zone.{Zone}
use Rattle.cell_content.specs.Fitting.{fits_at}
use Rattle.sheet_grid.specs.declared.Cell.{Cell}
use Rattle.sheet_grid.specs.declared.LineAttr.{LineAttr}
use Rattle.sheet_grid.specs.declared.Link.{Link}
use Rattle.base_axis.specs.Rectangles.{is_inside}
use Rattle.sheet_grid.specs.Arrays.{array_at, large_array_at}
use Rattle.sheet_grid.specs.Sheet.{Sheet, new_sheet}
use Rattle.sheet_grid.specs.Book.{Book, new_book}
use Rattle.sheet_grid.specs.laws.FittingCells.{entry_fits_at, CellsFit, SheetsFit}
use Rattle.sheet_rules.specs.Names.{have_name_trees, are_names}
use Rattle.sheet_rules.specs.Occupied.{are_apart, have_arrays, meets_any, have_merges, covers_blanks, are_hidden_blank}
use Rattle.sheet_rules.specs.SheetNames.{is_sheet_name}
use Rattle.sheet_rules.specs.laws.EntryLaws.{both, passes_at_from_all, all_from_passes_at}
use Rattle.sheet_rules.specs.laws.ShownLaws.{not_true}
use Rattle.sheet_rules.specs.WellFormed.{are_distinct, are_sheets, has_keys_inside, have_trees, have_rule_trees, is_row, is_column, has_font, have_attributes, are_frozen, have_rule_parts, IsWellFormed, ids_of}

-- the rules of a workbook, each for all of its sheets, and those of its defined names
pub record KeepsRules (book : Book) : Type 0 where
  pub sheets : are_sheets book.worksheets ≡ true
  pub inside : list_all has_keys_inside book.worksheets ≡ true
  pub arrays : list_all have_arrays book.worksheets ≡ true
  pub merges : list_all have_merges book.worksheets ≡ true
  pub hidden : list_all are_hidden_blank book.worksheets ≡ true
  pub trees : list_all have_trees book.worksheets ≡ true
  pub rule_trees : list_all have_rule_trees book.worksheets ≡ true
  pub name_trees : have_name_trees book.names ≡ true
  pub attributes : list_all have_attributes book.worksheets ≡ true
  pub names : are_names (ids_of book.worksheets) book.names ≡ true
  pub frozen : list_all are_frozen book.worksheets ≡ true
  pub rule_parts : list_all have_rule_parts book.worksheets ≡ true

abbrev first_of : Bool → Bool → Bool → Bool → Bool → Bool → Bool → Bool → Bool → Option ℕ
first_of s i a m h t b n f =
    if not s then Some 1
    else if not i then Some 2
    else if not a then Some 3
    else if not m then Some 4
    else if not h then Some 5
    else if not t then Some 6
    else if not b then Some 7
    else if not n then Some 8
    else if not f then Some 9
    else None

broken : {n : ℕ} {A : Type 0} → Some n ≡ None → A
broken h = absurd (cc)

rules_kept : (s i a m h t b n f : Bool) → first_of s i a m h t b n f ≡ None → (s ≡ true) × (i ≡ true) × (a ≡ true) × (m ≡ true) × (h ≡ true) × (t ≡ true) × (b ≡ true) × (n ≡ true) × (f ≡ true)
rules_kept true true true true true true true true true none = (refl, refl, refl, refl, refl, refl, refl, refl, refl)
rules_kept true true true true true true true true false none = broken none
rules_kept true true true true true true true false f none = broken none
rules_kept true true true true true true false n f none = broken none
rules_kept true true true true true false b n f none = broken none
rules_kept true true true true false t b n f none = broken none
rules_kept true true true false h t b n f none = broken none
rules_kept true true false m h t b n f none = broken none
rules_kept true false a m h t b n f none = broken none
rules_kept false i a m h t b n f none = broken none

-- a well-formed workbook keeps each rule
pub well_formed_parts : (book : Book) → IsWellFormed book → KeepsRules book
well_formed_parts book h =
    let kept = rules_kept (are_sheets book.worksheets) (list_all has_keys_inside book.worksheets) (list_all have_arrays book.worksheets) (list_all have_merges book.worksheets)
    (list_all are_hidden_blank book.worksheets) (list_all have_trees book.worksheets && list_all have_rule_trees book.worksheets && have_name_trees book.names)
    (list_all have_attributes book.worksheets) (are_names (ids_of book.worksheets) book.names) (list_all are_frozen book.worksheets && list_all have_rule_parts book.worksheets) h in
    let all_trees = both (list_all have_trees book.worksheets && list_all have_rule_trees book.worksheets) (have_name_trees book.names) kept.5 in
    let of_sheets = both (list_all have_trees book.worksheets) (list_all have_rule_trees book.worksheets) all_trees.0 in
    let ends = both (list_all are_frozen book.worksheets) (list_all have_rule_parts book.worksheets) kept.8 in
    record {
      sheets = kept.0;
      inside = kept.1;
      arrays = kept.2;
      merges = kept.3;
      hidden = kept.4;
      trees = of_sheets.0;
      rule_trees = of_sheets.1;
      name_trees = all_trees.1;
      attributes = kept.6;
      names = kept.7;
      frozen = ends.0;
      rule_parts = ends.1;
    }

-- and one that keeps each rule is well-formed
pub well_formed_from_parts : (book : Book) → KeepsRules book → IsWellFormed book
well_formed_from_parts book h =
    λ i. first_of (h.sheets i) (h.inside i) (h.arrays i) (h.merges i) (h.hidden i) (h.trees i && h.rule_trees i && h.name_trees i) (h.attributes i) (h.names i) (h.frozen i && h.rule_parts i)

-- the cells of a sheet fit where their trees may stand at their places
pub cells_fit_from_trees : (sheet : Sheet) → have_trees sheet ≡ true → CellsFit sheet
unfolding have_trees
cells_fit_from_trees sheet h = passes_at_from_all position_cmp position_total exact_positions entry_fits_at (λ _. refl) sheet.cells h

-- and their trees may stand there where the cells fit
pub have_trees_from_cells_fit : (sheet : Sheet) → CellsFit sheet → have_trees sheet ≡ true
unfolding have_trees
have_trees_from_cells_fit sheet h = all_from_passes_at position_cmp position_total exact_positions entry_fits_at (λ _. refl) sheet.cells h

-- so the two are one
pub have_trees_iff : (sheet : Sheet) → (have_trees sheet ≡ true) ↔ CellsFit sheet
have_trees_iff sheet = (cells_fit_from_trees sheet, have_trees_from_cells_fit sheet)

each_fits : (sheets : List Sheet) → list_all have_trees sheets ≡ true → AllByRecursion CellsFit sheets
each_fits [] h = tt
each_fits (sheet ∷ sheets) h = (cells_fit_from_trees sheet (both _ _ h).0, each_fits sheets (both _ _ h).1)

-- the cells of a well-formed workbook fit
pub sheets_fit_from_well_formed : (book : Book) → IsWellFormed book → SheetsFit book
sheets_fit_from_well_formed book h = All-from_recursion CellsFit book.worksheets (each_fits book.worksheets (well_formed_parts book h).trees)

module _ {X : Type 0} (same : X → X → Bool) where
  differs : (x : X) (xs : List X) → list_any (same x) xs ≡ false → AllByRecursion (λ y. same x y ≡ false) xs
  differs x [] h = tt
  differs x (y ∷ ys) h = none (same x y) refl (differs x ys) h
    where
      none : (b : Bool) → same x y ≡ b → (list_any (same x) ys ≡ false → AllByRecursion (λ z. same x z ≡ false) ys) → (b || list_any (same x) ys) ≡ false
          → AllByRecursion (λ z. same x z ≡ false) (y ∷ ys)
      none true is rest e = absurd (let never : true ≡ false = e in cc)
      none false is rest e = (is, rest e)

  -- a list that is told to be distinct is so
  pub distinct_from_test : (xs : List X) → are_distinct same xs ≡ true → IsDistinct same xs
  unfolding IsDistinct
  distinct_from_test [] h = tt
  distinct_from_test (x ∷ xs) h = (differs x xs (not_true _ (both _ _ h).0), distinct_from_test xs (both _ _ h).1)

ids_differ : (sheets : List Sheet) → are_sheets sheets ≡ true → are_distinct (λ a b. a == b) (ids_of sheets) ≡ true
unfolding are_sheets
ids_differ sheets h = (both _ _ (both _ _ (both _ _ h).0).0).1

-- no two sheets of a well-formed workbook have one id
pub distinct_ids_from_well_formed : (book : Book) → IsWellFormed book → IsDistinct ◌==◌ (map (λ (sheet : Sheet). sheet.id) book.worksheets)
distinct_ids_from_well_formed book h = distinct_from_test ◌==◌ (ids_of book.worksheets) (ids_differ book.worksheets (well_formed_parts book h).sheets)

no_entries : {A : Type 0} (es : List A) → length es ≡ 0 → es ≡ []
no_entries [] h = refl
no_entries (e ∷ es) h = absurd (omega arith)

entries-empty : {K X : Type 0} (R : K → K → Ordering) → entries (empty {X = X} {R = R}) ≡ []
entries-empty {X = X} R = no_entries _ (sym (len-entries (empty {X = X} {R = R})) ∙ len-empty R X)

new_sheets : are_sheets (new_sheet 1 (codes "Sheet1") ∷ []) ≡ true
unfolding are_sheets is_sheet_name chars
new_sheets = refl

-- no name breaks no rule
pub no_trees : have_name_trees [] ≡ true
unfolding have_name_trees
no_trees = refl

pub no_names : (ids : List ℕ) → are_names ids [] ≡ true
unfolding are_names
no_names ids = refl

new_trees : (name : List ℕ) → have_trees (new_sheet 1 name) ≡ true
unfolding have_trees
new_trees name = ap (list_all (λ (entry : Position × Cell). fits_at entry.0 entry.1.content)) (entries-empty position_cmp)

new_attributes : (name : List ℕ) → have_attributes (new_sheet 1 name) ≡ true
unfolding have_attributes
new_attributes name =
    λ i. list_all (λ (entry : ℤ × LineAttr). is_row entry.1) (entries-empty int_cmp i) && list_all (λ (entry : ℤ × LineAttr). is_column entry.1) (entries-empty int_cmp i)
    && list_all (λ (entry : Position × Cell). has_font entry.1.style) (entries-empty position_cmp i)

new_inside : (name : List ℕ) → has_keys_inside (new_sheet 1 name) ≡ true
unfolding has_keys_inside
new_inside name =
    λ i. list_all (λ (entry : Position × Cell). is_place entry.0) (entries-empty position_cmp i) && list_all (λ (entry : Position × Link). is_place entry.0) (entries-empty position_cmp i)
    && list_all (λ (entry : ℤ × LineAttr). is_line (pos 1048576) entry.0) (entries-empty int_cmp i) && list_all (λ (entry : ℤ × LineAttr). is_line (pos 16384) entry.0) (entries-empty int_cmp i)

new_arrays : (name : List ℕ) → have_arrays (new_sheet 1 name) ≡ true
unfolding have_arrays
new_arrays name =
    λ i. list_all is_inside (filter_map (λ (entry : Position × Cell). array_at entry.0 entry.1.content) (entries-empty position_cmp i))
    && are_apart (filter_map (λ (entry : Position × Cell). large_array_at entry.0 entry.1.content) (entries-empty position_cmp i))

new_merges : (name : List ℕ) → have_merges (new_sheet 1 name) ≡ true
unfolding have_merges
new_merges name = ap (λ es. not (list_any (meets_any []) (filter_map (λ (entry : Position × Cell). large_array_at entry.0 entry.1.content) es))) (entries-empty position_cmp)

new_hidden : (name : List ℕ) → are_hidden_blank (new_sheet 1 name) ≡ true
unfolding are_hidden_blank
new_hidden name = ap (λ es. list_all (covers_blanks (new_sheet 1 name)) (filter_map (λ (entry : Position × Cell). large_array_at entry.0 entry.1.content) es)) (entries-empty position_cmp)

-- a new workbook is well-formed
pub well_formed-new : (name : List ℕ) (locale : Locale) (zone : Zone) → IsWellFormed (new_book name locale zone)
well_formed-new name locale zone =
    well_formed_from_parts (new_book name locale zone)
    (record {
      sheets = new_sheets;
      inside = ap (λ b. b && true) (new_inside (codes "Sheet1"));
      arrays = ap (λ b. b && true) (new_arrays (codes "Sheet1"));
      merges = ap (λ b. b && true) (new_merges (codes "Sheet1"));
      hidden = ap (λ b. b && true) (new_hidden (codes "Sheet1"));
      trees = ap (λ b. b && true) (new_trees (codes "Sheet1"));
      rule_trees = refl;
      name_trees = no_trees;
      attributes = ap (λ b. b && true) (new_attributes (codes "Sheet1"));
      names = no_names (ids_of (new_sheet 1 (codes "Sheet1") ∷ []));
      frozen = refl;
      rule_parts = refl;
    })
