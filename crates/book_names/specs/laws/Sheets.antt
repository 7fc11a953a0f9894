-- A sheet whose trees are renamed keeps the rules of a sheet, its formulas stay placed, and its conditional rules are inside.
use Rattle.std.proofs.Common.{◌≡◌, ℕ, ℤ, pos, Bool, true, not, ◌&&◌, ◌||◌, List, [], ◌∷◌, map, Option, Some, None, refl, ap, subst, ◌∙◌}
use Rattle.std.specs.Prelude.{◌==◌, IfSome, if◌then◌else◌}
use Rattle.std.specs.List.{AllByRecursion, filter_map, list_all, list_any}
use Rattle.std.specs.FinMap.{entries}
use Rattle.base_values.specs.declared.Position.{Position}
use Rattle.base_values.specs.Places.{is_line, position_cmp, is_place}
use Rattle.base_values.specs.laws.Places.{position_total, exact_positions}
use Rattle.base_axis.specs.declared.MergedCell.{MergedCell}
use Rattle.base_axis.specs.Rectangles.{is_inside}
use Rattle.base_maps.specs.Tagged.{place_on}
use Rattle.base_maps.specs.laws.Each.{each_found, each_gathered, holds_of}
use Rattle.base_maps.specs.laws.Inverses.{own_inverse}
use Rattle.formula_tree.specs.declared.Node.{Node}
use Rattle.formula_tree.specs.Placed.{is_placed}
use Rattle.formula_names.specs.declared.Reach.{Reach}
use Rattle.formula_names.specs.declared.Reach.TheVariants.{Sheets}
use Rattle.formula_names.specs.Renamed.{naming, tree_renamed}
use Rattle.formula_names.specs.laws.NamedLaws.{placed-named}
use Rattle.cell_content.specs.Fitting.{fits_at}
use Rattle.cell_content.specs.laws.ChangedLaws.{changed_tree}
use Rattle.format_rules.specs.Fitting.{RuleInside}
use Rattle.base_maps.specs.TaggedIndexes.{index_on}
use Rattle.sheet_grid.specs.Arrays.{array_at, arrays_of, where_large, large_array_at, large_arrays_of}
use Rattle.sheet_grid.specs.declared.Cell.{Cell}
use Rattle.sheet_grid.specs.declared.LineAttr.{LineAttr}
use Rattle.sheet_grid.specs.declared.Link.{Link}
use Rattle.sheet_grid.specs.Merges.{is_empty}
use Rattle.sheet_grid.specs.laws.ChangedShapes.{array_changed, empty_changed}
use Rattle.sheet_grid.specs.Sheet.{Sheet}
use Rattle.sheet_rules.specs.Occupied.{are_apart, meets_any, have_arrays, is_merge, have_merges, covers, covers_blanks, are_hidden_blank}
use Rattle.sheet_rules.specs.WellFormed.{has_keys_inside, have_trees, have_attributes, is_row, is_column, has_font}
use Rattle.sheet_lines.specs.Sheets.{IsPlacedCell, IsPlacedSheet}
use Rattle.sheet_lines.specs.laws.Stays.{places_stay}
use Rattle.book_sheets.specs.laws.SheetRules.{KeepsSheetRules}
use Rattle.book_names.specs.declared.kept_trees.KeptTrees.{KeptTrees}
use Rattle.book_names.specs.Renaming.{ArePlacedTrees, cell_renamed, cells_renamed, sheet_renamed, kept_under, cell_back, cells_back, sheet_back}
use Rattle.book_names.specs.Renaming.{formattings_renamed, formattings_under, formattings_back}
use Rattle.book_names.specs.laws.Cells.{content_fits}
use Rattle.book_names.specs.laws.Entries.{entries_changed, all_same, gives_same}
use Rattle.book_names.specs.laws.Formattings.{all_parts_still, all_trees_still, rules_still, rules_back_still}

-- ---- the rules of a sheet

module _ (reach : Reach) (name old new : List ℕ) (sheet : Sheet) where
  -- the sheet under some name, whose trees are renamed
  abbrev pub later : Sheet
  later = record sheet { name = name; cells = cells_renamed reach old new sheet.cells; formattings = formattings_renamed reach old new sheet.formattings }

  abbrev changed : Position × Cell → Position × Cell
  changed entry = (entry.0, cell_renamed reach old new entry.1)

  entries_are : entries later.cells ≡ map changed (entries sheet.cells)
  entries_are = entries_changed position_cmp (λ _ cell. cell_renamed reach old new cell) position_total exact_positions sheet.cells

  -- what each cell passes as it did, all do
  cells_pass : (p : Position × Cell → Bool) → ((entry : Position × Cell) → p (changed entry) ≡ p entry) → list_all p (entries later.cells) ≡ list_all p (entries sheet.cells)
  cells_pass p same = ap (list_all p) entries_are ∙ all_same changed p p same (entries sheet.cells)

  same_arrays : arrays_of later ≡ arrays_of sheet
  same_arrays =
      ap (filter_map (λ (entry : Position × Cell). array_at entry.0 entry.1.content)) entries_are
      ∙ gives_same changed (λ (entry : Position × Cell). array_at entry.0 entry.1.content) (λ (entry : Position × Cell). array_at entry.0 entry.1.content)
      (λ entry. array_changed (tree_renamed reach old new) entry.0 entry.1.content) (entries sheet.cells)

  same_large : large_arrays_of later ≡ large_arrays_of sheet
  same_large =
      ap (filter_map (λ (entry : Position × Cell). large_array_at entry.0 entry.1.content)) entries_are
      ∙ gives_same changed (λ (entry : Position × Cell). large_array_at entry.0 entry.1.content) (λ (entry : Position × Cell). large_array_at entry.0 entry.1.content)
      (λ entry. ap where_large (array_changed (tree_renamed reach old new) entry.0 entry.1.content)) (entries sheet.cells)

  same_blanks : (r : MergedCell) → covers_blanks later r ≡ covers_blanks sheet r
  same_blanks r = cells_pass (λ entry. is_empty entry.1.content || not (covers r entry.0)) (λ entry. ap (λ b. b || not (covers r entry.0)) (empty_changed (tree_renamed reach old new) entry.1.content))

  inside_same : has_keys_inside later ≡ has_keys_inside sheet
  unfolding has_keys_inside
  inside_same = λ i.
      cells_pass (λ entry. is_place entry.0) (λ entry. refl) i && list_all (λ (entry : Position × Link). is_place entry.0) (entries sheet.links)
      && list_all (λ (entry : ℤ × LineAttr). is_line (pos 1048576) entry.0) (entries sheet.rows) && list_all (λ (entry : ℤ × LineAttr). is_line (pos 16384) entry.0) (entries sheet.columns)

  arrays_same : have_arrays later ≡ have_arrays sheet
  unfolding have_arrays
  arrays_same = λ i. list_all is_inside (same_arrays i) && are_apart (same_large i)

  merges_same : have_merges later ≡ have_merges sheet
  unfolding have_merges
  merges_same = λ i. list_all is_merge sheet.merges && are_apart sheet.merges && not (list_any (meets_any sheet.merges) (same_large i))

  hidden_same : are_hidden_blank later ≡ are_hidden_blank sheet
  unfolding are_hidden_blank
  hidden_same = λ i. list_all (λ r. same_blanks r i) sheet.merges && list_all (λ r. same_blanks r i) (same_large i)

  trees_same : have_trees later ≡ have_trees sheet
  unfolding have_trees
  trees_same = cells_pass (λ entry. fits_at entry.0 entry.1.content) (λ entry. content_fits reach old new entry.0 entry.1.content)

  attributes_same : have_attributes later ≡ have_attributes sheet
  unfolding have_attributes
  attributes_same = λ i.
      list_all (λ (entry : ℤ × LineAttr). is_row entry.1) (entries sheet.rows) && list_all (λ (entry : ℤ × LineAttr). is_column entry.1) (entries sheet.columns)
      && cells_pass (λ entry. has_font entry.1.style) (λ entry. refl) i

  -- it keeps the rules of a sheet
  pub rules_stay : KeepsSheetRules sheet → KeepsSheetRules later
  rules_stay h = record {
    inside = inside_same ∙ h.inside;
    arrays = arrays_same ∙ h.arrays;
    merges = merges_same ∙ h.merges;
    hidden = hidden_same ∙ h.hidden;
    trees = trees_same ∙ h.trees;
    rule_trees = all_trees_still reach old new sheet.formattings ∙ h.rule_trees;
    attributes = attributes_same ∙ h.attributes;
    frozen = h.frozen;
    rule_parts = all_parts_still reach old new sheet.formattings ∙ h.rule_parts;
  }

pub all_rules_stay : (id : ℕ) (old new : List ℕ) (sheets : List Sheet) → AllByRecursion KeepsSheetRules sheets → AllByRecursion KeepsSheetRules (map (sheet_renamed id old new) sheets)
all_rules_stay id old new [] all = tt
all_rules_stay id old new (sheet ∷ sheets) all = (rules_stay Sheets (if sheet.id == id then new else sheet.name) old new sheet all.0, all_rules_stay id old new sheets all.1)

-- ---- placed formulas

abbrev IsPlacedTree : Position → Node → Type 0
IsPlacedTree place tree = is_placed place tree ≡ true

-- a renamed formula is placed as it was
placed_renamed : (reach : Reach) (old new : List ℕ) (place : Position) (cell : Cell) → IsPlacedCell place cell → IsPlacedCell place (cell_renamed reach old new cell)
placed_renamed reach old new place cell h = changed_tree (tree_renamed reach old new) cell.content (IsPlacedTree place)
    (λ tree is. placed-named (naming reach old new) place tree ∙ subst (λ o. IfSome o (IsPlacedTree place)) is h)

-- so is one that comes back, where the kept tree is
placed_back : (reach : Reach) (old new : List ℕ) (place : Position) (o : Option Node) (cell : Cell) → IfSome o (IsPlacedTree place) → IsPlacedCell place cell → IsPlacedCell place (cell_back reach old new o cell)
placed_back reach old new place None cell kept h = placed_renamed reach new old place cell h
placed_back reach old new place (Some tree) cell kept h = places_stay.restored place place cell tree h kept

-- so does a sheet, under any name
pub placed_sheet : (reach : Reach) (name old new : List ℕ) (sheet : Sheet) → IsPlacedSheet sheet → IsPlacedSheet (later reach name old new sheet)
placed_sheet reach name old new sheet h = record {
  cells = each_found position_cmp IsPlacedCell (cells_renamed reach old new sheet.cells)
      (each_gathered position_cmp position_total exact_positions IsPlacedCell Some Some own_inverse (λ _ _ cell. Some (cell_renamed reach old new cell)) sheet.cells
      (λ p q cell there held. let same : p ≡ q = cc in placed_renamed reach old new q cell (subst (λ k. IsPlacedCell k cell) same (h.cells p cell held))));
  merges = h.merges;
  formattings = rules_still reach old new sheet.formattings h.formattings;
}

-- a renamed workbook stays placed
pub placed_book : (id : ℕ) (old new : List ℕ) (sheets : List Sheet) → AllByRecursion IsPlacedSheet sheets → AllByRecursion IsPlacedSheet (map (sheet_renamed id old new) sheets)
placed_book id old new [] all = tt
placed_book id old new (sheet ∷ sheets) all = (placed_sheet Sheets (if sheet.id == id then new else sheet.name) old new sheet all.0, placed_book id old new sheets all.1)

-- a sheet is, under any name
pub sheet_placed_back : (reach : Reach) (name old new : List ℕ) (kept : KeptTrees) → ArePlacedTrees kept → (sheet : Sheet) → IsPlacedSheet sheet
    → IsPlacedSheet (record sheet {
      name = name;
      cells = cells_back reach old new (kept_under kept sheet.id) sheet.cells;
      formattings = formattings_back reach old new (formattings_under kept sheet.id) sheet.formattings;
    })
sheet_placed_back reach name old new kept trees sheet h =
    let parts : Position → Option Node = kept_under kept sheet.id in
    record {
      cells = each_found position_cmp IsPlacedCell (cells_back reach old new parts sheet.cells)
          (each_gathered position_cmp position_total exact_positions IsPlacedCell Some Some own_inverse (λ _ place cell. Some (cell_back reach old new (parts place) cell)) sheet.cells
          (λ p q cell there held.
          let same : p ≡ q = cc in
          placed_back reach old new q (parts q) cell (holds_of (IsPlacedTree q) (parts q) (λ tree. trees.formulas (place_on sheet.id q) tree)) (subst (λ k. IsPlacedCell k cell) same (h.cells p cell held))));
      merges = h.merges;
      formattings = rules_back_still reach old new (formattings_under kept sheet.id)
          (λ q. holds_of RuleInside (formattings_under kept sheet.id q) (λ formatting. trees.formattings (index_on sheet.id q) formatting)) sheet.formattings h.formattings;
    }

-- so does one that is taken back, where the kept trees are placed
pub placed_book_back : (id : ℕ) (old new : List ℕ) (kept : KeptTrees) → ArePlacedTrees kept → (sheets : List Sheet) → AllByRecursion IsPlacedSheet sheets → AllByRecursion IsPlacedSheet (map (sheet_back id old new kept) sheets)
placed_book_back id old new kept trees [] all = tt
placed_book_back id old new kept trees (sheet ∷ sheets) all = (sheet_placed_back Sheets (if sheet.id == id then old else sheet.name) old new kept trees sheet all.0, placed_book_back id old new kept trees sheets all.1)
