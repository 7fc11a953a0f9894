-- The conditions of a diff of a renamed sheet hold of what is kept of a well-formed workbook: the sheet is renamed, and gets its old name back.
use Rattle.std.proofs.Common.{◌≡◌, ℕ, true, ◌&&◌, List, [], ◌∷◌, map, length, suc, Option, Some, None, Ok, Err, refl, ap, sym, subst, ◌∙◌}
use Rattle.std.specs.Prelude.{◌==◌, IfSome, is_some, nat_lt, if◌then◌else◌}
use Rattle.std.specs.Cmp.{nat_cmp_total}
use Rattle.std.specs.List.{find, list_all}
use Rattle.std.specs.Option.{option_map_or}
use Rattle.std.specs.Ordering.{nat_cmp}
use Rattle.std.specs.FinMap.{FinMap, entries, get}
use Rattle.std.proofs.lemmas.List.Elements.{recursion_from_All}
use Rattle.std.proofs.lemmas.List.Sums.{AllPass-from_list_all}
use Rattle.std.proofs.lemmas.Map.Lookups.{exact_unsigned}
use Rattle.base_values.specs.declared.EditError.TheVariants.{DiffRefused}
use Rattle.base_values.specs.declared.Position.{Position}
use Rattle.base_values.specs.Places.{position_cmp, is_place}
use Rattle.base_values.specs.laws.Places.{position_total, exact_positions}
use Rattle.base_maps.specs.Carried.{if_there}
use Rattle.base_maps.specs.declared.SheetPlace.{SheetPlace}
use Rattle.base_maps.specs.SheetPlaces.{sheet_place_cmp}
use Rattle.base_maps.specs.laws.ByIndexLaws.{kept_within}
use Rattle.base_maps.specs.laws.Found.{found_holds}
use Rattle.base_maps.specs.laws.SheetPlaces.{sheet_place_total, exact_sheet_places}
use Rattle.formula_tree.specs.declared.Node.{Node}
use Rattle.formula_names.specs.declared.Reach.{Reach}
use Rattle.formula_names.specs.declared.Reach.TheVariants.{Sheets}
use Rattle.formula_names.specs.Renamed.{tree_renamed}
use Rattle.cell_content.specs.Fitting.{tree_fits_at}
use Rattle.cell_content.specs.Lens.{tree_of}
use Rattle.defined_names.specs.declared.DefinedName.{DefinedName}
use Rattle.format_rules.specs.declared.ConditionalFormatting.{ConditionalFormatting}
use Rattle.format_rules.specs.Fitting.{has_fitting_trees, has_parts}
use Rattle.base_maps.specs.declared.SheetIndex.{SheetIndex}
use Rattle.base_maps.specs.SheetIndexes.{sheet_index_cmp}
use Rattle.base_maps.specs.laws.SheetIndexes.{sheet_index_total, exact_sheet_indexes}
use Rattle.sheet_grid.specs.declared.Cell.{Cell}
use Rattle.sheet_grid.specs.Sheet.{Sheet}
use Rattle.sheet_grid.specs.Book.{Book}
use Rattle.sheet_grid.specs.laws.FittingCells.{entry_fits_at, CellsFit}
use Rattle.sheet_rules.specs.Names.{first_place, have_name_trees}
use Rattle.sheet_rules.specs.WellFormed.{has_keys_inside, IsWellFormed}
use Rattle.sheet_rules.specs.laws.EntryLaws.{both}
use Rattle.sheet_rules.specs.laws.WellFormedLaws.{well_formed_parts, cells_fit_from_trees, distinct_ids_from_well_formed}
use Rattle.sheet_ids.specs.Ids.{sheet_of}
use Rattle.book_sheets.specs.laws.SheetRules.{KeepsSheetRules, all_keep}
use Rattle.book_names.specs.declared.kept_trees.KeptTrees.{KeptTrees}
use Rattle.book_names.specs.Renaming.{cell_renamed, cells_renamed, defined_renamed, sheet_renamed, book_renamed, cell_kept, formulas_kept, everywhere, defined_kept, names_kept, trees_kept, book_back}
use Rattle.book_names.specs.Renaming.{formattings_renamed, own_formattings_kept, formattings_kept}
use Rattle.book_names.specs.RenameDiffs.{stand_on_places, stand_on_parts, are_in_sheets, is_formula, is_formula_at, own_place, tree_stands, formulas_stand}
use Rattle.book_names.specs.RenameDiffs.{names_stand, formatting_stands, formattings_stand, goes_forward, goes_back, rename_forward, rename_back}
use Rattle.book_names.specs.laws.Cells.{kept_is, still_formula}
use Rattle.book_names.specs.laws.Entries.{all_entries, entry_holds, found_same, get_changed}
use Rattle.book_names.specs.laws.Formattings.{same_count as same_rule_count, own_kept_passes, own_kept_within}
use Rattle.book_names.specs.laws.Names.{name_parts_are}
use Rattle.book_names.specs.laws.Regained.{formulas_at, formattings_at, book_regained}

-- ---- defined names

module _ (old new : List ℕ) where
  abbrev FitsFirst : Node → Type 0
  FitsFirst tree = tree_fits_at first_place tree ≡ true

  -- a kept tree of a defined name fits A1, where those of all do
  pub kept_name_fits : (names : List DefinedName) → have_name_trees names ≡ true → (q : ℕ) (tree : Node) → get (names_kept old new names) q ≡ Some tree → FitsFirst tree
  unfolding have_name_trees
  kept_name_fits names fit q tree h =
      let all = AllPass-from_list_all (λ (name : DefinedName). tree_fits_at first_place name.formula) names fit in
      subst (λ o. IfSome o FitsFirst) h (name_parts_are FitsFirst old new names (recursion_from_All (λ (name : DefinedName). FitsFirst name.formula) names all) q)

  same_count : (names : List DefinedName) → length (map (defined_renamed Sheets old new) names) ≡ length names
  same_count [] = refl
  same_count (name ∷ names) = ap suc (same_count names)

  -- the kept trees of defined names stand in as many names
  pub kept_names_stand : (names : List DefinedName) → have_name_trees names ≡ true → names_stand (names_kept old new names) (length (map (defined_renamed Sheets old new) names)) ≡ true
  unfolding names_stand
  kept_names_stand names fit =
      ap (names_stand (names_kept old new names)) (same_count names)
      ∙ all_entries nat_cmp nat_cmp_total exact_unsigned (λ (entry : ℕ × Node). nat_lt entry.0 (length names) && tree_fits_at first_place entry.1) (names_kept old new names)
      (λ q tree h i. kept_within (defined_kept old new) names q tree h i && kept_name_fits names fit q tree h i)

-- ---- trees of cells

-- the sheet of a key is there, and in it a formula where one is sought for its place
pub record IsSought (seek : Sheet → Position → Option Position) (later : Book) (key : SheetPlace) : Type 0 where
  pub sheet : Sheet
  pub there : sheet_of later key.sheet ≡ Some sheet
  pub formula : is_formula_at sheet.cells (seek sheet key.place) ≡ true

module _ (book : Book) where
  -- a tree under a key is that of a cell of a sheet
  pub record IsOfCell (key : SheetPlace) (tree : Node) : Type 0 where
    pub of : Sheet
    pub cell : Cell
    pub found : sheet_of book key.sheet ≡ Some of
    pub stands : get of.cells key.place ≡ Some cell
    pub is_it : tree_of cell.content ≡ Some tree

  module _ (rules : IsWellFormed book) where
    -- the sheet of an id keeps the rules that are of one sheet
    pub sheet_rules : (n : ℕ) (s : Sheet) → sheet_of book n ≡ Some s → KeepsSheetRules s
    sheet_rules n s found = found_holds (λ (t : Sheet). t.id == n) KeepsSheetRules book.worksheets (all_keep book rules) s found

    -- such a tree fits its place
    pub cell_tree_fits : (key : SheetPlace) (tree : Node) → IsOfCell key tree → tree_fits_at key.place tree ≡ true
    cell_tree_fits key tree it =
        let fits : CellsFit it.of = cells_fit_from_trees it.of (sheet_rules key.sheet it.of it.found).trees in
        sym (ap (λ o. option_map_or (tree_fits_at key.place) o true) it.is_it) ∙ sym (ap (entry_fits_at key.place) it.stands) ∙ fits key.place

    cells_inside : (s : Sheet) → has_keys_inside s ≡ true → list_all (λ (entry : Position × Cell). is_place entry.0) (entries s.cells) ≡ true
    unfolding has_keys_inside
    cells_inside s inside = (both _ _ (both _ _ (both _ _ inside).0).0).0

    module _ (formulas : FinMap sheet_place_cmp Node) (of_cell : (key : SheetPlace) (tree : Node) → get formulas key ≡ Some tree → IsOfCell key tree) where
      -- the places of such trees are places of their sheets
      pub trees_on_places : stand_on_places formulas ≡ true
      unfolding stand_on_places
      trees_on_places =
          all_entries sheet_place_cmp sheet_place_total exact_sheet_places (λ (entry : SheetPlace × Node). is_place entry.0.place) formulas (λ key tree h.
          let it = of_cell key tree h in
          entry_holds position_cmp position_total exact_positions (λ (entry : Position × Cell). is_place entry.0) it.of.cells
          (cells_inside it.of (sheet_rules key.sheet it.of it.found).inside) key.place it.cell it.stands)

      -- and they stand in a later workbook, where the formula of each is found
      pub trees_stand : (seek : Sheet → Position → Option Position) (later : Book)
          → ((key : SheetPlace) (tree : Node) → get formulas key ≡ Some tree → IsSought seek later key) → formulas_stand seek formulas later ≡ true
      unfolding tree_stands formulas_stand
      trees_stand seek later sought =
          all_entries sheet_place_cmp sheet_place_total exact_sheet_places
          (λ (entry : SheetPlace × Node). tree_stands seek (sheet_of later entry.0.sheet) entry.0.place entry.1) formulas (λ key tree h.
          let it = sought key tree h in
          ap (λ o. tree_stands seek o key.place tree) it.there ∙ (λ i. cell_tree_fits key tree (of_cell key tree h) i && it.formula i))

-- ---- cells and conditional rules

-- the sheet of an id in the later workbook
pub later_found : (id : ℕ) (old new : List ℕ) (n : ℕ) (sheets : List Sheet) (s : Sheet) → find (λ (t : Sheet). t.id == n) sheets ≡ Some s
    → find (λ (t : Sheet). t.id == n) (map (sheet_renamed id old new) sheets) ≡ Some (sheet_renamed id old new s)
later_found id old new n sheets s = found_same (sheet_renamed id old new) (λ (t : Sheet). t.id == n) (λ (t : Sheet). t.id == n) (λ t. refl) sheets s

-- a sheet of a later workbook under an id: its cells and its conditional rules are those of an earlier one, renamed
pub record HasLater (old new : List ℕ) (later : Book) (n : ℕ) (s : Sheet) : Type 0 where
  pub sheet : Sheet
  pub there : sheet_of later n ≡ Some sheet
  pub reach : Reach
  pub cells : sheet.cells ≡ cells_renamed reach old new s.cells
  pub formattings : sheet.formattings ≡ formattings_renamed reach old new s.formattings

module _ (there back : ℕ → Reach) (old new : List ℕ) (book : Book) (rules : IsWellFormed book) where
  abbrev formulas : FinMap sheet_place_cmp Node
  formulas = formulas_kept there back old new book.worksheets

  of_cell : (key : SheetPlace) (tree : Node) (o : Option Sheet) → sheet_of book key.sheet ≡ o
      → if_there o (λ s. if_there (get s.cells key.place) (cell_kept (there s.id) (back s.id) old new)) ≡ Some tree → IsOfCell book key tree
  of_cell key tree None none h = absurd (cc)
  of_cell key tree (Some s) found h = go (get s.cells key.place) refl h
    where
      go : (o : Option Cell) → get s.cells key.place ≡ o → if_there o (cell_kept (there s.id) (back s.id) old new) ≡ Some tree → IsOfCell book key tree
      go None none h = absurd (cc)
      go (Some cell) stands h = record { of = s; cell = cell; found = found; stands = stands; is_it = kept_is (there s.id) (back s.id) old new (tree_of cell.content) tree h }

  -- a kept tree is that of a cell of a sheet
  kept_tree : (key : SheetPlace) (tree : Node) → get formulas key ≡ Some tree → IsOfCell book key tree
  kept_tree key tree h =
      of_cell key tree (sheet_of book key.sheet) refl (sym (formulas_at there back old new book (distinct_ids_from_well_formed book rules) key.sheet key.place) ∙ h)

  -- it fits its place, which is one of a sheet
  pub kept_tree_fits : (key : SheetPlace) (tree : Node) → get formulas key ≡ Some tree → tree_fits_at key.place tree ≡ true
  kept_tree_fits key tree h = cell_tree_fits book rules key tree (kept_tree key tree h)

  pub kept_on_places : stand_on_places formulas ≡ true
  kept_on_places = trees_on_places book rules formulas kept_tree

  -- ---- conditional rules

  abbrev formattings : FinMap sheet_index_cmp ConditionalFormatting
  formattings = formattings_kept there back old new book.worksheets

  -- a kept conditional rule is one of those of a sheet
  pub record IsOfList (key : SheetIndex) (formatting : ConditionalFormatting) : Type 0 where
    pub of : Sheet
    pub found : sheet_of book key.sheet ≡ Some of
    pub kept : get (own_formattings_kept (there of.id) (back of.id) old new of.formattings) key.index ≡ Some formatting

  of_list : (key : SheetIndex) (formatting : ConditionalFormatting) (o : Option Sheet) → sheet_of book key.sheet ≡ o
      → if_there o (λ (s : Sheet). get (own_formattings_kept (there s.id) (back s.id) old new s.formattings) key.index) ≡ Some formatting → IsOfList key formatting
  of_list key formatting None none h = absurd (cc)
  of_list key formatting (Some s) found h = record { of = s; found = found; kept = h }

  kept_formatting : (key : SheetIndex) (formatting : ConditionalFormatting) → get formattings key ≡ Some formatting → IsOfList key formatting
  kept_formatting key formatting h =
      of_list key formatting (sheet_of book key.sheet) refl (sym (formattings_at there back old new book (distinct_ids_from_well_formed book rules) key.sheet key.index) ∙ h)

  -- it has parts, which are inside the sheet
  kept_has_parts : (key : SheetIndex) (formatting : ConditionalFormatting) → IsOfList key formatting → has_parts formatting ≡ true
  kept_has_parts key formatting it =
      own_kept_passes (there it.of.id) (back it.of.id) old new has_parts it.of.formattings
      (sheet_rules book rules key.sheet it.of it.found).rule_parts key.index formatting it.kept

  -- and its formulas fit there
  kept_formatting_fits : (key : SheetIndex) (formatting : ConditionalFormatting) → IsOfList key formatting → has_fitting_trees formatting ≡ true
  kept_formatting_fits key formatting it =
      own_kept_passes (there it.of.id) (back it.of.id) old new has_fitting_trees it.of.formattings
      (sheet_rules book rules key.sheet it.of it.found).rule_trees key.index formatting it.kept

  pub kept_rule_fits : (key : SheetIndex) (formatting : ConditionalFormatting) → get formattings key ≡ Some formatting → has_fitting_trees formatting ≡ true
  kept_rule_fits key formatting h = kept_formatting_fits key formatting (kept_formatting key formatting h)

  pub kept_on_parts : stand_on_parts formattings ≡ true
  unfolding stand_on_parts
  kept_on_parts = all_entries sheet_index_cmp sheet_index_total exact_sheet_indexes (λ (entry : SheetIndex × ConditionalFormatting). has_parts entry.1) formattings
      (λ key formatting h. kept_has_parts key formatting (kept_formatting key formatting h))

  -- and at its place there is a formula later, where each sheet has its cells renamed
  module _ (later : Book) (laters : (n : ℕ) (s : Sheet) → sheet_of book n ≡ Some s → HasLater old new later n s) where
    formula_there : (key : SheetPlace) (tree : Node) → IsOfCell book key tree → IsSought own_place later key
    formula_there key tree it =
        let last = laters key.sheet it.of it.found in
        let renamed : Cell → Cell = cell_renamed last.reach old new in
        record {
          sheet = last.sheet;
          there = last.there;
          formula =
              ap (λ cells. is_formula (get cells key.place)) last.cells
              ∙ ap is_formula (get_changed position_cmp (λ _ cell. renamed cell) position_total exact_positions it.of.cells key.place
              ∙ ap (λ o. if_there o (λ cell. Some (renamed cell))) it.stands)
              ∙ still_formula (tree_renamed last.reach old new) it.cell.content tree it.is_it;
        }

    pub kept_stand_later : formulas_stand own_place formulas later ≡ true
    kept_stand_later = trees_stand book rules formulas kept_tree own_place later (λ key tree h. formula_there key tree (kept_tree key tree h))

    -- and there is a conditional rule, where each has its list renamed
    rule_there : (key : SheetIndex) (formatting : ConditionalFormatting) (it : IsOfList key formatting)
        → nat_lt key.index (length (laters key.sheet it.of it.found).sheet.formattings) ≡ true
    rule_there key formatting it =
        let last = laters key.sheet it.of it.found in
        ap (λ list. nat_lt key.index (length list)) last.formattings
        ∙ ap (nat_lt key.index) (same_rule_count last.reach old new it.of.formattings)
        ∙ own_kept_within (there it.of.id) (back it.of.id) old new it.of.formattings key.index formatting it.kept

    rule_stands_later : (key : SheetIndex) (formatting : ConditionalFormatting) → IsOfList key formatting → formatting_stands (sheet_of later key.sheet) key.index formatting ≡ true
    unfolding formatting_stands
    rule_stands_later key formatting it =
        ap (λ o. formatting_stands o key.index formatting) (laters key.sheet it.of it.found).there
        ∙ (λ i. rule_there key formatting it i && kept_has_parts key formatting it i && kept_formatting_fits key formatting it i)

    pub kept_rules_stand_later : formattings_stand formattings later ≡ true
    unfolding formattings_stand
    kept_rules_stand_later = all_entries sheet_index_cmp sheet_index_total exact_sheet_indexes
        (λ (entry : SheetIndex × ConditionalFormatting). formatting_stands (sheet_of later entry.0.sheet) entry.0.index entry.1) formattings
        (λ key formatting h. rule_stands_later key formatting (kept_formatting key formatting h))

-- ---- a renamed sheet

module _ (id : ℕ) (new : List ℕ) (book : Book) (rules : IsWellFormed book) (sheet : Sheet) (found : sheet_of book id ≡ Some sheet) where
  abbrev old : List ℕ
  old = sheet.name

  abbrev kept : KeptTrees
  kept = trees_kept old new book

  abbrev later : Book
  later = book_renamed id old new book

  in_sheets : are_in_sheets kept ≡ true
  in_sheets = λ i. kept_on_places everywhere everywhere old new book rules i && kept_on_parts everywhere everywhere old new book rules i

  laters : (n : ℕ) (s : Sheet) → sheet_of book n ≡ Some s → HasLater old new later n s
  laters n s there = record {
    sheet = sheet_renamed id old new s;
    there = later_found id old new n book.worksheets s there;
    reach = Sheets;
    cells = refl;
    formattings = refl;
  }

  formulas_later : formulas_stand own_place kept.formulas later ≡ true
  formulas_later = kept_stand_later everywhere everywhere old new book rules later laters

  formattings_later : formattings_stand kept.formattings later ≡ true
  formattings_later = kept_rules_stand_later everywhere everywhere old new book rules later laters

  -- the sheet is renamed
  pub rename_made : (at : ℕ) → rename_forward at id old new kept book ≡ Ok later
  unfolding rename_forward
  rename_made at =
      let goes : goes_forward id kept book ≡ true = λ i. is_some (found i) && in_sheets i in
      ap (λ b. if b then Ok later else Err (DiffRefused 0 at)) goes

  -- and gets its old name back
  pub rename_taken_back : (at : ℕ) → rename_back at id old new kept later ≡ Ok book
  unfolding rename_back
  rename_taken_back at =
      let names = kept_names_stand old new book.names (well_formed_parts book rules).name_trees in
      let there = later_found id old new id book.worksheets sheet found in
      let goes : goes_back id kept later ≡ true = λ i. (is_some (there i) && in_sheets i) && (formulas_later i && names i && formattings_later i) in
      ap (λ b. if b then Ok (book_back id old new kept later) else Err (DiffRefused 0 at)) goes ∙ ap Ok (book_regained id new book (distinct_ids_from_well_formed book rules) sheet found)
