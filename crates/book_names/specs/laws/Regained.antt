-- Going back with what was kept gives the workbook.
use Rattle.std.proofs.Common.{◌≡◌, ℕ, Bool, true, false, List, Option, Some, None, refl, ap, sym, ◌∙◌}
use Rattle.std.specs.Prelude.{◌==◌, if◌then◌else◌}
use Rattle.std.specs.Cmp.{unsigned_Decides}
use Rattle.std.specs.FinMap.{get}
use Rattle.base_values.specs.declared.Position.{Position}
use Rattle.base_values.specs.Places.{position_cmp}
use Rattle.base_values.specs.laws.Places.{position_total, exact_positions}
use Rattle.base_maps.specs.Carried.{if_there}
use Rattle.base_maps.specs.Tagged.{place_on}
use Rattle.base_maps.specs.laws.Found.{all_come_back, all_found}
use Rattle.base_maps.specs.laws.Gathering.{get-gathered}
use Rattle.base_maps.specs.laws.Inverses.{own_inverse}
use Rattle.base_maps.specs.laws.Tagged.{get-all_under}
use Rattle.formula_names.specs.declared.Reach.{Reach}
use Rattle.base_maps.specs.TaggedIndexes.{index_on}
use Rattle.base_maps.specs.laws.TaggedIndexes.{get-all_under as get-indexes_under}
use Rattle.sheet_grid.specs.declared.Cell.{Cell}
use Rattle.sheet_grid.specs.Sheet.{Sheet}
use Rattle.sheet_grid.specs.Book.{Book}
use Rattle.sheet_ids.specs.Ids.{sheet_of, HasDistinctIds}
use Rattle.book_names.specs.declared.kept_trees.KeptTrees.{KeptTrees}
use Rattle.book_names.specs.Renaming.{cells_renamed, sheet_renamed, book_renamed, cell_kept, cells_kept, formulas_kept, everywhere, trees_kept, cells_back, sheet_back, book_back}
use Rattle.book_names.specs.Renaming.{formattings_renamed, own_formattings_kept, formattings_kept, formattings_back}
use Rattle.book_names.specs.laws.Cells.{cells_regained}
use Rattle.book_names.specs.laws.Formattings.{formattings_regained as own_formattings_regained}
use Rattle.book_names.specs.laws.Names.{names_regained}

-- the trees that are kept under an id and a place: that of the cell there, where the opposite renaming does not give it
pub formulas_at : (there back : ℕ → Reach) (old new : List ℕ) (book : Book) → HasDistinctIds book → (n : ℕ) (p : Position) →
    get (formulas_kept there back old new book.worksheets) (place_on n p) ≡ if_there (sheet_of book n) (λ sheet. if_there (get sheet.cells p) (cell_kept (there sheet.id) (back sheet.id) old new))
formulas_at there back old new book distinct n p =
    get-all_under (λ (sheet : Sheet). sheet.id) (λ (sheet : Sheet). cells_kept (there sheet.id) (back sheet.id) old new sheet.cells) book.worksheets distinct n p ∙ at_sheet (sheet_of book n)
  where
    at_sheet : (o : Option Sheet) → if_there o (λ sheet. get (cells_kept (there sheet.id) (back sheet.id) old new sheet.cells) p)
        ≡ if_there o (λ sheet. if_there (get sheet.cells p) (cell_kept (there sheet.id) (back sheet.id) old new))
    at_sheet None = refl
    at_sheet (Some sheet) =
        get-gathered position_cmp position_total exact_positions Some Some own_inverse (λ _ _ cell. cell_kept (there sheet.id) (back sheet.id) old new cell) sheet.cells p

-- the conditional rule that is kept under an id and a place: that of the sheet's list there, where the opposite renaming does not give it
pub formattings_at : (there back : ℕ → Reach) (old new : List ℕ) (book : Book) → HasDistinctIds book → (n q : ℕ) →
    get (formattings_kept there back old new book.worksheets) (index_on n q)
    ≡ if_there (sheet_of book n) (λ sheet. get (own_formattings_kept (there sheet.id) (back sheet.id) old new sheet.formattings) q)
formattings_at there back old new book distinct n q =
    get-indexes_under (λ (sheet : Sheet). sheet.id) (λ (sheet : Sheet). own_formattings_kept (there sheet.id) (back sheet.id) old new sheet.formattings) book.worksheets distinct n q

module _ (there back : ℕ → Reach) (old new : List ℕ) (book : Book) (distinct : HasDistinctIds book) where
  -- what is kept under the id of a sheet is what is kept of its cells
  kept_here : (s : Sheet) → sheet_of book s.id ≡ Some s → (p : Position) (cell : Cell) → get s.cells p ≡ Some cell
      → get (formulas_kept there back old new book.worksheets) (place_on s.id p) ≡ cell_kept (there s.id) (back s.id) old new cell
  kept_here s found p cell stands =
      formulas_at there back old new book distinct s.id p
      ∙ ap (λ o. if_there o (λ t. if_there (get t.cells p) (cell_kept (there t.id) (back t.id) old new))) found
      ∙ ap (λ o. if_there o (cell_kept (there s.id) (back s.id) old new)) stands

  -- the cells of each sheet come back with what is kept
  pub sheet_cells_regained : (s : Sheet) → sheet_of book s.id ≡ Some s
      → cells_back (back s.id) old new (λ p. get (formulas_kept there back old new book.worksheets) (place_on s.id p)) (cells_renamed (there s.id) old new s.cells) ≡ s.cells
  sheet_cells_regained s found =
      cells_regained (there s.id) (back s.id) old new s.cells (λ p. get (formulas_kept there back old new book.worksheets) (place_on s.id p)) (kept_here s found)

  -- what is kept under the id of a sheet is what is kept of its conditional rules
  rule_kept_here : (s : Sheet) → sheet_of book s.id ≡ Some s → (q : ℕ)
      → get (formattings_kept there back old new book.worksheets) (index_on s.id q) ≡ get (own_formattings_kept (there s.id) (back s.id) old new s.formattings) q
  rule_kept_here s found q =
      formattings_at there back old new book distinct s.id q
      ∙ ap (λ o. if_there o (λ (t : Sheet). get (own_formattings_kept (there t.id) (back t.id) old new t.formattings) q)) found

  -- the conditional rules of each sheet come back with what is kept
  pub sheet_formattings_regained : (s : Sheet) → sheet_of book s.id ≡ Some s
      → formattings_back (back s.id) old new (λ q. get (formattings_kept there back old new book.worksheets) (index_on s.id q)) (formattings_renamed (there s.id) old new s.formattings)
      ≡ s.formattings
  sheet_formattings_regained s found =
      (λ i. formattings_back (back s.id) old new (λ q. rule_kept_here s found q i) (formattings_renamed (there s.id) old new s.formattings))
      ∙ own_formattings_regained (there s.id) (back s.id) old new s.formattings

module _ (id : ℕ) (new : List ℕ) (book : Book) (distinct : HasDistinctIds book) (sheet : Sheet) (found : sheet_of book id ≡ Some sheet) where
  abbrev old : List ℕ
  old = sheet.name

  abbrev kept : KeptTrees
  kept = trees_kept old new book

  same_sheet : (one other : Sheet) → ◌≡◌ {A = Option Sheet} (Some one) (Some other) → one ≡ other
  same_sheet one other is = cc

  -- a sheet gets its name back
  name_regained : (s : Sheet) → sheet_of book s.id ≡ Some s → (if s.id == id then old else (if s.id == id then new else s.name)) ≡ s.name
  name_regained s there = go (s.id == id) refl
    where
      go : (b : Bool) → (s.id == id) ≡ b → (if b then old else (if b then new else s.name)) ≡ s.name
      go true same = ap (λ (t : Sheet). t.name) (same_sheet sheet s (sym found ∙ ap (sheet_of book) (sym ((unsigned_Decides s.id id).0 same)) ∙ there))
      go false other = refl

  sheet_regained : (s : Sheet) → sheet_of book s.id ≡ Some s → sheet_back id old new kept (sheet_renamed id old new s) ≡ s
  sheet_regained s there = λ i. record s {
    name = name_regained s there i;
    cells = sheet_cells_regained everywhere everywhere old new book distinct s there i;
    formattings = sheet_formattings_regained everywhere everywhere old new book distinct s there i;
  }

  -- going back with what was kept gives the workbook
  pub book_regained : book_back id old new kept (book_renamed id old new book) ≡ book
  book_regained = λ i. record book {
    names = names_regained old new book.names i;
    worksheets = all_come_back (λ s. sheet_of book s.id ≡ Some s) (sheet_renamed id old new) (sheet_back id old new kept) sheet_regained book.worksheets (all_found (λ (s : Sheet). s.id) book.worksheets distinct) i;
  }
