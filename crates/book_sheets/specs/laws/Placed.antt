-- Corners of formulas, and merges, are inside, and conditional rules are inside: of what fits and is inside, and after sheets came, went
-- and moved.
use Rattle.std.proofs.Common.{◌≡◌, ℕ, zero, suc, Bool, true, false, cond, List, [], ◌∷◌, Option, Some, None, Result, Ok, Err, refl, ap, sym, subst, ◌∙◌}
use Rattle.std.specs.Prelude.{IfSome, OnOk, slice_get}
use Rattle.std.specs.FinMap.{get-empty}
use Rattle.std.specs.List.{AllByRecursion, insert, list_all, remove}
use Rattle.std.specs.Option.{option_map_or}
use Rattle.std.proofs.lemmas.List.Elements.{All-from_recursion}
use Rattle.base_axis.specs.declared.MergedCell.{MergedCell}
use Rattle.base_axis.specs.Rectangles.{IsInside, is_inside}
use Rattle.base_axis.specs.laws.RectangleLaws.{inside_found}
use Rattle.base_values.specs.declared.EditError.{EditError}
use Rattle.base_values.specs.declared.EditError.TheVariants.{DiffRefused}
use Rattle.base_values.specs.declared.Position.{Position}
use Rattle.base_values.specs.Answers.{Edits}
use Rattle.base_values.specs.Places.{position_cmp}
use Rattle.base_values.specs.laws.Places.{position_total, exact_positions}
use Rattle.formula_tree.specs.declared.Node.{Node}
use Rattle.formula_tree.specs.Placed.{is_placed}
use Rattle.cell_content.specs.Fitting.{tree_fits_at}
use Rattle.cell_content.specs.Lens.{tree_of}
use Rattle.defined_names.specs.declared.DefinedName.{DefinedName}
use Rattle.line_routes.specs.Merges.{MergesInside}
use Rattle.sheet_grid.specs.declared.Cell.{Cell}
use Rattle.sheet_grid.specs.laws.FittingCells.{entry_fits_at}
use Rattle.sheet_grid.specs.Sheet.{Sheet, new_sheet}
use Rattle.sheet_grid.specs.Book.{Book, index_of, sheets_moved}
use Rattle.sheet_rules.specs.laws.EntryLaws.{both, passes_at_from_all}
use Rattle.sheet_rules.specs.laws.FormattingLaws.{rules_stand_inside}
use Rattle.sheet_lines.specs.Sheets.{IsPlacedCell, IsPlacedSheet, IsPlacedBook}
use Rattle.book_sheets.specs.declared.kept_sheet.KeptSheet.{KeptSheet}
use Rattle.book_sheets.specs.SheetDiffs.{may_come, with_sheet_at, sheet_comes, without_sheet_at, goes_from, sheet_goes, sheet_as, is_sheet_inside, cells_fit, may_come_back, moved_from}

-- ---- one sheet

-- the corners of a tree that fits
pub placed_tree : (place : Position) (tree : Node) → tree_fits_at place tree ≡ true → is_placed place tree ≡ true
unfolding tree_fits_at
placed_tree place tree fits = (both _ _ (both _ _ fits).0).0

-- of a cell that fits
pub placed_cell : (place : Position) (cell : Cell) → entry_fits_at place (Some cell) ≡ true → IsPlacedCell place cell
placed_cell place cell fits = go (tree_of cell.content) fits
  where
    go : (o : Option Node) → option_map_or (tree_fits_at place) o true ≡ true → IfSome o (λ tree. is_placed place tree ≡ true)
    go None fits = tt
    go (Some tree) fits = placed_tree place tree fits

each_inside : (merges : List MergedCell) → list_all is_inside merges ≡ true → AllByRecursion IsInside merges
each_inside [] all = tt
each_inside (merge ∷ merges) all = let parts = both (is_inside merge) (list_all is_inside merges) all in (inside_found merge parts.0, each_inside merges parts.1)

-- merges that pass the test
pub merges_are_inside : (merges : List MergedCell) → list_all is_inside merges ≡ true → MergesInside merges
merges_are_inside merges all = All-from_recursion IsInside merges (each_inside merges all)

-- a new sheet has no formula, no merge and no conditional rule
pub placed_new : (id : ℕ) (name : List ℕ) → IsPlacedSheet (new_sheet id name)
placed_new id name = record {
  cells = λ place cell found. absurd (let never : ◌≡◌ {A = Option Cell} None (Some cell) = sym (get-empty position_cmp place) ∙ found in cc);
  merges = All-from_recursion IsInside [] tt;
  formattings = rules_stand_inside (new_sheet id name) refl refl;
}

-- a copy has those of its source
pub placed_copy : (id : ℕ) (name : List ℕ) (sheet : Sheet) → IsPlacedSheet sheet → IsPlacedSheet (sheet_as id name sheet)
placed_copy id name sheet placed = record { cells = placed.cells; merges = placed.merges; formattings = placed.formattings }

-- so it is for a kept sheet that may come back
pub placed_kept : (count : ℕ) (kept : KeptSheet) → may_come_back count kept ≡ true → IsPlacedSheet kept.sheet
unfolding may_come_back is_sheet_inside cells_fit
placed_kept count kept may =
    let first = both _ _ may in
    let trees_may = both _ _ first.0 in
    let sheet_may = both _ _ trees_may.0 in
    let lies = both _ _ sheet_may.0 in
    let fits = passes_at_from_all position_cmp position_total exact_positions entry_fits_at (λ _. refl) kept.sheet.cells sheet_may.1 in
    record {
      cells = λ place cell found. placed_cell place cell (sym (ap (entry_fits_at place) found) ∙ fits place);
      merges = merges_are_inside kept.sheet.merges (both _ _ lies.0).1;
      formattings = rules_stand_inside kept.sheet trees_may.1 lies.1;
    }

-- ---- all sheets

module _ {X : Type 0} (P : X → Type 0) where
  pub all_inserted : (xs : List X) (i : ℕ) (x : X) → AllByRecursion P xs → P x → AllByRecursion P (insert xs i x)
  all_inserted xs zero x all one = (one, all)
  all_inserted [] (suc i) x all one = (one, tt)
  all_inserted (y ∷ ys) (suc i) x all one = (all.0, all_inserted ys i x all.1 one)

  pub all_removed : (xs : List X) (i : ℕ) → AllByRecursion P xs → AllByRecursion P (remove xs i)
  all_removed [] zero all = tt
  all_removed [] (suc i) all = tt
  all_removed (y ∷ ys) zero all = all.1
  all_removed (y ∷ ys) (suc i) all = (all.0, all_removed ys i all.1)

  pub all_got : (xs : List X) (i : ℕ) (x : X) → AllByRecursion P xs → slice_get xs i ≡ Some x → P x
  all_got [] i x all found = absurd (cc)
  all_got (y ∷ ys) zero x all found = let same : y ≡ x = cc in subst P same all.0
  all_got (y ∷ ys) (suc i) x all found = all_got ys i x all.1 found

-- where the sheet at an index is taken to another one
pub placed_sheets_moved : (sheets : List Sheet) (from to : ℕ) → AllByRecursion IsPlacedSheet sheets → AllByRecursion IsPlacedSheet (sheets_moved sheets from to)
placed_sheets_moved sheets from to all = go (slice_get sheets from) refl
  where
    go : (o : Option Sheet) → slice_get sheets from ≡ o → AllByRecursion IsPlacedSheet (option_map_or (λ (sheet : Sheet). insert (remove sheets from) to sheet) o sheets)
    go None found = all
    go (Some sheet) found = all_inserted IsPlacedSheet (remove sheets from) to sheet (all_removed IsPlacedSheet sheets from all) (all_got IsPlacedSheet sheets from sheet all found)

-- ---- the later workbook

same_book : (book next : Book) → ◌≡◌ {A = Result Book EditError} (Ok book) (Ok next) → book ≡ next
same_book book next is = cc

refused : {A : Type 0} (at : ℕ) (next : Book) → ◌≡◌ {A = Result Book EditError} (Err (DiffRefused 0 at)) (Ok next) → A
refused at next never = absurd (cc)

-- where a sheet comes
pub placed_comes : (at index : ℕ) (sheet : Sheet) (names : List DefinedName) (w next : Book) → IsPlacedSheet sheet → IsPlacedBook w → sheet_comes at index sheet names w ≡ Ok next → IsPlacedBook next
placed_comes at index sheet names w next one all is = go (may_come index sheet.id w) is
  where
    go : (b : Bool) → cond b (Ok (with_sheet_at index sheet names w)) (Err (DiffRefused 0 at)) ≡ Ok next → IsPlacedBook next
    go true done = subst IsPlacedBook (same_book (with_sheet_at index sheet names w) next done) (all_inserted IsPlacedSheet w.worksheets index sheet all one)
    go false done = refused at next done

-- where a sheet goes
pub placed_goes : (at id : ℕ) (names : List DefinedName) (w next : Book) → IsPlacedBook w → sheet_goes at id names w ≡ Ok next → IsPlacedBook next
placed_goes at id names w next all is = go (index_of w id) is
  where
    go : (o : Option ℕ) → goes_from at o names w ≡ Ok next → IsPlacedBook next
    go None done = refused at next done
    go (Some index) done = subst IsPlacedBook (same_book (without_sheet_at index names w) next done) (all_removed IsPlacedSheet w.worksheets index all)

-- where a sheet moves
pub placed_moves : (at from_id to : ℕ) (w next : Book) → IsPlacedBook w → moved_from at (index_of w from_id) to w ≡ Ok next → IsPlacedBook next
placed_moves at from_id to w next all is = go (index_of w from_id) is
  where
    go : (o : Option ℕ) → moved_from at o to w ≡ Ok next → IsPlacedBook next
    go None done = refused at next done
    go (Some index) done = subst IsPlacedBook (same_book (record w { worksheets = sheets_moved w.worksheets index to }) next done) (placed_sheets_moved w.worksheets index to all)

-- what holds of every workbook that an edit is expected to give holds of the one that it gives
pub placed_after : (result : Result (Unit {0}) EditError) (w next : Book) (expected : Result Book EditError) → Edits result w next expected
    → ((later : Book) → expected ≡ Ok later → IsPlacedBook later) → OnOk result (IsPlacedBook next)
placed_after (Ok done) w next expected edits keeps = keeps next edits.done
placed_after (Err error) w next expected edits keeps = tt
