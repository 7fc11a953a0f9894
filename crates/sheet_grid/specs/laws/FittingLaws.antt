-- Cells that fit, put in a workbook whose cells fit, leave such a workbook.
use Rattle.std.proofs.Common.{◌≡◌, ℕ, ℤ, pos, Bool, true, false, cond, List, Option, Some, None, Result, Ok, Err, refl, ap, sym, subst, ◌∙◌}
use Rattle.std.specs.Prelude.{IsTrue, slice_get}
use Rattle.std.specs.Ordering.{is_eq, eq_by_cmp}
use Rattle.std.specs.declared.cmp.Ordering.{Ordering}
use Rattle.std.specs.declared.cmp.Ordering.TheVariants.{Less, Equal, Greater}
use Rattle.std.specs.FinMap as fin
use Rattle.std.proofs.lemmas.List.Elements.{All-set, All-get_or, All-from_recursion}
use Rattle.std.proofs.lemmas.Option.{slice_get_within, get_or_from_slice_get}
use Rattle.base_values.specs.declared.EditError.{EditError}
use Rattle.base_values.specs.declared.EditError.TheVariants.{InvalidSheet, InvalidRow, InvalidColumn}
use Rattle.base_values.specs.declared.Position.{Position}
use Rattle.base_values.specs.Answers.{and_then, map_ok, ok_or}
use Rattle.base_values.specs.laws.KeyMap.{get-with_entry}
use Rattle.base_values.specs.Places.{is_line, place_of, position_cmp}
use Rattle.base_values.specs.laws.Places.{position_total, exact_positions}
use Rattle.base_tables.specs.declared.Locale.{Locale}
use Rattle.base_tables.specs.declared.Zone.{Zone}
use Rattle.cell_content.specs.laws.FittingLaws.{shallow_where_fits}
use Rattle.sheet_grid.specs.declared.cell.Cell.{Cell}
use Rattle.sheet_grid.specs.Sheet.{Sheet, cell_at, with_cell, cell_put}
use Rattle.sheet_grid.specs.Book.{Book, new_book, index_of, sheet_at, sheet_edit, edit_by_id, with_sheet}
use Rattle.sheet_grid.specs.laws.FittingCells.{entry_fits_at, is_shallow_entry, CellsFit, SheetsFit}

-- what fits a place is not deep
pub shallow_entry : (place : Position) (entry : Option Cell) → IsTrue (entry_fits_at place entry) → IsTrue (is_shallow_entry entry)
shallow_entry place None fits = refl
shallow_entry place (Some cell) fits = shallow_where_fits place cell.content fits

found_some : (o : Option Sheet) (sheet : Sheet) → ok_or InvalidSheet o ≡ Ok sheet → o ≡ Some sheet
found_some None sheet e = cc
found_some (Some other) sheet e = cc

-- the place at a row and a column is that row and that column
pub place_is : (row column : ℤ) (place : Position) → place_of row column ≡ Ok place → ◌≡◌ {A = Position} (record { row = row; column = column }) place
unfolding place_of
place_is row column place is = go (is_line (pos 1048576) row) (is_line (pos 16384) column) is
  where
    go : (a b : Bool) → ◌≡◌ {A = Result Position EditError} (cond a (cond b (Ok (record { row = row; column = column })) (Err InvalidColumn)) (Err InvalidRow)) (Ok place)
        → ◌≡◌ {A = Position} (record { row = row; column = column }) place
    go true true e = cc
    go true false e = absurd (let never : ◌≡◌ {A = Result Position EditError} (Err InvalidColumn) (Ok place) = e in cc)
    go false b e = absurd (let never : ◌≡◌ {A = Result Position EditError} (Err InvalidRow) (Ok place) = e in cc)

-- keys that are told to be equal are one
same_key : (q place : Position) → eq_by_cmp position_cmp q place ≡ true → q ≡ place
same_key q place e = exact_positions q place (tied (position_cmp q place) e)
  where
    tied : (o : Ordering) → is_eq o ≡ true → o ≡ Equal
    tied Less p = cc
    tied Equal p = refl
    tied Greater p = cc

-- a cell that fits, put in a sheet
pub cells_fit-put : (sheet : Sheet) (place : Position) (entry : Option Cell) → IsTrue (entry_fits_at place entry) → CellsFit sheet → CellsFit (with_cell sheet place entry)
cells_fit-put sheet place entry fits all q = subst (λ o. IsTrue (entry_fits_at q o)) (sym (get-with_entry position_total sheet.cells place entry q)) (either (eq_by_cmp position_cmp q place) refl)
  where
    either : (b : Bool) → eq_by_cmp position_cmp q place ≡ b → IsTrue (entry_fits_at q (cond b entry (fin.get sheet.cells q)))
    either true e = subst (λ p. IsTrue (entry_fits_at p entry)) (sym (same_key q place e)) fits
    either false e = all q

-- each sheet of such a workbook
pub cells_fit-at : (book : Book) (index : ℕ) (sheet : Sheet) → slice_get book.worksheets index ≡ Some sheet → SheetsFit book → CellsFit sheet
cells_fit-at book index sheet found all =
    subst CellsFit (get_or_from_slice_get book.worksheets index sheet sheet found)
    (All-get_or CellsFit book.worksheets index sheet (slice_get_within book.worksheets index sheet found) all)

-- a cell that fits, put in a sheet of such a workbook
pub sheets_fit-set : (book : Book) (index : ℕ) (sheet : Sheet) (place : Position) (entry : Option Cell) → IsTrue (entry_fits_at place entry) → slice_get book.worksheets index ≡ Some sheet → SheetsFit book
    → SheetsFit (with_sheet book index (with_cell sheet place entry))
sheets_fit-set book index sheet place entry fits found all =
    All-set CellsFit book.worksheets index (with_cell sheet place entry) (cells_fit-put sheet place entry fits (cells_fit-at book index sheet found all)) all

-- the cells of a new workbook fit: it has none
pub sheets_fit-new : (name : List ℕ) (locale : Locale) (zone : Zone) → SheetsFit (new_book name locale zone)
sheets_fit-new name locale zone = All-from_recursion CellsFit (new_book name locale zone).worksheets (λ place. subst (λ o. IsTrue (entry_fits_at place o)) (sym (fin.get-empty position_cmp place)) refl, tt)

-- the cell that a workbook has at a row and a column is not deep
pub shallow-found : (book : Book) (index : ℕ) (sheet : Sheet) (row column : ℤ) (place : Position) (entry : Option Cell) → SheetsFit book → sheet_at book index ≡ Ok sheet → place_of row column ≡ Ok place
    → cell_at sheet row column ≡ Ok entry → IsTrue (is_shallow_entry entry)
shallow-found book index sheet row column place entry all at named is =
    let there : ◌≡◌ {A = Result (Option Cell) EditError} (Ok (fin.get sheet.cells place)) (Ok entry) = sym (ap (map_ok (λ p. fin.get sheet.cells p)) named) ∙ is in
    let same : fin.get sheet.cells place ≡ entry = cc in
    let fits : IsTrue (entry_fits_at place entry) = subst (λ o. IsTrue (entry_fits_at place o)) same (cells_fit-at book index sheet (found_some (slice_get book.worksheets index) sheet at) all place) in
    shallow_entry place entry fits

module _ (book : Book) (row column : ℤ) (entry : Option Cell) (fits : (place : Position) → place_of row column ≡ Ok place → IsTrue (entry_fits_at place entry)) (all : SheetsFit book) (next : Book) where
  put_there : (index : ℕ) (sheet : Sheet) → slice_get book.worksheets index ≡ Some sheet → (r : Result Position EditError) → place_of row column ≡ r
      → map_ok (with_sheet book index) (map_ok (λ place. with_cell sheet place entry) r) ≡ Ok next → SheetsFit next
  put_there index sheet found (Ok place) named is =
      let same : with_sheet book index (with_cell sheet place entry) ≡ next = cc in
      subst SheetsFit same (sheets_fit-set book index sheet place entry (fits place named) found all)
  put_there index sheet found (Err error) named is = absurd (let never : ◌≡◌ {A = Result Book EditError} (Err error) (Ok next) = is in cc)

  put_in_sheet : (index : ℕ) (o : Option Sheet) → slice_get book.worksheets index ≡ o
      → and_then (ok_or InvalidSheet o) (λ sheet. map_ok (with_sheet book index) (cell_put sheet row column entry)) ≡ Ok next → SheetsFit next
  put_in_sheet index (Some sheet) found is = put_there index sheet found (place_of row column) refl is
  put_in_sheet index None found is = absurd (let never : ◌≡◌ {A = Result Book EditError} (Err InvalidSheet) (Ok next) = is in cc)

  -- a cell that fits, put in the sheet at an index
  pub sheets_fit-edit : (index : ℕ) → sheet_edit book index (λ sheet. cell_put sheet row column entry) ≡ Ok next → SheetsFit next
  sheets_fit-edit index is = put_in_sheet index (slice_get book.worksheets index) refl is

  by_id : (o : Option ℕ) → and_then (ok_or InvalidSheet o) (λ index. sheet_edit book index (λ sheet. cell_put sheet row column entry)) ≡ Ok next → SheetsFit next
  by_id (Some index) is = sheets_fit-edit index is
  by_id None is = absurd (let never : ◌≡◌ {A = Result Book EditError} (Err InvalidSheet) (Ok next) = is in cc)

  -- and in the sheet of an id
  pub sheets_fit-by_id : (id : ℕ) → edit_by_id book id (λ sheet. cell_put sheet row column entry) ≡ Ok next → SheetsFit next
  sheets_fit-by_id id is = by_id (index_of book id) is
