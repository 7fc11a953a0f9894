-- Going back with what was kept gives the workbook.
use Rattle.std.proofs.Common.{◌≡◌, ℕ, true, false, List, [], ◌∷◌, Option, Some, None, refl, ap, sym, ◌∙◌}
use Rattle.std.specs.Prelude.{⊤, ◌==◌, if◌then◌else◌}
use Rattle.std.specs.Option.{option_map}
use Rattle.std.specs.Cmp.{unsigned_Decides}
use Rattle.std.specs.FinMap.{FinMap, get}
use Rattle.base_values.specs.declared.Position.{Position}
use Rattle.base_values.specs.Places.{IsPlace, position_cmp}
use Rattle.base_values.specs.laws.Places.{position_total, exact_positions}
use Rattle.base_axis.specs.Along.{Along, IsAxis}
use Rattle.base_maps.specs.Carried.{if_there, overlaid}
use Rattle.base_maps.specs.Tagged.{place_on}
use Rattle.base_maps.specs.laws.CarriedLaws.{get-parts_map}
use Rattle.base_maps.specs.laws.Found.{all_come_back, found_by, all_found}
use Rattle.base_maps.specs.laws.Tagged.{get-all_under}
use Rattle.formula_tree.specs.declared.Node.{Node}
use Rattle.sheet_grid.specs.declared.Cell.{Cell}
use Rattle.sheet_grid.specs.Sheet.{Sheet, with_entries, only_cells}
use Rattle.sheet_grid.specs.Book.{Book}
use Rattle.line_edits.specs.declared.EditKind.{EditKind}
use Rattle.line_edits.specs.Edit.{IsValid}
use Rattle.line_map.specs.Contents.{cell_carried, cell_part, cell_restored}
use Rattle.line_map.specs.Maps.{lost_along, entry_part, places_carried, places_restored}
use Rattle.line_routes.specs.RouteModel.{RouteModel, IsRoute, at, back, place_goes}
use Rattle.line_map.specs.laws.ContentLaws.{cell_comes_back, cell_restores}
use Rattle.line_map.specs.laws.MapLaws.{brings_nothing, entries_return, part_there, place_keys}
use Rattle.sheet_lines.specs.declared.kept.KeptLines.{KeptLines}
use Rattle.sheet_lines.specs.Back.{sheet_back, sheets_back, book_back}
use Rattle.sheet_lines.specs.Followed.{route_on, book_route, sheet_followed, sheets_followed, book_followed}
use Rattle.sheet_lines.specs.Kept.{kept_of, edited_kept, trees_kept, formulas_kept, lines_kept, kept_lines}
use Rattle.sheet_ids.specs.Ids.{sheet_of, name_of, HasDistinctIds}
use Rattle.sheet_lines.specs.laws.Stays.{edit_is_route, is_route_on}
use Rattle.sheet_lines.specs.Parts.{parts, lost_of}
use Rattle.sheet_lines.specs.laws.PartLaws.{lost_laid}

-- the cells of a sheet, with trees that are those kept of them
cells_regained : (w : RouteModel) → IsRoute w → (cells given : FinMap position_cmp Cell) (trees : Position → Option Node) →
    (w.is_edited ≡ true → given ≡ lost_of w cells) →
    ((p : Position) → trees p ≡ entry_part place_goes at cell_part w cells p) →
    overlaid (lost_along w.is_edited given) (places_restored cell_carried (λ _ cell tree. cell_restored cell tree) w trees
    (places_carried cell_carried w cells)) ≡ cells
cells_regained w is cells given trees lost kept =
    ap (λ l. overlaid l (places_restored cell_carried (λ _ cell tree. cell_restored cell tree) w trees (places_carried cell_carried w cells)))
    (lost_laid w given cells lost)
    ∙ entries_return place_keys w is cell_carried cell_part (λ _ cell tree. cell_restored cell tree) (λ _ _. ⊤) (λ v _ x _. cell_comes_back v x)
    (λ v _ x _. cell_restores v x) (brings_nothing IsPlace place_goes) cells (λ p q x held there. tt) trees
    (λ p q x there held. kept p ∙ part_there place_keys w is cell_part cells p q x there held)

-- the trees that are kept under an id are those of the formulas of its sheet
pub formulas_at : (w : RouteModel) (book : Book) → HasDistinctIds book → (n : ℕ) (p : Position) →
    get (formulas_kept w book.worksheets) (place_on n p) ≡
    if_there (sheet_of book n) (λ sheet. entry_part place_goes at cell_part (route_on w sheet) sheet.cells p)
formulas_at w book distinct n p = get-all_under (λ sheet. sheet.id) (trees_kept w) book.worksheets distinct n p ∙ at_sheet (sheet_of book n)
  where
    at_sheet : (o : Option Sheet) → if_there o (λ sheet. get (trees_kept w sheet) p) ≡
        if_there o (λ sheet. entry_part place_goes at cell_part (route_on w sheet) sheet.cells p)
    at_sheet None = refl
    at_sheet (Some sheet) = get-parts_map position_cmp position_total exact_positions (place_goes (route_on w sheet))
        (λ p q x. cell_part (at (route_on w sheet) p q) x) sheet.cells p

-- the sheet of an id is found carried along
pub found_carried : (w : RouteModel) (n : ℕ) (sheets : List Sheet) →
    found_by (λ sheet. sheet.id) n (sheets_followed w sheets) ≡ option_map (λ sheet. sheet_followed (route_on w sheet) sheet) (found_by (λ sheet. sheet.id) n sheets)
found_carried w n [] = refl
found_carried w n (sheet ∷ sheets) = elim (sheet.id == n) as (λ b.
    (if b then Some (sheet_followed (route_on w sheet) sheet) else found_by (λ sheet. sheet.id) n (sheets_followed w sheets))
    ≡ option_map (λ sheet. sheet_followed (route_on w sheet) sheet) (if b then Some sheet else found_by (λ sheet. sheet.id) n sheets))
    [ true ↦ refl | false ↦ found_carried w n sheets ]

-- with its name
same_name : (w : RouteModel) (o : Option Sheet) → name_of (option_map (λ sheet. sheet_followed (route_on w sheet) sheet) o) ≡ name_of o
same_name w None = refl
same_name w (Some sheet) = refl

-- along the way of the edited sheet
module _ (w : RouteModel) (is : IsRoute w) (book : Book) (distinct : HasDistinctIds book) where
  abbrev kept : KeptLines
  kept = lines_kept w book

  sheet_regained : (sheet : Sheet) → sheet_of book sheet.id ≡ Some sheet →
      sheet_back (route_on w sheet) kept (sheet_followed (route_on w sheet) sheet) ≡ sheet
  sheet_regained sheet found =
      let v : RouteModel = route_on w sheet in
      let own : v.is_edited ≡ true → edited_kept w (sheet_of book w.sheet) ≡ kept_of v sheet =
      (λ same. ap (λ n. edited_kept w (sheet_of book n)) (sym ((unsigned_Decides sheet.id w.sheet).0 same)) ∙ ap (edited_kept w) found) in
      λ i. with_entries sheet (parts.with_value (only_cells (cells_regained v (is_route_on w is sheet) sheet.cells kept.cells
      (λ p. get kept.formulas (place_on sheet.id p)) (λ same. ap (λ k. k.cells) (own same))
      (λ p. formulas_at w book distinct sheet.id p ∙ ap (λ o. if_there o (λ s. entry_part place_goes at cell_part (route_on w s) s.cells p)) found) i))
      (parts.restores v (is_route_on w is sheet) (parts.value_of sheet) (parts.kept_in kept) (λ same. ap parts.kept_in (own same)) i))

  pub sheets_regained : sheets_back w kept (sheets_followed w book.worksheets) ≡ book.worksheets
  sheets_regained = all_come_back (λ sheet. sheet_of book sheet.id ≡ Some sheet) (λ sheet. sheet_followed (route_on w sheet) sheet)
      (λ sheet. sheet_back (route_on w sheet) kept sheet) sheet_regained book.worksheets (all_found (λ sheet. sheet.id) book.worksheets distinct)

-- going back with what was kept gives the workbook
pub book_regained : (a : Along) → IsAxis a → (e : EditKind) → IsValid a.last e → (id : ℕ) (book : Book) → HasDistinctIds book →
    book_back a e id (kept_lines a e id book) (book_followed a e id book) ≡ book
book_regained a l e valid id book distinct =
    let w : RouteModel = book_route a e id book in λ i. record book {
      worksheets = (ap (λ edited. sheets_back (record w { edited = edited }) (kept_lines a e id book) (book_followed a e id book).worksheets)
          (ap name_of (found_carried w id book.worksheets) ∙ same_name w (sheet_of book id)) ∙ sheets_regained w (edit_is_route a l e valid id (name_of (sheet_of book id))) book distinct) i;
    }
