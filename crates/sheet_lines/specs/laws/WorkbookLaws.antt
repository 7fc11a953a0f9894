-- The law of followers for a workbook.
use Rattle.std.proofs.Common.{◌≡◌, ℕ, List, [], ◌∷◌, map, Option, Some, None, refl, ap, sym, subst, ◌∙◌}
use Rattle.std.specs.Prelude.{⊤, ◌==◌, IfSome, IsTrue, is_some}
use Rattle.std.specs.List.{IsDistinct}
use Rattle.std.specs.Option.{option_map}
use Rattle.base_values.specs.declared.Position.{Position}
use Rattle.base_values.specs.Places.{position_cmp}
use Rattle.base_values.specs.laws.Places.{position_total, exact_positions}
use Rattle.base_axis.specs.Along.{rows, columns}
use Rattle.base_axis.specs.laws.Lawful.{rows_lawful, columns_lawful}
use Rattle.base_maps.specs.Carried.{if_there}
use Rattle.base_maps.specs.laws.Found.{found_holds}
use Rattle.base_maps.specs.laws.CarriedLaws.{get-parts_map}
use Rattle.line_map.specs.Contents.{cell_carried, cell_part}
use Rattle.line_map.specs.Maps.{entry_part}
use Rattle.line_map.specs.laws.AttributeLaws.{lines_stay}
use Rattle.line_map.specs.laws.MapLaws.{places_stay as map_stays}
use Rattle.line_routes.specs.RouteModel.{RouteModel, IsRoute, back, at, place_goes}
use Rattle.line_map.specs.laws.RuleLaws.{rules_numbers}
use Rattle.sheet_grid.specs.CanonicalCell.{IsCanonicalCell}
use Rattle.sheet_grid.specs.contracts.line_attr.LineAttrPartialEq.TheImpl as attribute
use Rattle.sheet_grid.specs.Sheet.{Sheet}
use Rattle.sheet_grid.specs.Book.{Book}
use Rattle.sheet_lines.specs.declared.kept.KeptLines.{KeptLines}
use Rattle.sheet_lines.specs.Back.{AreCanonicalFormulas, book_restored}
use Rattle.sheet_lines.specs.Followed.{route_on, sheet_followed, sheets_followed, book_carried}
use Rattle.sheet_lines.specs.Kept.{kept_of, edited_kept, formulas_kept, lines_kept}
use Rattle.sheet_ids.specs.Ids.{sheet_of}
use Rattle.sheet_lines.specs.Workbooks.{IsSoundSheet, SheetsInside, LinesFit}
use Rattle.sheet_lines.specs.laws.Regained.{found_carried, formulas_at, sheets_regained}
use Rattle.sheet_lines.specs.laws.Stays.{HasCanonicalNumbers, all_mapped, fits_with_formulas, followed_are, is_route_on, numbers_stay, parts_kept, sheet_kept_fits, sheet_placed}

module _ (w : RouteModel) (is : IsRoute w) where
  -- a sheet that follows stays sound
  sound_carried : (sheet : Sheet) → IsSoundSheet sheet → IsSoundSheet (sheet_followed (route_on w sheet) sheet)
  sound_carried sheet it = let v : RouteModel = route_on w sheet in let route_model : IsRoute v = is_route_on w is sheet in record {
    placed = sheet_placed w is sheet it.placed;
    cells = (map_stays v route_model cell_carried (λ _ _. ⊤) (λ _ _ _ _. tt) sheet.cells (record { places = it.cells; items = λ _ _ _ _ _. tt })).places;
    links = (map_stays v route_model (λ _ link. link) (λ _ _. ⊤) (λ _ _ _ _. tt) sheet.links (record { places = it.links; items = λ _ _ _ _ _. tt })).places;
    rows = lines_stay v route_model rows rows_lawful attribute.ghosts.eq sheet.rows it.rows;
    columns = lines_stay v route_model columns columns_lawful attribute.ghosts.eq sheet.columns it.columns;
    numbers = followed_are v route_model (λ _. IsCanonicalCell) (λ _. HasCanonicalNumbers) numbers_stay sheet.cells it.numbers;
    rules = rules_numbers v sheet.formattings it.rules;
  }

  same_ids : (sheets : List Sheet) → map (λ sheet. sheet.id) (sheets_followed w sheets) ≡ map (λ sheet. sheet.id) sheets
  same_ids [] = refl
  same_ids (sheet ∷ sheets) = λ i. sheet.id ∷ same_ids sheets i

  still_there : (o : Option Sheet) → IsTrue (is_some o) → IsTrue (is_some (option_map (λ sheet. sheet_followed (route_on w sheet) sheet) o))
  still_there None h = h
  still_there (Some sheet) h = refl

  pub book_stays : (book : Book) → SheetsInside w book → SheetsInside (back w) (book_carried w book)
  book_stays book lie = record {
    sheets = all_mapped IsSoundSheet (λ sheet. sheet_followed (route_on w sheet) sheet) sound_carried book.worksheets lie.sheets;
    distinct = subst (IsDistinct ◌==◌) (sym (same_ids book.worksheets)) lie.distinct;
    there = subst (λ o. IsTrue (is_some o)) (sym (found_carried w w.sheet book.worksheets)) (still_there (sheet_of book w.sheet) lie.there);
  }

  -- numbers of the trees that are kept of the sheet of an id are canonical
  trees_at : (p : Position) (o : Option Sheet) → IfSome o IsSoundSheet →
      IfSome (if_there o (λ sheet. entry_part place_goes at cell_part (route_on w sheet) sheet.cells p)) HasCanonicalNumbers
  trees_at p None it = tt
  trees_at p (Some sheet) it = subst (λ o. IfSome o HasCanonicalNumbers)
      (get-parts_map position_cmp position_total exact_positions (place_goes (route_on w sheet)) (λ p q x. cell_part (at (route_on w sheet) p q) x) sheet.cells p)
      (parts_kept (route_on w sheet) (is_route_on w is sheet) sheet.cells it.numbers p)

  pub kept_fits : (book : Book) → SheetsInside w book → (kept : KeptLines) → Some (lines_kept w book) ≡ Some kept → LinesFit w kept
  kept_fits book lie kept h = let same : lines_kept w book ≡ kept = cc in subst (LinesFit w) same (fits (sheet_of book w.sheet) refl lie.there)
    where
      sound : (n : ℕ) (o : Option Sheet) → sheet_of book n ≡ o → IfSome o IsSoundSheet
      sound n None found = tt
      sound n (Some sheet) found = found_holds (λ s. s.id == n) IsSoundSheet book.worksheets lie.sheets sheet found

      formulas : AreCanonicalFormulas (formulas_kept w book.worksheets)
      formulas key = subst (λ o. IfSome o HasCanonicalNumbers) (sym (formulas_at w book lie.distinct key.sheet key.place))
          (trees_at key.place (sheet_of book key.sheet) (sound key.sheet (sheet_of book key.sheet) refl))

      fits : (o : Option Sheet) → sheet_of book w.sheet ≡ o → IsTrue (is_some o) → LinesFit w (lines_kept w book)
      fits None found there = absurd (cc)
      fits (Some sheet) found there = subst (λ o. LinesFit w (record (edited_kept w o) { formulas = formulas_kept w book.worksheets })) (sym found)
          (fits_with_formulas w is (kept_of (route_on w sheet) sheet) (sheet_kept_fits w is sheet (sound w.sheet (Some sheet) found))
          (formulas_kept w book.worksheets) formulas)

  pub book_restores : (book : Book) → SheetsInside w book → (kept : KeptLines) → Some (lines_kept w book) ≡ Some kept →
      book_restored w (book_carried w book) kept ≡ book
  book_restores book lie kept h = let same : lines_kept w book ≡ kept = cc in
      ap (book_restored w (book_carried w book)) (sym same) ∙ (λ i. record book { worksheets = sheets_regained w is book lie.distinct i })
