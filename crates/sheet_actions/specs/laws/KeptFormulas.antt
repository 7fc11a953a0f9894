-- An edit of lines keeps exactly the formulas that have to be kept.
use Rattle.std.proofs.Common.{◌≡◌, ℕ, true, Option, Some, None, refl, ◌∙◌}
use Rattle.std.specs.Prelude.{◌==◌, IfSome, if◌then◌else◌}
use Rattle.std.specs.FinMap.{get}
use Rattle.base_values.specs.declared.Position.{Position}
use Rattle.base_maps.specs.Carried.{if_there}
use Rattle.base_maps.specs.laws.Found.{found_holds}
use Rattle.formula_tree.specs.declared.Node.{Node}
use Rattle.formula_tree.specs.Placed.{is_placed}
use Rattle.cell_content.specs.Lens.{tree_of}
use Rattle.sheet_grid.specs.declared.Cell.{Cell}
use Rattle.sheet_grid.specs.Sheet.{Sheet}
use Rattle.sheet_grid.specs.Book.{Book}
use Rattle.sheet_ids.specs.Ids.{sheet_of, HasDistinctIds}
use Rattle.line_map.specs.Contents.{cell_part}
use Rattle.line_map.specs.Maps.{entry_part}
use Rattle.line_routes.specs.MustKeep.{must_keep}
use Rattle.line_routes.specs.Trees.{tree_part}
use Rattle.line_routes.specs.RouteModel.{RouteModel, IsRoute, at, place_goes}
use Rattle.line_routes.specs.laws.MustKeepLaws.{part_by_corners}
use Rattle.sheet_lines.specs.Followed.{route_on}
use Rattle.sheet_lines.specs.Sheets.{IsPlacedSheet, IsPlacedBook}
use Rattle.sheet_lines.specs.laws.Regained.{formulas_at}
use Rattle.sheet_actions.specs.Formulas.{KeepsExactly}

abbrev kept_of : Option (RouteModel × Node) → Option Node
kept_of o = if_there o (λ s. if must_keep s.0 s.1 then Some s.1 else None)

module _ (w : RouteModel) (is : IsRoute w) (book : Book) (placed : IsPlacedBook book) (distinct : HasDistinctIds book) where
  at_tree : (v : RouteModel) → IsRoute v → (p : Position) (t : Option Node) → IfSome t (λ tree. is_placed p tree ≡ true) → (o : Option Position) →
      if_there o (λ q. if_there t (tree_part (at v p q))) ≡ kept_of (if_there t (λ tree. if_there o (λ q. Some (at v p q, tree))))
  at_tree v is_v p None lies None = refl
  at_tree v is_v p None lies (Some q) = refl
  at_tree v is_v p (Some tree) lies None = refl
  at_tree v is_v p (Some tree) lies (Some q) = part_by_corners (at v p q) (record { axis = is_v.axis; one_to_one = is_v.one_to_one }) tree lies

  at_cell : (sheet : Sheet) → IsPlacedSheet sheet → (p : Position) (o : Option Cell) → get sheet.cells p ≡ o →
      if_there o (λ cell. if_there (place_goes (route_on w sheet) p) (λ q. cell_part (at (route_on w sheet) p q) cell))
      ≡ kept_of (if_there o (λ cell. if_there (tree_of cell.content) (λ tree. if_there (place_goes (route_on w sheet) p) (λ q. Some (at (route_on w sheet) p q, tree)))))
  at_cell sheet it p None held = refl
  at_cell sheet it p (Some cell) held = at_tree (route_on w sheet) (record { axis = is.axis; one_to_one = is.one_to_one }) p (tree_of cell.content)
      (it.cells p cell held) (place_goes (route_on w sheet) p)

  at_sheet : (n : ℕ) (p : Position) (o : Option Sheet) → sheet_of book n ≡ o →
      if_there o (λ sheet. entry_part place_goes at cell_part (route_on w sheet) sheet.cells p)
      ≡ kept_of (if_there o (λ sheet. if_there (get sheet.cells p) (λ cell. if_there (tree_of cell.content) (λ tree.
      if_there (place_goes (route_on w sheet) p) (λ q. Some (at (route_on w sheet) p q, tree))))))
  at_sheet n p None found = refl
  at_sheet n p (Some sheet) found = at_cell sheet (found_holds (λ s. s.id == n) IsPlacedSheet book.worksheets placed sheet found) p (get sheet.cells p) refl

  pub keeps_exactly : (n : ℕ) (p : Position) → KeepsExactly w book n p
  keeps_exactly n p = formulas_at w book distinct n p ∙ at_sheet n p (sheet_of book n) refl
