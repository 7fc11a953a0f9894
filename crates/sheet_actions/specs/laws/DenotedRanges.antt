-- After an insertion or a deletion the ranges of surviving formulas denote what is left of them.
use Rattle.std.proofs.Common.{◌≡◌, ℕ, true, Option, Some, None, refl, ap, ◌∙◌}
use Rattle.std.specs.Prelude.{IfSome}
use Rattle.std.specs.Option.{option_map}
use Rattle.std.specs.FinMap.{get}
use Rattle.base_values.specs.declared.Position.{Position}
use Rattle.base_values.specs.Places.{position_cmp}
use Rattle.base_values.specs.laws.Places.{position_total, exact_positions}
use Rattle.base_axis.specs.Along.{Along, IsAxis}
use Rattle.base_maps.specs.Carried.{if_there}
use Rattle.base_maps.specs.laws.CarriedLaws.{get-carried_map}
use Rattle.formula_tree.specs.declared.Node.{Node}
use Rattle.cell_content.specs.Lens.{tree_of}
use Rattle.cell_content.specs.laws.ChangedLaws.{tree_of-changed}
use Rattle.sheet_grid.specs.declared.Cell.{Cell}
use Rattle.sheet_grid.specs.Sheet.{Sheet}
use Rattle.sheet_grid.specs.Book.{Book}
use Rattle.sheet_ids.specs.Ids.{name_of, sheet_of}
use Rattle.line_edits.specs.declared.EditKind.{EditKind}
use Rattle.line_edits.specs.Edit.{IsValid}
use Rattle.line_laws.specs.Ranges.{is_insertion_or_deletion, RangesHoldImages}
use Rattle.line_laws.specs.laws.RangeImages.{edit_holds_images, goes_by_nodes}
use Rattle.line_map.specs.Contents.{cell_carried}
use Rattle.line_map.specs.Maps.{places_carried}
use Rattle.line_routes.specs.Trees.{tree_carried}
use Rattle.line_routes.specs.RouteModel.{RouteModel, IsRoute, at, back, place_goes}
use Rattle.line_routes.specs.laws.RouteLaws.{goes_inverse}
use Rattle.sheet_lines.specs.Followed.{route_on, book_route, book_carried, sheet_followed}
use Rattle.sheet_lines.specs.laws.Regained.{found_carried}
use Rattle.sheet_lines.specs.laws.Stays.{edit_is_route, is_route_on}
use Rattle.sheet_actions.specs.Formulas.{surviving, tree_at_place, RangesDenote}

module _ (w : RouteModel) (is : IsRoute w) (book : Book) where
  -- what a cell that goes to a place has become there
  cell_there : (sheet : Sheet) (p q : Position) → place_goes (route_on w sheet) p ≡ Some q → get (places_carried cell_carried (route_on w sheet) sheet.cells) q
      ≡ if_there (get sheet.cells p) (λ cell. Some (cell_carried (at (route_on w sheet) p q) cell))
  cell_there sheet p q goes =
      let v : RouteModel = route_on w sheet in
      let inverse = goes_inverse v (is_route_on w is sheet) in
      get-carried_map position_cmp position_total exact_positions (place_goes v) (place_goes (back v)) inverse (λ p q cell. cell_carried (at v p q) cell) sheet.cells q
      ∙ ap (λ o. if_there o (λ p. if_there (get sheet.cells p) (λ cell. Some (cell_carried (at v p q) cell)))) (inverse.back p q goes)

  tree_there : (n : ℕ) (sheet : Sheet) → sheet_of book n ≡ Some sheet → (p q : Position) → place_goes (route_on w sheet) p ≡ Some q →
      tree_at_place (book_carried w book) n q ≡ if_there (get sheet.cells p) (λ cell. option_map (tree_carried (at (route_on w sheet) p q)) (tree_of cell.content))
  tree_there n sheet found p q goes =
      ap (λ o. if_there o (λ later. if_there (get later.cells q) (λ cell. tree_of cell.content)))
      (found_carried w n book.worksheets ∙ ap (option_map (λ s. sheet_followed (route_on w s) s)) found)
      ∙ ap (λ o. if_there o (λ cell. tree_of cell.content)) (cell_there sheet p q goes)
      ∙ changed (get sheet.cells p)
    where
      changed : (o : Option Cell) → if_there (if_there o (λ cell. Some (cell_carried (at (route_on w sheet) p q) cell))) (λ cell. tree_of cell.content)
          ≡ if_there o (λ cell. option_map (tree_carried (at (route_on w sheet) p q)) (tree_of cell.content))
      changed None = refl
      changed (Some cell) = tree_of-changed (tree_carried (at (route_on w sheet) p q)) cell.content

  module _ (hold : (sheet : Sheet) → RangesHoldImages (route_on w sheet)) where
    abbrev Denote : ℕ → Option (RouteModel × Node) → Type 0
    Denote n o = IfSome o (λ s. RangesDenote s.0 s.1 (tree_at_place (book_carried w book) n s.0.to))

    at_tree : (n : ℕ) (sheet : Sheet) → sheet_of book n ≡ Some sheet → (p : Position) (cell : Cell) → get sheet.cells p ≡ Some cell →
        (t : Option Node) → tree_of cell.content ≡ t → (o : Option Position) → place_goes (route_on w sheet) p ≡ o →
        Denote n (if_there t (λ tree. if_there o (λ q. Some (at (route_on w sheet) p q, tree))))
    at_tree n sheet found p cell held None has o goes = tt
    at_tree n sheet found p cell held (Some tree) has None goes = tt
    at_tree n sheet found p cell held (Some tree) has (Some q) goes =
        let v : RouteModel = route_on w sheet in
        let later : tree_at_place (book_carried w book) n q ≡ Some (tree_carried (at v p q) tree) =
        tree_there n sheet found p q goes ∙ ap (λ o. if_there o (λ cell. option_map (tree_carried (at v p q)) (tree_of cell.content))) held
        ∙ ap (option_map (tree_carried (at v p q))) has in
        record {
          there = later ∙ ap Some (goes_by_nodes v p q tree);
          ranges = λ name first second exposed one other. hold sheet p q goes name first second exposed one other;
        }

    at_cell : (n : ℕ) (sheet : Sheet) → sheet_of book n ≡ Some sheet → (p : Position) (o : Option Cell) → get sheet.cells p ≡ o →
        Denote n (if_there o (λ cell. if_there (tree_of cell.content) (λ tree. if_there (place_goes (route_on w sheet) p) (λ q. Some (at (route_on w sheet) p q, tree)))))
    at_cell n sheet found p None held = tt
    at_cell n sheet found p (Some cell) held = at_tree n sheet found p cell held (tree_of cell.content) refl (place_goes (route_on w sheet) p) refl

    at_sheet : (n : ℕ) (p : Position) (o : Option Sheet) → sheet_of book n ≡ o → Denote n (if_there o (λ sheet. if_there (get sheet.cells p) (λ cell.
        if_there (tree_of cell.content) (λ tree. if_there (place_goes (route_on w sheet) p) (λ q. Some (at (route_on w sheet) p q, tree))))))
    at_sheet n p None found = tt
    at_sheet n p (Some sheet) found = at_cell n sheet found p (get sheet.cells p) refl

pub ranges_denote : (a : Along) → IsAxis a → (e : EditKind) → IsValid a.last e → is_insertion_or_deletion e ≡ true → (id : ℕ) (book : Book) (n : ℕ) (p : Position) →
    IfSome (surviving (book_route a e id book) book n p) (λ s. RangesDenote s.0 s.1 (tree_at_place (book_carried (book_route a e id book) book) n s.0.to))
ranges_denote a l e valid kind id book n p =
    let w : RouteModel = book_route a e id book in
    let is : IsRoute w = edit_is_route a l e valid id (name_of (sheet_of book id)) in
    at_sheet w is book (λ sheet. edit_holds_images (route_on w sheet) (is_route_on w is sheet) e valid kind refl) n p (sheet_of book n) refl
