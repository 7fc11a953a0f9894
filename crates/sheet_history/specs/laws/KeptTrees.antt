-- Where the place of a kept tree goes there is a formula.
use Rattle.std.proofs.Common.{◌≡◌, true, Option, Some, None, ap, sym, ◌∙◌}
use Rattle.std.specs.FinMap.{FinMap, get}
use Rattle.base_values.specs.declared.Position.{Position}
use Rattle.base_values.specs.Places.{position_cmp}
use Rattle.base_values.specs.laws.Places.{position_total, exact_positions}
use Rattle.formula_tree.specs.declared.Node.{Node}
use Rattle.cell_content.specs.Lens.{tree_of}
use Rattle.base_maps.specs.Carried.{if_there}
use Rattle.line_map.specs.Contents.{cell_carried, cell_part}
use Rattle.line_map.specs.Maps.{places_carried}
use Rattle.line_routes.specs.Trees.{tree_carried, tree_part}
use Rattle.line_routes.specs.RouteModel.{RouteModel, IsRoute, at, back, place_goes}
use Rattle.base_maps.specs.laws.CarriedLaws.{get-carried_map}
use Rattle.line_routes.specs.laws.TreeLaws.{tree_restores}
use Rattle.line_routes.specs.laws.RouteLaws.{goes_inverse}
use Rattle.sheet_grid.specs.declared.Cell.{Cell}
use Rattle.book_names.specs.RenameDiffs.{is_formula, is_formula_at}
use Rattle.book_names.specs.laws.Cells.{still_formula}

-- what is kept of a tree is the tree
part_is : (w : RouteModel) (o : Option Node) (tree : Node) → if_there o (tree_part w) ≡ Some tree → o ≡ Some tree
part_is w None tree h = absurd (cc)
part_is w (Some own) tree h = ap Some (sym (tree_restores w own tree h))

module _ (w : RouteModel) (cells : FinMap position_cmp Cell) (p : Position) (tree : Node) where
  -- a kept tree is the tree of a cell whose place goes somewhere
  pub record IsTreeThere : Type 0 where
    pub to : Position
    pub cell : Cell
    pub goes : place_goes w p ≡ Some to
    pub stands : get cells p ≡ Some cell
    pub is_it : tree_of cell.content ≡ Some tree

  pub tree_there : (c : Option Cell) (o : Option Position) → get cells p ≡ c → place_goes w p ≡ o → if_there c (λ cell. if_there o (λ q. cell_part (at w p q) cell)) ≡ Some tree → IsTreeThere
  tree_there None o stands goes h = absurd (cc)
  tree_there (Some cell) None stands goes h = absurd (cc)
  tree_there (Some cell) (Some q) stands goes h = record { to = q; cell = cell; goes = goes; stands = stands; is_it = part_is (at w p q) (tree_of cell.content) tree h }

  -- where its place goes there is a formula
  pub formula_there : IsRoute w → IsTreeThere → is_formula_at (places_carried cell_carried w cells) (place_goes w p) ≡ true
  formula_there is it =
      let found : get (places_carried cell_carried w cells) it.to ≡ Some (cell_carried (at w p it.to) it.cell) =
      get-carried_map position_cmp position_total exact_positions (place_goes w) (place_goes (back w)) (goes_inverse w is) (λ p q x. cell_carried (at w p q) x) cells it.to
      ∙ ap (λ o. if_there o (λ r. if_there (get cells r) (λ x. Some (cell_carried (at w r it.to) x)))) ((goes_inverse w is).back p it.to it.goes)
      ∙ ap (λ o. if_there o (λ x. Some (cell_carried (at w p it.to) x))) it.stands in
      ap (is_formula_at (places_carried cell_carried w cells)) it.goes
      ∙ ap is_formula found
      ∙ still_formula (tree_carried (at w p it.to)) it.cell.content tree it.is_it
