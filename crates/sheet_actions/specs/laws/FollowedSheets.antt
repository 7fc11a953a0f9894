-- A sheet along a map on lines keeps the rules of its sheet.
use Rattle.std.proofs.Common.{◌≡◌, ℕ, Bool, true, ap, ◌∙◌, arith}
use Rattle.std.specs.Prelude.{◌&&◌, nat_le}
use Rattle.std.specs.List.{list_all}
use Rattle.std.specs.Ordering.{int_cmp}
use Rattle.std.specs.FinMap.{FinMap, entries}
use Rattle.base_values.specs.Places.{is_line}
use Rattle.base_axis.specs.Along.{Along, IsAxis, rows, columns}
use Rattle.base_axis.specs.laws.Lawful.{rows_lawful, columns_lawful}
use Rattle.formula_tree.specs.declared.Node.{Node}
use Rattle.formula_tree.specs.Depth.{is_within}
use Rattle.formula_tree.specs.Numbers.{has_no_negative_number}
use Rattle.formula_tree.specs.Placed.{is_placed}
use Rattle.formula_tree.specs.laws.MovedLaws.{depth-moved}
use Rattle.cell_content.specs.Fitting.{tree_fits_at, fits_at}
use Rattle.cell_content.specs.declared.Content.{Content}
use Rattle.cell_content.specs.laws.FittingLaws.{changed_fits}
use Rattle.line_map.specs.Attributes.{lines_carried}
use Rattle.line_map.specs.Contents.{content_carried, cell_carried}
use Rattle.line_routes.specs.Trees.{following, tree_carried}
use Rattle.line_routes.specs.RouteModel.{RouteModel, IsRoute, at}
use Rattle.line_map.specs.laws.AttributeLaws.{lines_stay}
use Rattle.line_routes.specs.laws.TreeLaws.{tree_placed}
use Rattle.line_routes.specs.laws.RouteLaws.{at_is_route}
use Rattle.sheet_grid.specs.contracts.line_attr.LineAttrPartialEq.TheImpl as attribute
use Rattle.sheet_grid.specs.declared.LineAttr.{LineAttr}
use Rattle.sheet_grid.specs.Sheet.{Sheet}
use Rattle.sheet_rules.specs.WellFormed.{has_keys_inside, have_trees, have_attributes, is_row, is_column, has_font}
use Rattle.sheet_rules.specs.laws.EntryLaws.{both}
use Rattle.sheet_rules.specs.laws.InsideLaws.{lines_from_test, test_from_lines}
use Rattle.sheet_lines.specs.Followed.{sheet_followed}
use Rattle.formula_back.specs.laws.MovedNumbers.{numbers-moved}
use Rattle.sheet_actions.specs.laws.FollowedEntries.{places_follow, items_follow}
use Rattle.sheet_actions.specs.laws.FollowedLines.{values_follow}

-- two tests pass together
pub pass : (a b : Bool) → a ≡ true → b ≡ true → a && b ≡ true
pass a b p q = grind arith

-- a tree that is carried along is as deep as before
pub within_carried : (w : RouteModel) (most : ℕ) (tree : Node) → is_within most (tree_carried w tree) ≡ is_within most tree
unfolding is_within tree_carried
within_carried w most tree = ap (λ depth. nat_le depth most) (depth-moved w.to (following w) tree)

pub numbers_carried : (w : RouteModel) (tree : Node) → has_no_negative_number (tree_carried w tree) ≡ has_no_negative_number tree
unfolding tree_carried
numbers_carried w tree = numbers-moved _ w.to (following w) tree

-- and it may stand where it goes
pub tree_fits : (w : RouteModel) → IsRoute w → (tree : Node) → tree_fits_at w.from tree ≡ true → tree_fits_at w.to (tree_carried w tree) ≡ true
unfolding tree_fits_at
tree_fits w is tree fits =
    let tests = both (is_placed w.from tree && is_within 64 tree) (has_no_negative_number tree) fits in
    let shape = both (is_placed w.from tree) (is_within 64 tree) tests.0 in
    pass _ _ (pass _ _ (tree_placed w is tree) (within_carried w 64 tree ∙ shape.1)) (numbers_carried w tree ∙ tests.1)

content_fits : (w : RouteModel) → IsRoute w → (content : Content) → fits_at w.from content ≡ true → fits_at w.to (content_carried w content) ≡ true
content_fits w is = changed_fits (tree_carried w) w.from w.to (tree_fits w is)

module _ (w : RouteModel) (is : IsRoute w) where
  -- the lines that have something are lines of the sheet
  lines_follow : (b : Along) → IsAxis b → (m : FinMap int_cmp LineAttr) → list_all (λ e. is_line b.last e.0) (entries m) ≡ true → list_all (λ e. is_line b.last e.0) (entries (lines_carried b attribute.ghosts.eq w m)) ≡ true
  lines_follow b lawful m h = test_from_lines b.last (lines_carried b attribute.ghosts.eq w m) (lines_stay w is b lawful attribute.ghosts.eq m (lines_from_test b.last m h))

  module _ (sheet : Sheet) where
    -- what it has is inside
    pub inside_stay : has_keys_inside sheet ≡ true → has_keys_inside (sheet_followed w sheet) ≡ true
    unfolding has_keys_inside
    inside_stay h =
        let tests = both _ _ h in
        let others = both _ _ tests.0 in
        let places = both _ _ others.0 in
        pass _ _ (pass _ _ (pass _ _ (places_follow w is cell_carried sheet.cells places.0) (places_follow w is (λ _ link. link) sheet.links places.1)) (lines_follow rows rows_lawful sheet.rows others.1)) (lines_follow columns columns_lawful sheet.columns tests.1)

    -- its formulas may stand where they go
    pub trees_stay : have_trees sheet ≡ true → have_trees (sheet_followed w sheet) ≡ true
    unfolding have_trees
    trees_stay h = items_follow w is cell_carried (λ p cell. fits_at p cell.content) (λ p q cell fits. content_fits (at w p q) (at_is_route w is p q) cell.content fits) sheet.cells h

    -- what its rows and columns have, and the fonts of its cells, are as the rules want them
    pub attributes_stay : have_attributes sheet ≡ true → have_attributes (sheet_followed w sheet) ≡ true
    unfolding have_attributes
    attributes_stay h =
        let tests = both _ _ h in
        let lines = both _ _ tests.0 in
        pass _ _ (pass _ _ (values_follow is_row w is rows attribute.ghosts.eq sheet.rows lines.0) (values_follow is_column w is columns attribute.ghosts.eq sheet.columns lines.1))
        (items_follow w is cell_carried (λ _ cell. has_font cell.style) (λ p q cell font. font) sheet.cells tests.1)
