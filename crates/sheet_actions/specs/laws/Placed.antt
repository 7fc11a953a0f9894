-- The corners of the formulas of a well-formed workbook are inside the sheet, so do its merges, and its conditional rules are inside.
use Rattle.std.proofs.Common.{◌≡◌, true, List, [], ◌∷◌, Option, Some, None, ap, sym, ◌∙◌}
use Rattle.std.specs.Prelude.{IfSome}
use Rattle.std.specs.List.{list_all, AllByRecursion}
use Rattle.std.specs.Option.{option_map_or}
use Rattle.base_values.specs.declared.Position.{Position}
use Rattle.std.proofs.lemmas.List.Elements.{All-from_recursion}
use Rattle.base_axis.specs.declared.MergedCell.{MergedCell}
use Rattle.base_axis.specs.Rectangles.{IsInside, is_inside, has_many}
use Rattle.base_axis.specs.laws.RectangleLaws.{inside_found}
use Rattle.formula_tree.specs.declared.Node.{Node}
use Rattle.formula_tree.specs.Placed.{is_placed}
use Rattle.cell_content.specs.Fitting.{tree_fits_at}
use Rattle.cell_content.specs.Lens.{tree_of}
use Rattle.sheet_grid.specs.laws.FittingCells.{entry_fits_at}
use Rattle.sheet_grid.specs.Sheet.{Sheet}
use Rattle.sheet_grid.specs.Book.{Book}
use Rattle.sheet_rules.specs.WellFormed.{have_trees, have_rule_trees, have_rule_parts, IsWellFormed}
use Rattle.sheet_rules.specs.Occupied.{have_merges, is_merge}
use Rattle.sheet_rules.specs.laws.EntryLaws.{both}
use Rattle.sheet_rules.specs.laws.FormattingLaws.{rules_stand_inside}
use Rattle.sheet_rules.specs.laws.OccupiedLaws.{keeps_merges}
use Rattle.sheet_rules.specs.laws.WellFormedLaws.{well_formed_parts, cells_fit_from_trees}
use Rattle.sheet_lines.specs.Sheets.{IsPlacedSheet, IsPlacedBook}

tree_placed : (place : Position) (o : Option Node) → option_map_or (tree_fits_at place) o true ≡ true → IfSome o (λ tree. is_placed place tree ≡ true)
unfolding tree_fits_at
tree_placed place None fits = tt
tree_placed place (Some tree) fits = (both _ _ (both _ _ fits).0).0

-- a merge of two cells or more that is inside is inside
merges_inside : (merges : List MergedCell) → list_all is_merge merges ≡ true → AllByRecursion IsInside merges
merges_inside [] h = tt
merges_inside (merge ∷ merges) h =
    let parts = both _ _ h in
    (inside_found merge (both (has_many merge) (is_inside merge) parts.0).1, merges_inside merges parts.1)

sheet_placed : (sheet : Sheet) → have_trees sheet ≡ true → have_merges sheet ≡ true → have_rule_parts sheet ≡ true → have_rule_trees sheet ≡ true → IsPlacedSheet sheet
sheet_placed sheet trees merges parts rule_trees = record {
  cells = λ place cell held. tree_placed place (tree_of cell.content) (sym (ap (entry_fits_at place) held) ∙ cells_fit_from_trees sheet trees place);
  merges = All-from_recursion IsInside sheet.merges (merges_inside sheet.merges (keeps_merges sheet merges).merges);
  formattings = rules_stand_inside sheet rule_trees parts;
}

each_placed : (sheets : List Sheet) → list_all have_trees sheets ≡ true → list_all have_merges sheets ≡ true → list_all have_rule_parts sheets ≡ true → list_all have_rule_trees sheets ≡ true
    → AllByRecursion IsPlacedSheet sheets
each_placed [] trees merges parts rule_trees = tt
each_placed (sheet ∷ sheets) trees merges parts rule_trees =
    let x = both _ _ trees in
    let y = both _ _ merges in
    let p = both _ _ parts in
    let r = both _ _ rule_trees in
    (sheet_placed sheet x.0 y.0 p.0 r.0, each_placed sheets x.1 y.1 p.1 r.1)

pub placed_from_well_formed : (book : Book) → IsWellFormed book → IsPlacedBook book
placed_from_well_formed book h = let rules = well_formed_parts book h in each_placed book.worksheets rules.trees rules.merges rules.rule_parts rules.rule_trees
