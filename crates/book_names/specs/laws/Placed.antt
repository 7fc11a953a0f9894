-- Kept trees that stand where they stood are placed, and kept conditional rules are inside their sheets.
use Rattle.std.proofs.Common.{◌≡◌, ℕ, true, Option, Some, None}
use Rattle.std.specs.FinMap.{FinMap, get}
use Rattle.base_values.specs.declared.Position.{Position}
use Rattle.base_maps.specs.declared.SheetPlace.{SheetPlace}
use Rattle.base_maps.specs.SheetPlaces.{sheet_place_cmp}
use Rattle.base_maps.specs.laws.SheetPlaces.{sheet_place_total, exact_sheet_places}
use Rattle.formula_tree.specs.declared.Node.{Node}
use Rattle.formula_tree.specs.Placed.{is_placed}
use Rattle.cell_content.specs.Fitting.{tree_fits_at}
use Rattle.format_rules.specs.declared.ConditionalFormatting.{ConditionalFormatting}
use Rattle.format_rules.specs.Fitting.{RuleInside}
use Rattle.format_rules.specs.laws.FittingLaws.{rule_inside}
use Rattle.base_maps.specs.declared.SheetIndex.{SheetIndex}
use Rattle.base_maps.specs.SheetIndexes.{sheet_index_cmp}
use Rattle.base_maps.specs.laws.SheetIndexes.{sheet_index_total, exact_sheet_indexes}
use Rattle.sheet_grid.specs.Sheet.{Sheet}
use Rattle.sheet_grid.specs.Book.{Book}
use Rattle.sheet_rules.specs.laws.EntryLaws.{both}
use Rattle.sheet_ids.specs.Ids.{sheet_of}
use Rattle.book_sheets.specs.laws.Placed.{placed_tree}
use Rattle.book_names.specs.declared.kept_trees.KeptTrees.{KeptTrees}
use Rattle.book_names.specs.Renaming.{ArePlacedTrees}
use Rattle.book_names.specs.RenameDiffs.{own_place, tree_stands, formulas_stand, formatting_stands, formattings_stand, may_stand}
use Rattle.book_names.specs.laws.Entries.{entry_holds}

module _ (seek : Sheet → Position → Option Position) where
  tree_fits : (o : Option Sheet) (place : Position) (tree : Node) → tree_stands seek o place tree ≡ true → tree_fits_at place tree ≡ true
  unfolding tree_stands
  tree_fits None place tree stands = absurd (cc)
  tree_fits (Some sheet) place tree stands = (both _ _ stands).0

  -- wherever the formulas are sought
  pub formulas_placed : (formulas : FinMap sheet_place_cmp Node) (book : Book) → formulas_stand seek formulas book ≡ true
      → (key : SheetPlace) (tree : Node) → get formulas key ≡ Some tree → is_placed key.place tree ≡ true
  unfolding formulas_stand
  formulas_placed formulas book stand key tree found =
      placed_tree key.place tree (tree_fits (sheet_of book key.sheet) key.place tree
      (entry_holds sheet_place_cmp sheet_place_total exact_sheet_places
      (λ (entry : SheetPlace × Node). tree_stands seek (sheet_of book entry.0.sheet) entry.0.place entry.1) formulas stand key tree found))

inside_at : (o : Option Sheet) (index : ℕ) (formatting : ConditionalFormatting) → formatting_stands o index formatting ≡ true → RuleInside formatting
unfolding formatting_stands
inside_at None index formatting stands = absurd (cc)
inside_at (Some sheet) index formatting stands = let outer = both _ _ stands in rule_inside formatting (both _ _ outer.0).1 outer.1

inside_where_stands : (kept : KeptTrees) (book : Book) → formattings_stand kept.formattings book ≡ true → (key : SheetIndex) (formatting : ConditionalFormatting)
    → get kept.formattings key ≡ Some formatting → RuleInside formatting
unfolding formattings_stand
inside_where_stands kept book stand key formatting found =
    inside_at (sheet_of book key.sheet) key.index formatting
    (entry_holds sheet_index_cmp sheet_index_total exact_sheet_indexes (λ (entry : SheetIndex × ConditionalFormatting). formatting_stands (sheet_of book entry.0.sheet) entry.0.index entry.1)
    kept.formattings stand key formatting found)

pub placed_where_may : (kept : KeptTrees) (book : Book) → may_stand kept book ≡ true → ArePlacedTrees kept
placed_where_may kept book may =
    let outer = both _ _ may in
    record { formulas = formulas_placed own_place kept.formulas book (both _ _ outer.0).0; formattings = inside_where_stands kept book outer.1 }
