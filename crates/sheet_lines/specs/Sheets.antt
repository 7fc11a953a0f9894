-- Workbooks whose formulas, merges and conditional rules are inside their sheets.
use Rattle.std.specs.Prelude.{◌≡◌, Some, true, IfSome}
use Rattle.std.specs.List.{AllByRecursion}
use Rattle.std.specs.FinMap.{get}
use Rattle.base_values.specs.declared.Position.{Position}
use Rattle.formula_tree.specs.Placed.{is_placed}
use Rattle.cell_content.specs.Lens.{tree_of}
use Rattle.line_routes.specs.Merges.{MergesInside}
use Rattle.line_map.specs.Rules.{RulesInside}
use Rattle.sheet_grid.specs.declared.Cell.{Cell}
use Rattle.sheet_grid.specs.Sheet.{Sheet}
use Rattle.sheet_grid.specs.Book.{Book}

-- the corners of each formula are inside the sheet, and those of each range are in order
abbrev pub IsPlacedCell : Position → Cell → Type 0
IsPlacedCell place cell = IfSome (tree_of cell.content) (λ tree. is_placed place tree ≡ true)

-- so it is for each cell of a sheet, its merges are inside, and its conditional rules are inside
pub record IsPlacedSheet (sheet : Sheet) : Type 0 where
  pub cells : (place : Position) (cell : Cell) → get sheet.cells place ≡ Some cell → IsPlacedCell place cell
  pub merges : MergesInside sheet.merges
  pub formattings : RulesInside sheet.formattings

abbrev pub IsPlacedBook : Book → Type 0
IsPlacedBook book = AllByRecursion IsPlacedSheet book.worksheets
