-- The numbers of renamed trees, of kept ones and of those that come back are canonical.
use Rattle.std.proofs.Common.{ℕ, List, [], ◌∷◌, map, Option, Some, None, sym, subst}
use Rattle.std.specs.Prelude.{IsTrue, IfSome}
use Rattle.std.specs.List.{AllByRecursion}
use Rattle.std.specs.FinMap.{FinMap}
use Rattle.std.proofs.lemmas.List.Elements.{All-from_recursion, recursion_from_All}
use Rattle.base_values.specs.declared.Position.{Position}
use Rattle.base_values.specs.Places.{position_cmp}
use Rattle.base_values.specs.laws.Places.{position_total, exact_positions}
use Rattle.base_maps.specs.Carried.{if_there}
use Rattle.base_maps.specs.laws.ByIndexLaws.{restored_are}
use Rattle.base_maps.specs.laws.Each.{each_found, each_gathered}
use Rattle.base_maps.specs.laws.Inverses.{own_inverse}
use Rattle.formula_tree.specs.declared.Node.{Node}
use Rattle.formula_tree.specs.declared.numbers.NumberRule.TheVariants.{Canonical}
use Rattle.formula_names.specs.declared.Reach.{Reach}
use Rattle.formula_names.specs.declared.Reach.TheVariants.{Sheets}
use Rattle.formula_names.specs.Renamed.{naming, tree_renamed, tree_kept}
use Rattle.formula_names.specs.laws.NamedLaws.{numbers-named}
use Rattle.cell_content.specs.Lens.{tree_of}
use Rattle.cell_content.specs.laws.ChangedLaws.{changed-kept}
use Rattle.cell_content.specs.laws.LensLaws.{tree_of-kept, with_tree-kept}
use Rattle.defined_names.specs.declared.DefinedName.{DefinedName}
use Rattle.defined_names.specs.Names.{IsCanonicalName, AreCanonicalNames}
use Rattle.sheet_grid.specs.declared.Cell.{Cell}
use Rattle.sheet_grid.specs.CanonicalCell.{IsCanonicalCell, CanonicalCells}
use Rattle.sheet_lines.specs.Back.{AreCanonicalFormulas}
use Rattle.sheet_lines.specs.laws.Stays.{HasCanonicalNumbers}
use Rattle.book_names.specs.laws.Names.{part_is, name_parts_are}
use Rattle.book_names.specs.Renaming.{cell_renamed, cells_renamed, cell_kept, cells_kept, cell_back, cells_back}
use Rattle.book_names.specs.Renaming.{defined_renamed, names_kept, with_kept_tree, names_back}

module _ (reach : Reach) (old new : List ℕ) where
  pub tree_numbers : (tree : Node) → HasCanonicalNumbers tree → HasCanonicalNumbers (tree_renamed reach old new tree)
  tree_numbers tree h = subst IsTrue (sym (numbers-named (naming reach old new) Canonical tree)) h

  -- a renamed cell has canonical numbers
  pub cell_numbers : (cell : Cell) → IsCanonicalCell cell → IsCanonicalCell (cell_renamed reach old new cell)
  cell_numbers cell h = changed-kept (tree_renamed reach old new) cell.content tree_numbers h

  -- so have the cells of a sheet
  pub cells_numbers : (cells : FinMap position_cmp Cell) → CanonicalCells cells → CanonicalCells (cells_renamed reach old new cells)
  cells_numbers cells h = each_gathered position_cmp position_total exact_positions (λ _. IsCanonicalCell) Some Some own_inverse (λ _ _ cell. Some (cell_renamed reach old new cell)) cells
      (λ p q cell there held. cell_numbers cell (each_found position_cmp (λ _. IsCanonicalCell) cells h p cell held))

module _ (there back : Reach) (old new : List ℕ) where
  cell_part : (o : Option Node) → IfSome o HasCanonicalNumbers → IfSome (if_there o (tree_kept there back old new)) HasCanonicalNumbers
  cell_part None h = tt
  cell_part (Some tree) h = part_is HasCanonicalNumbers there back old new tree h

  -- what is kept of the cells of a sheet has canonical numbers
  pub cells_kept_numbers : (cells : FinMap position_cmp Cell) → CanonicalCells cells → AreCanonicalFormulas (cells_kept there back old new cells)
  cells_kept_numbers cells h = each_gathered position_cmp position_total exact_positions (λ _. HasCanonicalNumbers) Some Some own_inverse (λ _ _ cell. cell_kept there back old new cell) cells
      (λ p q cell here held. cell_part (tree_of cell.content) (tree_of-kept cell.content (each_found position_cmp (λ _. IsCanonicalCell) cells h p cell held)))

module _ (old new : List ℕ) where
  -- and the defined names
  names_by : (names : List DefinedName) → AllByRecursion IsCanonicalName names → AllByRecursion IsCanonicalName (map (defined_renamed Sheets old new) names)
  names_by [] all = tt
  names_by (name ∷ names) all = (tree_numbers Sheets old new name.formula all.0, names_by names all.1)

  pub names_numbers : (names : List DefinedName) → AreCanonicalNames names → AreCanonicalNames (map (defined_renamed Sheets old new) names)
  names_numbers names all = All-from_recursion IsCanonicalName (map (defined_renamed Sheets old new) names) (names_by names (recursion_from_All IsCanonicalName names all))

  -- and what is kept of them
  pub names_kept_numbers : (names : List DefinedName) → AreCanonicalNames names → AreCanonicalFormulas (names_kept old new names)
  names_kept_numbers names all = name_parts_are HasCanonicalNumbers old new names (recursion_from_All IsCanonicalName names all)

module _ (reach : Reach) (old new : List ℕ) where
  -- a cell that comes back has canonical numbers
  pub back_numbers : (o : Option Node) (cell : Cell) → IfSome o HasCanonicalNumbers → IsCanonicalCell cell → IsCanonicalCell (cell_back reach old new o cell)
  back_numbers None cell kept h = cell_numbers reach new old cell h
  back_numbers (Some tree) cell kept h = with_tree-kept cell.content tree h kept

  pub cells_back_numbers : (kept : Position → Option Node) (cells : FinMap position_cmp Cell) → ((p : Position) → IfSome (kept p) HasCanonicalNumbers) → CanonicalCells cells → CanonicalCells (cells_back reach old new kept cells)
  cells_back_numbers kept cells parts h = each_gathered position_cmp position_total exact_positions (λ _. IsCanonicalCell) Some Some own_inverse (λ _ place cell. Some (cell_back reach old new (kept place) cell)) cells
      (λ p q cell there held. back_numbers (kept q) cell (parts q) (each_found position_cmp (λ _. IsCanonicalCell) cells h p cell held))

  -- so have the defined names
  pub names_back_numbers : (kept : ℕ → Option Node) → ((n : ℕ) → IfSome (kept n) HasCanonicalNumbers) → (names : List DefinedName) → AreCanonicalNames names → AreCanonicalNames (names_back reach old new kept names)
  names_back_numbers kept parts names all =
      All-from_recursion IsCanonicalName (names_back reach old new kept names)
      (restored_are (defined_renamed reach new old) with_kept_tree IsCanonicalName IsCanonicalName HasCanonicalNumbers (λ name h. tree_numbers reach new old name.formula h) (λ _ _ h. h)
      kept parts names (recursion_from_All IsCanonicalName names all))
