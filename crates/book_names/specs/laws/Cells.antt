-- Cells whose trees are renamed: they come back with what was kept, and fit as they did.
use Rattle.std.proofs.Common.{◌≡◌, ℕ, true, List, Option, Some, None, refl, ap, sym, ◌∙◌}
use Rattle.std.specs.Prelude.{◌&&◌, is_some, nat_le}
use Rattle.std.specs.Option.{option_map, option_map_or}
use Rattle.std.specs.FinMap.{FinMap, get, same_map}
use Rattle.base_values.specs.declared.Position.{Position}
use Rattle.base_values.specs.Places.{position_cmp}
use Rattle.base_values.specs.laws.Places.{position_total, exact_positions}
use Rattle.base_maps.specs.Carried.{if_there}
use Rattle.formula_tree.specs.declared.Node.{Node}
use Rattle.formula_tree.specs.declared.numbers.NumberRule.TheVariants.{NotNegative}
use Rattle.formula_tree.specs.Depth.{is_within}
use Rattle.formula_names.specs.declared.Reach.{Reach}
use Rattle.formula_names.specs.Renamed.{naming, tree_renamed, tree_kept}
use Rattle.formula_names.specs.laws.NamedLaws.{depth-named, numbers-named, placed-named}
use Rattle.formula_names.specs.laws.RenamedLaws.{nothing_kept, something_kept}
use Rattle.cell_content.specs.declared.Content.{Content}
use Rattle.cell_content.specs.Fitting.{fits_at, tree_fits_at}
use Rattle.cell_content.specs.Lens.{content_changed, tree_of}
use Rattle.cell_content.specs.laws.ChangedLaws.{tree_of-changed, changed_back, put_back}
use Rattle.sheet_grid.specs.declared.Cell.{Cell}
use Rattle.book_names.specs.Renaming.{content_renamed, cell_renamed, cells_renamed, cell_kept, cell_back, cells_back}
use Rattle.book_names.specs.laws.Entries.{get_changed}

-- ---- a content

-- a formula stays one when its tree is changed
pub still_formula : (change : Node → Node) (content : Content) (tree : Node) → tree_of content ≡ Some tree
    → is_some (tree_of (content_changed change content)) ≡ true
still_formula change content tree is = ap is_some (tree_of-changed change content ∙ ap (option_map change) is)

module _ (reach : Reach) (old new : List ℕ) where
  -- a tree fits where it did
  pub tree_fits : (place : Position) (tree : Node) → tree_fits_at place (tree_renamed reach old new tree) ≡ tree_fits_at place tree
  unfolding tree_fits_at is_within
  tree_fits place tree = λ i.
      placed-named (naming reach old new) place tree i && nat_le (depth-named (naming reach old new) tree i) 64 && numbers-named (naming reach old new) NotNegative tree i

  tree_fits_still : (place : Position) (o : Option Node)
      → option_map_or (tree_fits_at place) (option_map (tree_renamed reach old new) o) true ≡ option_map_or (tree_fits_at place) o true
  tree_fits_still place None = refl
  tree_fits_still place (Some tree) = tree_fits place tree

  pub content_fits : (place : Position) (content : Content) → fits_at place (content_renamed reach old new content) ≡ fits_at place content
  content_fits place content =
      ap (λ o. option_map_or (tree_fits_at place) o true) (tree_of-changed (tree_renamed reach old new) content) ∙ tree_fits_still place (tree_of content)

-- ---- there and back

module _ (there back : Reach) (old new : List ℕ) where
  -- what is kept of a tree is the tree
  pub kept_is : (o : Option Node) (tree : Node) → if_there o (tree_kept there back old new) ≡ Some tree → o ≡ Some tree
  kept_is None tree h = absurd (cc)
  kept_is (Some own) tree h = ap Some (sym (something_kept there back old new own tree h).itself)

  -- a renamed cell settles with what is kept of it to what it was
  settles : (cell : Cell) (o : Option Node) → cell_kept there back old new cell ≡ o → cell_back back old new o (cell_renamed there old new cell) ≡ cell
  settles cell None h = λ i. record cell {
    content = changed_back (tree_renamed there old new) (tree_renamed back new old) cell.content
        (λ tree is. nothing_kept there back old new tree (ap (λ o. if_there o (tree_kept there back old new)) (sym is) ∙ h)) i;
  }
  settles cell (Some part) h = λ i. record cell { content = put_back (tree_renamed there old new) cell.content part (kept_is (tree_of cell.content) part h) i }

  module _ (cells : FinMap position_cmp Cell) (kept : Position → Option Node) where
    settled_at : (p : Position) (o : Option Cell) → ((cell : Cell) → o ≡ Some cell → kept p ≡ cell_kept there back old new cell)
        → if_there (if_there o (λ cell. Some (cell_renamed there old new cell))) (λ cell. Some (cell_back back old new (kept p) cell)) ≡ o
    settled_at p None is = refl
    settled_at p (Some cell) is = ap Some (ap (λ k. cell_back back old new k (cell_renamed there old new cell)) (is cell refl) ∙ settles cell (cell_kept there back old new cell) refl)

    -- the cells of a sheet come back with what is kept of them
    pub cells_regained : ((p : Position) (cell : Cell) → get cells p ≡ Some cell → kept p ≡ cell_kept there back old new cell) → cells_back back old new kept (cells_renamed there old new cells) ≡ cells
    cells_regained is = same_map position_total exact_positions (cells_back back old new kept (cells_renamed there old new cells)) cells (λ p.
        get_changed position_cmp (λ place cell. cell_back back old new (kept place) cell) position_total exact_positions (cells_renamed there old new cells) p
        ∙ ap (λ o. if_there o (λ cell. Some (cell_back back old new (kept p) cell))) (get_changed position_cmp (λ _ cell. cell_renamed there old new cell) position_total exact_positions cells p)
        ∙ settled_at p (get cells p) (is p))
