-- Which formulas of a workbook an edit of lines keeps, and what the ranges of those that survive denote.
use Rattle.std.specs.Prelude.{◌≡◌, ℕ, true, List, Option, Some, None, if◌then◌else◌}
use Rattle.std.specs.FinMap.{get}
use Rattle.base_values.specs.declared.Position.{Position}
use Rattle.base_maps.specs.Carried.{if_there}
use Rattle.base_maps.specs.Tagged.{place_on}
use Rattle.formula_tree.specs.declared.Corner.{Corner}
use Rattle.formula_tree.specs.declared.Node.{Node, fold-Node}
use Rattle.formula_tree.specs.Moved.{move_layer}
use Rattle.cell_content.specs.Lens.{tree_of}
use Rattle.sheet_grid.specs.Book.{Book}
use Rattle.sheet_ids.specs.Ids.{sheet_of}
use Rattle.line_routes.specs.MustKeep.{must_keep}
use Rattle.line_laws.specs.Ranges.{Survives, IsImage, IsLeastRange, range_carried}
use Rattle.line_routes.specs.Trees.{following, is_exposed}
use Rattle.line_routes.specs.RouteModel.{RouteModel, at, place_goes}
use Rattle.sheet_lines.specs.Followed.{route_on}
use Rattle.sheet_lines.specs.Kept.{lines_kept}

-- the formula at a place of the sheet of an id, if its cell survives: the route on which it goes, and its tree
abbrev pub surviving : RouteModel → Book → ℕ → Position → Option (RouteModel × Node)
surviving w book n p = if_there (sheet_of book n) (λ sheet. if_there (get sheet.cells p) (λ cell. if_there (tree_of cell.content) (λ tree.
    if_there (place_goes (route_on w sheet) p) (λ q. Some (at (route_on w sheet) p q, tree)))))

-- such a formula is kept exactly where it has to be: one of its exposed corners has no image, or one of its ranges becomes whole
abbrev pub KeepsExactly : RouteModel → Book → ℕ → Position → Type 0
KeepsExactly w book n p = get (lines_kept w book).formulas (place_on n p) ≡ if_there (surviving w book n p) (λ s. if must_keep s.0 s.1 then Some s.1 else None)

-- the formula at a place of the sheet of an id
abbrev pub tree_at_place : Book → ℕ → Position → Option Node
tree_at_place book n p = if_there (sheet_of book n) (λ sheet. if_there (get sheet.cells p) (λ cell. tree_of cell.content))

-- where a surviving formula goes, the later workbook has it, carried along node by node; and each of its ranges that is on the edited
-- sheet and isn't whole along the axis, and whose corners survive, denotes the least rectangle that holds the images of its surviving places
pub record RangesDenote (w : RouteModel) (tree : Node) (later : Option Node) : Type 0 where
  pub there : later ≡ Some (fold-Node Node (move_layer w.to (following w)) tree)
  pub ranges : (sheet : Option (List ℕ)) (first second : Corner) → is_exposed w sheet first second ≡ true → Survives w first → Survives w second →
      IsLeastRange w.to sheet (range_carried w sheet first second) (IsImage w first second)
