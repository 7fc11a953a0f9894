-- A workbook taken back along a map on the lines of one of its sheets.
use Rattle.std.specs.Prelude.{◌≡◌, ℕ, true, List, map, Some, IfSome, IsTrue}
use Rattle.std.specs.declared.cmp.Ordering.{Ordering}
use Rattle.std.specs.FinMap.{FinMap, get}
use Rattle.base_axis.specs.Along.{Along}
use Rattle.base_maps.specs.Carried.{overlaid}
use Rattle.base_maps.specs.Tagged.{place_on}
use Rattle.line_edits.specs.declared.EditKind.{EditKind}
use Rattle.line_map.specs.Attributes.{LinesInside}
use Rattle.line_map.specs.Contents.{cell_carried, cell_restored}
use Rattle.line_map.specs.Maps.{lost_along, places_restored, KeysInside}
use Rattle.line_routes.specs.Merges.{MergesInside}
use Rattle.line_routes.specs.RouteModel.{RouteModel, back}
use Rattle.line_map.specs.Canonical.{AreCanonicalKept, KeptInside}
use Rattle.formula_tree.specs.declared.Node.{Node}
use Rattle.formula_tree.specs.Numbers.{has_canonical_numbers}
use Rattle.formula_tree.specs.Placed.{is_placed}
use Rattle.base_maps.specs.declared.SheetPlace.{SheetPlace}
use Rattle.base_values.specs.declared.Position.{Position}
use Rattle.sheet_grid.specs.declared.Cell.{Cell}
use Rattle.sheet_grid.specs.CanonicalCell.{CanonicalCells}
use Rattle.sheet_grid.specs.Sheet.{Sheet, with_entries, only_cells}
use Rattle.sheet_grid.specs.Book.{Book}
use Rattle.sheet_lines.specs.declared.kept.KeptLines.{KeptLines}
use Rattle.sheet_lines.specs.Followed.{book_route, route_on}
use Rattle.sheet_lines.specs.Sheets.{IsPlacedCell}
use Rattle.sheet_lines.specs.Part.{part_restored}
use Rattle.sheet_lines.specs.Parts.{parts}

-- a sheet taken back: its cells with the kept trees and the lost cells, and its other parts
abbrev pub sheet_back : RouteModel → KeptLines → Sheet → Sheet
sheet_back w kept sheet =
    with_entries sheet (part_restored parts w kept sheet (only_cells (overlaid (lost_along w.is_edited kept.cells)
    (places_restored cell_carried (λ _ cell tree. cell_restored cell tree) w (λ place. get kept.formulas (place_on sheet.id place)) sheet.cells))))

-- every sheet taken back along the way of the edited sheet
abbrev pub sheets_back : RouteModel → KeptLines → List Sheet → List Sheet
sheets_back w kept sheets = map (λ sheet. sheet_back (route_on w sheet) kept sheet) sheets

-- a workbook taken back along the way of the edited sheet: every sheet is, and all else stays
abbrev pub book_restored : RouteModel → Book → KeptLines → Book
book_restored w book kept = record book { worksheets = sheets_back w kept book.worksheets }

-- so it is along an edit of the lines of the sheet of an id
abbrev pub book_back : Along → EditKind → ℕ → KeptLines → Book → Book
book_back a e id kept book = book_restored (book_route a e id book) book kept

-- the keys and the merges of what is kept are inside the sheet
pub record KeptLinesInside (a : Along) (kept : KeptLines) : Type 0 where
  pub cells : KeysInside kept.cells
  pub links : KeysInside kept.links
  pub lines : LinesInside a kept.lines
  pub merges : IfSome kept.merges MergesInside

-- the trees of what is kept may stand where they stood, and the conditional rules are inside the sheet
pub record ArePlacedLines (kept : KeptLines) : Type 0 where
  pub cells : (place : Position) (cell : Cell) → get kept.cells place ≡ Some cell → IsPlacedCell place cell
  pub formulas : (key : SheetPlace) (tree : Node) → get kept.formulas key ≡ Some tree → is_placed key.place tree ≡ true
  pub formattings : KeptInside kept.formattings

-- every number of trees is canonical
abbrev pub AreCanonicalFormulas : {K : Type 0} {R : K → K → Ordering} → FinMap R Node → Type 0
AreCanonicalFormulas formulas = (place : _) → IfSome (get formulas place) (λ tree. IsTrue (has_canonical_numbers tree))

-- so is each number of what is kept
pub record AreCanonicalLines (kept : KeptLines) : Type 0 where
  pub cells : CanonicalCells kept.cells
  pub formulas : AreCanonicalFormulas kept.formulas
  pub formattings : AreCanonicalKept kept.formattings
