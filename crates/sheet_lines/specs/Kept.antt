-- What taking the lines back does not give of a workbook.
use Rattle.std.specs.Prelude.{ℕ, ◌==◌, true, false, List, Option, Some, None, if◌then◌else◌}
use Rattle.std.specs.List.{find}
use Rattle.std.specs.Option.{option_map}
use Rattle.std.specs.Ordering.{int_cmp}
use Rattle.std.specs.FinMap.{FinMap, empty}
use Rattle.base_values.specs.Places.{position_cmp}
use Rattle.base_axis.specs.Along.{Along}
use Rattle.base_maps.specs.SheetPlaces.{sheet_place_cmp}
use Rattle.base_maps.specs.Tagged.{all_under}
use Rattle.formula_tree.specs.declared.Node.{Node}
use Rattle.line_edits.specs.declared.EditKind.{EditKind}
use Rattle.line_map.specs.Contents.{cell_part}
use Rattle.line_map.specs.Maps.{places_parts}
use Rattle.sheet_grid.specs.declared.LineAttr.{LineAttr}
use Rattle.sheet_grid.specs.Sheet.{Sheet}
use Rattle.sheet_grid.specs.Book.{Book}
use Rattle.sheet_lines.specs.declared.kept.KeptLines.{KeptLines}
use Rattle.line_routes.specs.RouteModel.{RouteModel}
use Rattle.sheet_lines.specs.Followed.{book_route, route_on}
use Rattle.sheet_ids.specs.Ids.{sheet_of}
use Rattle.sheet_lines.specs.Part.{part_kept}
use Rattle.sheet_lines.specs.Parts.{parts, lost_of, only_lost}

-- what the lines of an axis have of their own on a sheet
abbrev pub lines_of : Along → Sheet → FinMap int_cmp LineAttr
lines_of a sheet = if a.of true false then sheet.rows else sheet.columns

-- what is kept of the edited sheet along its way, but for trees: its lost cells, and what is kept of its other parts
abbrev pub kept_of : RouteModel → Sheet → KeptLines
kept_of w sheet = part_kept parts w sheet (only_lost (lost_of w sheet.cells))

-- what is kept along the way of the edited sheet
module _ (w : RouteModel) where
  -- of the edited sheet, if there is one
  abbrev pub edited_kept : Option Sheet → KeptLines
  edited_kept None = only_lost empty
  edited_kept (Some sheet) = kept_of (route_on w sheet) sheet

  -- of the first sheet with its id, if there is one
  abbrev pub first_kept : List Sheet → Option KeptLines
  first_kept sheets = option_map (λ sheet. kept_of (route_on w sheet) sheet) (find (λ sheet. sheet.id == w.sheet) sheets)

  -- the trees kept of a sheet's formulas that go somewhere, under their places before
  abbrev pub trees_kept : Sheet → FinMap position_cmp Node
  trees_kept sheet = places_parts cell_part (route_on w sheet) sheet.cells

  -- those of each sheet, under its id
  abbrev pub formulas_kept : List Sheet → FinMap sheet_place_cmp Node
  formulas_kept sheets = all_under (λ sheet. sheet.id) trees_kept sheets

  -- what the way back does not give of a workbook
  abbrev pub lines_kept : Book → KeptLines
  lines_kept book = record (edited_kept (sheet_of book w.sheet)) { formulas = formulas_kept book.worksheets }

-- what is kept of a workbook at an edit of the lines of the sheet of an id
abbrev pub kept_lines : Along → EditKind → ℕ → Book → KeptLines
kept_lines a e id book = lines_kept (book_route a e id book) book
