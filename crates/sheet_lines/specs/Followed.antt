-- A workbook along a map on the lines of one of its sheets.
use Rattle.std.specs.Prelude.{ℕ, List, map, pos, true}
use Rattle.base_axis.specs.Along.{Along}
use Rattle.line_edits.specs.declared.EditKind.{EditKind}
use Rattle.line_map.specs.Contents.{cell_carried}
use Rattle.line_map.specs.Maps.{places_carried}
use Rattle.line_edits.specs.Moves.{LineMoves, edit_moves}
use Rattle.line_routes.specs.RouteModel.{RouteModel, on}
use Rattle.sheet_grid.specs.Sheet.{Sheet, with_entries, only_cells}
use Rattle.sheet_grid.specs.Book.{Book}
use Rattle.sheet_ids.specs.Ids.{sheet_of, name_of}
use Rattle.sheet_lines.specs.Part.{part_carried}
use Rattle.sheet_lines.specs.Parts.{parts}

-- how a map on the lines of the sheet of an id, which has that name, meets that sheet
abbrev pub edited_route : Along → LineMoves → ℕ → List ℕ → RouteModel
edited_route a m id edited = record {
  along = a;
  moves = m;
  sheet = id;
  edited = edited;
  is_edited = true;
  from = record { row = pos 1; column = pos 1 };
  to = record { row = pos 1; column = pos 1 };
}

-- how what meets the edited sheet so meets another one
abbrev pub route_on : RouteModel → Sheet → RouteModel
route_on w sheet = on w sheet.id

-- how a map on the lines of the sheet of an id, which has that name, meets a sheet
abbrev pub route_of : Along → LineMoves → ℕ → List ℕ → Sheet → RouteModel
route_of a m id edited sheet = route_on (edited_route a m id edited) sheet

-- how an edit of the lines of the sheet of an id meets that sheet of a workbook
abbrev pub book_route : Along → EditKind → ℕ → Book → RouteModel
book_route a e id book = edited_route a (edit_moves a.last e) id (name_of (sheet_of book id))

-- and a sheet of it
abbrev pub route_of_edit : Along → EditKind → ℕ → Book → Sheet → RouteModel
route_of_edit a e id book sheet = route_on (book_route a e id book) sheet

-- a sheet whose cells and other parts are carried along
abbrev pub sheet_followed : RouteModel → Sheet → Sheet
sheet_followed w sheet = with_entries sheet (part_carried parts w sheet (only_cells (places_carried cell_carried w sheet.cells)))

-- every sheet follows along the way of the edited sheet
abbrev pub sheets_followed : RouteModel → List Sheet → List Sheet
sheets_followed w sheets = map (λ sheet. sheet_followed (route_on w sheet) sheet) sheets

-- a workbook along the way of the edited sheet: every sheet follows, and all else stays
abbrev pub book_carried : RouteModel → Book → Book
book_carried w book = record book { worksheets = sheets_followed w book.worksheets }

-- so it follows an edit of the lines of the sheet of an id
abbrev pub book_followed : Along → EditKind → ℕ → Book → Book
book_followed a e id book = book_carried (book_route a e id book) book
