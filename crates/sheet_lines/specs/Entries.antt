-- What a line edit leaves at each place, and what is kept, entry by entry.
use Rattle.std.specs.Prelude.{◌≡◌, ◌&&◌, ℕ, ℤ, Bool, Option, Some, None, is_none, if◌then◌else◌}
use Rattle.std.specs.FinMap.{FinMap, get}
use Rattle.std.specs.Ordering.{int_cmp}
use Rattle.base_values.specs.declared.Position.{Position}
use Rattle.base_values.specs.Places.{is_line}
use Rattle.base_axis.specs.Along.{Along, rows, columns}
use Rattle.base_maps.specs.Carried.{if_there}
use Rattle.base_maps.specs.Tagged.{place_on}
use Rattle.line_edits.specs.declared.EditKind.{EditKind}
use Rattle.line_edits.specs.Moves.{is_brought}
use Rattle.line_map.specs.Attributes.{line_brought, line_goes_along}
use Rattle.line_map.specs.Contents.{cell_carried, cell_part}
use Rattle.line_map.specs.Maps.{entry_carried, entry_part}
use Rattle.line_routes.specs.RouteModel.{RouteModel, at, back, place_goes}
use Rattle.sheet_grid.specs.declared.LineAttr.{LineAttr}
use Rattle.sheet_grid.specs.contracts.line_attr.LineAttrPartialEq.TheImpl as attribute
use Rattle.sheet_grid.specs.Sheet.{Sheet}
use Rattle.sheet_grid.specs.Book.{Book}
use Rattle.sheet_lines.specs.declared.kept.KeptLines.{KeptLines}
use Rattle.sheet_lines.specs.Followed.{route_of_edit, sheet_followed}
use Rattle.sheet_lines.specs.Kept.{lines_of, kept_lines}
use Rattle.sheet_ids.specs.Ids.{sheet_of}

-- a sheet has at each place afterwards the cell of the place that it came from, carried along
abbrev pub CarriesCells : RouteModel → Sheet → Type 0
CarriesCells w sheet = (q : Position) → get (sheet_followed w sheet).cells q ≡ entry_carried place_goes at cell_carried w sheet.cells q

-- and the link of that place, as it was
abbrev pub CarriesLinks : RouteModel → Sheet → Type 0
CarriesLinks w sheet = (q : Position) → get (sheet_followed w sheet).links q ≡ if_there (place_goes (back w) q) (get sheet.links)

module _ {X : Type 0} (b : Along) (same : X → X → Bool) where
  -- what a line has afterwards: on the edited axis of the edited sheet one that is brought in has what it takes, and any other one what
  -- the line had that came there. Elsewhere each line has what it had
  abbrev pub line_after : RouteModel → FinMap int_cmp X → ℤ → Option X
  line_after w m n =
      if line_goes_along b w then
      (if is_brought w.moves.inserted n && is_line b.last n then if_there w.moves.inserted (line_brought b same m) else if_there (w.moves.from n) (get m))
      else get m n

-- so it is of each row and of each column of a sheet
pub record CarriesLines (w : RouteModel) (sheet : Sheet) : Type 0 where
  pub rows : (n : ℤ) → get (sheet_followed w sheet).rows n ≡ line_after rows attribute.ghosts.eq w sheet.rows n
  pub columns : (n : ℤ) → get (sheet_followed w sheet).columns n ≡ line_after columns attribute.ghosts.eq w sheet.columns n

-- what a line of the edited axis has of its own, where it goes nowhere
abbrev pub line_lost : RouteModel → Sheet → ℤ → Option LineAttr
line_lost w sheet n = if is_none (w.moves.to n) then get (lines_of w.along sheet) n else None

-- a fact of the edited sheet: of how the edit meets it, of the sheet before, and of what is kept
abbrev pub OfEdited : Along → EditKind → ℕ → Book → (RouteModel → Sheet → KeptLines → Type 0) → Type 0
OfEdited a e id book Holds = (sheet : Sheet) → sheet_of book id ≡ Some sheet → Holds (route_of_edit a e id book sheet) sheet (kept_lines a e id book)

-- under the id of a sheet and a place just the tree is kept that goes somewhere from there and that the way back does not give
abbrev pub KeepsTree : Along → EditKind → ℕ → Book → ℕ → Position → Type 0
KeepsTree a e id book n p = get (kept_lines a e id book).formulas (place_on n p) ≡
    if_there (sheet_of book n) (λ sheet. entry_part place_goes at cell_part (route_of_edit a e id book sheet) sheet.cells p)
