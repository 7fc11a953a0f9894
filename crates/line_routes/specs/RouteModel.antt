-- How a map on the lines of one sheet meets a sheet of the workbook, and what stands there.
use Rattle.std.specs.Prelude.{ℕ, ◌==◌, Bool, true, false, List, Option, Some, None, if◌then◌else◌}
use Rattle.base_values.specs.declared.Position.{Position}
use Rattle.base_axis.specs.Along.{Along, IsAxis}
use Rattle.base_axis.specs.declared.axis.Axis as axis
use Rattle.line_edits.specs.declared.LineMap as line_map
use Rattle.line_routes.specs.declared.route.Route.{Route}
use Rattle.line_edits.specs.Moves.{LineMoves, IsOneToOne, turned, place_image}

-- the axis and the map, the id and the name of the edited sheet, whether what is carried along stands on it, and its place before and
-- afterwards
pub record RouteModel : Type 0 where
  pub along : Along
  pub moves : LineMoves
  pub sheet : ℕ
  pub edited : List ℕ
  pub is_edited : Bool
  pub from : Position
  pub to : Position

-- the way back
abbrev pub back : RouteModel → RouteModel
back w = record w { moves = turned w.moves; from = w.to; to = w.from }

-- the same for what goes from a place to a place
abbrev pub at : RouteModel → Position → Position → RouteModel
at w from to = record w { from = from; to = to }

-- the same for what stands on the sheet of an id
abbrev pub on : RouteModel → ℕ → RouteModel
on w id = record w { is_edited = id == w.sheet }

-- it is one: the map is one to one along an axis
pub record IsRoute (w : RouteModel) : Type 0 where
  pub axis : IsAxis w.along
  pub one_to_one : IsOneToOne w.along.last w.moves

-- where a place of the sheet goes: along the map on the edited sheet. On another one it stays
unfoldable pub place_goes : RouteModel → Position → Option Position
place_goes w place = if w.is_edited then place_image w.along w.moves.to place else Some place

-- whether the lines of an axis are those of another one
abbrev pub is_along : Along → Along → Bool
is_along a b = a.of (b.of true false) (b.of false true)

-- the model of a route
abbrev pub route_model : {A M : Type 0} {a : axis.Ghosts A} {m : line_map.Ghosts M A} → Route A M a m → RouteModel
route_model {a = a} {m = m} r = record {
  along = a.along;
  moves = record (m.moves r.map.now) { inserted = if r.brings then (m.moves r.map.now).inserted else None };
  sheet = r.sheet;
  edited = r.edited.now;
  is_edited = r.is_edited;
  from = r.from;
  to = r.to;
}
