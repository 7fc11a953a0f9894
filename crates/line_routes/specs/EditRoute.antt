-- How an edit meets what stands on the edited sheet by itself.
use Rattle.std.specs.Prelude.{pos, true, []}
use Rattle.base_axis.specs.Along.{Along}
use Rattle.line_edits.specs.declared.EditKind.{EditKind}
use Rattle.line_edits.specs.Moves.{edit_moves}
use Rattle.line_routes.specs.RouteModel.{RouteModel}

-- the route of an edit: it names no sheet, and begins and ends at the first place
abbrev pub edit_route : Along → EditKind → RouteModel
edit_route a e = record {
  along = a;
  moves = edit_moves a.last e;
  sheet = 0;
  edited = [];
  is_edited = true;
  from = record { row = pos 1; column = pos 1 };
  to = record { row = pos 1; column = pos 1 };
}
