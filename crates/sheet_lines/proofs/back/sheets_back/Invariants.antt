use Rattle.std.proofs.Common.{◌≡◌, take}
use Rattle.line_routes.specs.RouteModel.{route_model}
use Rattle.sheet_lines.specs.Back.{sheets_back}
use Rattle.sheet_lines.proofs.back.sheets_back.Given as goal

abbrev pub invariant-loop-sheet : goal.invariant-loop-sheet
invariant-loop-sheet g l = l.output ≡ sheets_back (route_model l.fn.route) l.fn.kept (take l.sheet-index l.sheets)
