use Rattle.std.proofs.Common.{◌≡◌, take}
use Rattle.line_routes.specs.RouteModel.{route_model}
use Rattle.sheet_lines.specs.Followed.{sheets_followed}
use Rattle.sheet_lines.proofs.followed.followed_sheets.Given as goal

abbrev pub invariant-loop-sheet : goal.invariant-loop-sheet
invariant-loop-sheet g l = l.output ≡ sheets_followed (route_model l.fn.route) (take l.sheet-index l.sheets)
