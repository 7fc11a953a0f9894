use Rattle.std.proofs.Common.{◌≡◌, take}
use Rattle.std.specs.Prelude.{IfSome}
use Rattle.line_routes.specs.RouteModel.{route_model}
use Rattle.sheet_lines.specs.Followed.{sheets_followed}
use Rattle.sheet_lines.specs.Kept.{first_kept, formulas_kept}
use Rattle.sheet_lines.specs.Back.{AreCanonicalFormulas}
use Rattle.sheet_lines.specs.Workbooks.{LinesFit}
use Rattle.sheet_lines.proofs.followed.followed_with_kept.Given as goal

abbrev pub invariant-loop-sheet : goal.invariant-loop-sheet
invariant-loop-sheet g l = (l.output ≡ sheets_followed (route_model l.fn.route) (take l.sheet-index l.sheets))
    × ((l.edited ≡ first_kept (route_model l.fn.route) (take l.sheet-index l.sheets)) × (IfSome l.edited (LinesFit (route_model l.fn.route))
    × ((l.formulas ≡ formulas_kept (route_model l.fn.route) (take l.sheet-index l.sheets)) × AreCanonicalFormulas l.formulas)))
