use Rattle.std.proofs.Common.{[], ◌∷◌, ◌++◌, ◌<◌, length, map, take, ap, sym, ◌∙◌, arith}
use Rattle.std.proofs.lemmas.List.{map_more}
use Rattle.sheet_grid.specs.Sheet.{Sheet}
use Rattle.sheet_lines.specs.Back.{sheet_back}
use Rattle.line_routes.specs.RouteModel.{route_model}
use Rattle.sheet_lines.specs.Followed.{route_on}
use Rattle.sheet_lines.proofs.back.sheets_back.Goals as goal

pub loop-sheet-preserved : goal.loop-sheet-preserved
loop-sheet-preserved g c =
    let sheets = c.args.sheets.now in
    let i = c.loop-sheet.sheet-index in
    let back : Sheet → Sheet = λ sheet. sheet_back (route_on (route_model c.args.route.now) sheet) c.args.kept.now sheet in
    let within : i < length sheets = omega arith in
    c.in_ok-push.ensures.ok
    ∙ (λ j. c.loop-sheet.invariant j ++ c.in_ok-sheet_back.ensures.sheet j ∷ [])
    ∙ ap (λ sheet. map back (take i sheets) ++ back sheet ∷ []) c.sheet-item.is
    ∙ sym (map_more back sheets i c.sheet-item.result within)
