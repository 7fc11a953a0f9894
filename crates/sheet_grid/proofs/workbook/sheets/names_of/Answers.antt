use Rattle.std.proofs.Common.{ℕ, List, [], ◌∷◌, ◌++◌, ◌<◌, length, map, take, ap, sym, ◌∙◌, arith}
use Rattle.std.proofs.lemmas.List.{map_more}
use Rattle.sheet_grid.specs.Sheet.{Sheet}
use Rattle.sheet_grid.proofs.workbook.sheets.names_of.Goals as goal

pub loop-sheet-preserved : goal.loop-sheet-preserved
loop-sheet-preserved c =
    let sheets = c.args.sheets.now in
    let i = c.loop-sheet.sheet-index in
    let sheet = c.sheet-item.result in
    let name : Sheet → List ℕ = λ other. other.name in
    let within : i < length sheets = omega arith in
    c.in_ok-push.ensures.ok
    ∙ (λ j. c.loop-sheet.invariant j ++ c.in_ok-name.ensures.name j ∷ [])
    ∙ ap (λ (other : Sheet). map name (take i sheets) ++ name other ∷ []) c.sheet-item.is
    ∙ sym (map_more name sheets i sheet within)
