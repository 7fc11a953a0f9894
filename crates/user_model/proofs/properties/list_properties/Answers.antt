use Rattle.std.proofs.Common.{[], ◌∷◌, ◌++◌, ◌<◌, length, map, take, ap, sym, ◌∙◌, arith}
use Rattle.std.proofs.lemmas.List.{map_more}
use Rattle.sheet_grid.specs.Sheet.{Sheet}
use Rattle.user_model.specs.Properties.{properties_of}
use Rattle.user_model.proofs.properties.list_properties.Goals as goal

pub loop-sheet-preserved : goal.loop-sheet-preserved
loop-sheet-preserved c =
    let sheets = c.args.sheets.now in
    let i = c.loop-sheet.sheet-index in
    let sheet = c.sheet-item.result in
    let within : i < length sheets = omega arith in
    c.in_ok-push.ensures.ok
    ∙ (λ j. c.loop-sheet.invariant j ++ c.in_ok-properties.ensures.output j ∷ [])
    ∙ ap (λ (other : Sheet). map properties_of (take i sheets) ++ properties_of other ∷ []) c.sheet-item.is
    ∙ sym (map_more properties_of sheets i sheet within)
