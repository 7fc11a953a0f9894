use Rattle.std.proofs.Common.{[], ◌∷◌, ◌++◌, ◌<◌, length, map, take, ap, sym, ◌∙◌, arith}
use Rattle.std.proofs.lemmas.List.{map_more}
use Rattle.defined_names.specs.declared.DefinedName.{DefinedName}
use Rattle.sheet_naming.specs.Listed.{listed_name}
use Rattle.sheet_naming.proofs.listing.listed_names.Goals as goal

pub loop-name-preserved : goal.loop-name-preserved
loop-name-preserved c =
    let output = listed_name c.args.locale c.args.language c.args.workbook.now in
    let names = c.defined_names-name-items.result.now in
    let i = c.loop-name.name-index in
    let name = c.name-item.result in
    let within : i < length names = omega arith in
    c.in_ok-push.ensures.ok
    ∙ (λ j. c.loop-name.invariant j ++ c.in_ok-listed.ensures.listed j ∷ [])
    ∙ ap (λ (other : DefinedName). map output (take i names) ++ output other ∷ []) c.name-item.is
    ∙ sym (map_more output names i name within)
