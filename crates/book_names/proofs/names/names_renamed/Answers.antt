use Rattle.std.proofs.Common.{[], ◌∷◌, ◌++◌, ◌<◌, length, map, take, ap, sym, ◌∙◌, arith}
use Rattle.std.proofs.lemmas.List.{map_more}
use Rattle.defined_names.specs.declared.DefinedName.{DefinedName}
use Rattle.formula_names.specs.declared.Reach.TheVariants.{Sheets}
use Rattle.book_names.specs.Renaming.{defined_renamed}
use Rattle.book_names.proofs.names.names_renamed.Goals as goal

pub loop-name-preserved : goal.loop-name-preserved
loop-name-preserved c =
    let names = c.args.names.now in
    let i = c.loop-name.name-index in
    let name = c.name-item.result in
    let within : i < length names = omega arith in
    c.in_ok-push.ensures.ok
    ∙ (λ j. c.loop-name.invariant j ++ c.in_ok-renamed.ensures.name j ∷ [])
    ∙ ap (λ (other : DefinedName). map (defined_renamed Sheets c.args.old.now c.args.new.now) (take i names) ++ defined_renamed Sheets c.args.old.now c.args.new.now other ∷ []) c.name-item.is
    ∙ sym (map_more (defined_renamed Sheets c.args.old.now c.args.new.now) names i name within)
