use Rattle.std.proofs.Common.{[], ◌∷◌, ◌++◌, ◌<◌, length, map, take, ap, sym, ◌∙◌, arith}
use Rattle.std.proofs.lemmas.List.{map_more}
use Rattle.format_rules.specs.declared.ConditionalFormatting.{ConditionalFormatting}
use Rattle.book_names.specs.Renaming.{formatting_renamed}
use Rattle.book_names.proofs.formattings.formattings_renamed.Goals as goal

pub loop-formatting-preserved : goal.loop-formatting-preserved
loop-formatting-preserved c =
    let renamed = formatting_renamed c.args.reach c.args.old.now c.args.new.now in
    let formattings = c.args.formattings.now in
    let i = c.loop-formatting.formatting-index in
    let formatting = c.formatting-item.result in
    let within : i < length formattings = omega arith in
    c.in_ok-push.ensures.ok
    ∙ (λ j. c.loop-formatting.invariant j ++ c.in_ok-renamed.ensures.formatting j ∷ [])
    ∙ ap (λ (other : ConditionalFormatting). map renamed (take i formattings) ++ renamed other ∷ []) c.formatting-item.is
    ∙ sym (map_more renamed formattings i formatting within)
