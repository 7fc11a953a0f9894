use Rattle.std.proofs.Common.{[], ◌∷◌, ◌++◌, ◌<◌, length, map, take, ap, sym, ◌∙◌, arith}
use Rattle.std.specs.List.{enumerate_from}
use Rattle.std.proofs.lemmas.List.{map-append}
use Rattle.format_rules.specs.declared.ConditionalFormatting.{ConditionalFormatting}
use Rattle.base_maps.specs.ByIndex.{restored_at}
use Rattle.base_maps.specs.laws.ByIndexLaws.{numbered_more}
use Rattle.book_names.specs.Renaming.{formatting_renamed, formattings_under}
use Rattle.book_names.proofs.formattings.formattings_back.Goals as goal

pub loop-place-preserved : goal.loop-place-preserved
loop-place-preserved c =
    let change = c.args.change.now in
    let formattings = c.args.formattings.now in
    let i = c.loop-place.place in
    let formatting = c.index-formattings-place.result in
    let back = restored_at (formatting_renamed change.reach change.after.now change.before.now) (λ _ (own : ConditionalFormatting). own) (formattings_under change.kept.now change.id) in
    let within : i < length formattings = omega arith in
    c.in_ok-push.ensures.ok
    ∙ (λ j. c.loop-place.invariant j ++ c.in_ok-formatting_at.ensures.formatting j ∷ [])
    ∙ ap (λ other. map back (enumerate_from 0 (take i formattings)) ++ back (i, other) ∷ []) c.index-formattings-place.is
    ∙ sym (ap (map back) (numbered_more formattings i formatting within) ∙ map-append back (enumerate_from 0 (take i formattings)) _)
