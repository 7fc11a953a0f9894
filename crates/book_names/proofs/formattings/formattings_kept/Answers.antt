use Rattle.std.proofs.Common.{◌<◌, length, take, ap, sym, ◌∙◌, arith}
use Rattle.base_maps.specs.laws.Gathering.{with_made}
use Rattle.base_maps.specs.ByIndex.{kept_at}
use Rattle.base_maps.specs.laws.ByIndexLaws.{kept_more}
use Rattle.book_names.specs.Renaming.{formatting_kept, own_formattings_kept}
use Rattle.book_names.proofs.formattings.formattings_kept.Goals as goal

pub loop-place-preserved : goal.loop-place-preserved
loop-place-preserved c =
    let ways = c.args.ways.now in
    let part = formatting_kept ways.there ways.back ways.old.now ways.new.now in
    let formattings = c.args.formattings.now in
    let i = c.loop-place.place in
    let formatting = c.index-formattings-place.result in
    let within : i < length formattings = omega arith in
    c.in_ok-keep_formatting.ensures.kept
    ∙ ap (with_made (kept_at part (i, formatting))) c.loop-place.invariant
    ∙ ap (λ other. with_made (kept_at part (i, other)) (own_formattings_kept ways.there ways.back ways.old.now ways.new.now (take i formattings))) c.index-formattings-place.is
    ∙ sym (kept_more part formattings i formatting within)
