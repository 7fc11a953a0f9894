use Rattle.std.proofs.Common.{◌<◌, length, take, ap, sym, ◌∙◌, arith}
use Rattle.base_maps.specs.laws.Gathering.{with_made}
use Rattle.base_maps.specs.ByIndex.{kept_at}
use Rattle.base_maps.specs.laws.ByIndexLaws.{kept_more}
use Rattle.book_names.specs.Renaming.{defined_kept, names_kept}
use Rattle.book_names.proofs.names.kept_names.Goals as goal

pub loop-place-preserved : goal.loop-place-preserved
loop-place-preserved c =
    let old = c.args.old.now in
    let new = c.args.new.now in
    let part = defined_kept old new in
    let names = c.args.names.now in
    let i = c.loop-place.place in
    let name = c.index-names-place.result in
    let within : i < length names = omega arith in
    c.in_ok-keep_name.ensures.kept
    ∙ ap (with_made (kept_at part (i, name))) c.loop-place.invariant
    ∙ ap (λ other. with_made (kept_at part (i, other)) (names_kept old new (take i names))) c.index-names-place.is
    ∙ sym (kept_more part names i name within)
