use Rattle.std.proofs.Common.{[], ◌∷◌, ◌++◌, ◌<◌, length, map, take, ap, sym, ◌∙◌, arith}
use Rattle.std.specs.List.{enumerate_from}
use Rattle.std.specs.FinMap.{get}
use Rattle.std.proofs.lemmas.List.{map-append}
use Rattle.base_maps.specs.ByIndex.{restored_at}
use Rattle.base_maps.specs.laws.ByIndexLaws.{numbered_more}
use Rattle.book_names.specs.Renaming.{defined_renamed, with_kept_tree}
use Rattle.book_names.proofs.names.names_back.Goals as goal

pub loop-place-preserved : goal.loop-place-preserved
loop-place-preserved c =
    let names = c.args.names.now in
    let i = c.loop-place.place in
    let name = c.index-names-place.result in
    let back = restored_at (defined_renamed c.args.reach c.args.new.now c.args.old.now) with_kept_tree (get c.args.kept.now) in
    let within : i < length names = omega arith in
    c.in_ok-push.ensures.ok
    ∙ (λ j. c.loop-place.invariant j ++ c.in_ok-name_at.ensures.name j ∷ [])
    ∙ ap (λ other. map back (enumerate_from 0 (take i names)) ++ back (i, other) ∷ []) c.index-names-place.is
    ∙ sym (ap (map back) (numbered_more names i name within) ∙ map-append back (enumerate_from 0 (take i names)) _)
