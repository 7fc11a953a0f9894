use Rattle.std.proofs.Common.{◌≡◌, ℕ, ◌+◌, ◌<◌, List, [], ◌++◌, Option, length, take, get_or, ap, sym, ◌∙◌, append_assoc, arith}
use Rattle.std.specs.List.{cons_option, filter_map}
use Rattle.base_axis.specs.declared.MergedCell.{MergedCell}
use Rattle.base_maps.specs.laws.Lists.{one_left}
use Rattle.sheet_fill.specs.Tiles.{tile_in}
use Rattle.sheet_fill.proofs.tiles.push_tiles.Goals as goal

-- one more merge's tile behind the others
one_more : (output : MergedCell → Option MergedCell) (first list new merges : List MergedCell) (i : ℕ) (d : MergedCell) → i < length merges
    → new ≡ list ++ cons_option (output (get_or merges i d)) [] → list ≡ first ++ filter_map output (take i merges)
    → new ≡ first ++ filter_map output (take (i + 1) merges)
one_more output first list new merges i d within step before =
    step ∙ ap (λ xs. xs ++ cons_option (output (get_or merges i d)) []) before
    ∙ append_assoc first (filter_map output (take i merges)) (cons_option (output (get_or merges i d)) [])
    ∙ ap (λ xs. first ++ xs) (sym (one_left output merges i d within))

pub loop-merge-preserved : goal.loop-merge-preserved
loop-merge-preserved g c =
    one_more (tile_in g.A.Axis.along c.args.range c.args.index) c.args.list.now c.loop-merge.list c.push_tile.new.list c.args.merges.now c.loop-merge.merge-index _ (omega arith)
    c.in_ok-push_tile.ensures c.loop-merge.invariant
