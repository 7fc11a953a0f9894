use Rattle.std.proofs.Common.{[], ◌∷◌, ◌++◌, ◌<◌, length, map, take, ap, sym, ◌∙◌, arith}
use Rattle.std.proofs.lemmas.List.{map_more}
use Rattle.formula_tree.specs.declared.Node.{Node}
use Rattle.formula_names.specs.Renamed.{tree_renamed}
use Rattle.formula_names.proofs.rename.+renaming.Goals as goal

pub children-loop-node-preserved : goal.children-loop-node-preserved
children-loop-node-preserved t c =
    let reach = c.args.reach in
    let old = c.args.old.now in
    let new = c.args.new.now in
    let nodes = c.as_slice-node-items.result.now in
    let i = c.loop-node.node-index in
    let node = c.node-item.result in
    let within : i < length nodes = omega arith in
    c.in_ok-push.ensures.ok
    ∙ (λ j. c.loop-node.invariant j ++ c.in_ok-renamed.ensures j ∷ [])
    ∙ ap (λ (other : Node). map (tree_renamed reach old new) (take i nodes) ++ tree_renamed reach old new other ∷ []) c.node-item.is
    ∙ sym (map_more (tree_renamed reach old new) nodes i node within)
