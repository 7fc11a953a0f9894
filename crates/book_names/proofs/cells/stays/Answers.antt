use Rattle.std.proofs.Common.{◌≡◌, ℕ, List, subst, ◌∙◌}
use Rattle.std.specs.Bool.{Decides}
use Rattle.formula_tree.specs.declared.Node.{Node}
use Rattle.formula_names.specs.Renamed.{tree_renamed}
use Rattle.book_names.proofs.cells.stays.Goals as goal

pub returns : goal.returns
returns c =
    subst (λ (new : List ℕ). Decides c.is_unchanged.result (tree_renamed c.args.reach c.args.old.now new c.args.tree.now ≡ c.args.tree.now)) (c.as_str.ensures ∙ c.get-2.ensures)
    (subst (λ (tree : Node). Decides c.is_unchanged.result (tree_renamed c.args.reach c.args.old.now c.as_str.result.now tree ≡ tree)) c.get.ensures c.is_unchanged.ensures)
