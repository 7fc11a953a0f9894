use Rattle.std.proofs.Common.{sym, ◌∙◌}
use Rattle.std.proofs.lemmas.Result.{IfOk-weaker}
use Rattle.book_names.proofs.names.renamed_tree.Goals as goal

pub returns-then-stays-clause-tree : goal.returns-then-stays-clause-tree
returns-then-stays-clause-tree c =
    IfOk-weaker c.copy_of.result _ _ (λ copy is. is ∙ sym (c.stays.ensures.0 c.if-stays.true)) c.copy_of.ensures.copy
