use Rattle.std.proofs.Common.{sym, ◌∙◌}
use Rattle.std.proofs.lemmas.Result.{IfOk-weaker}
use Rattle.cell_content.specs.laws.ChangedLaws.{unchanged}
use Rattle.formula_names.specs.Renamed.{tree_renamed}
use Rattle.book_names.proofs.cells.renamed_formula.Goals as goal

pub returns-then-stays-clause-cell : goal.returns-then-stays-clause-cell
returns-then-stays-clause-cell c =
    let cell = c.args.cell.now in
    let same = unchanged (tree_renamed c.args.reach c.args.old.now c.args.new.now) cell.content c.args.tree.now c.requires
    (c.stays.ensures.0 c.if-stays.true) in
    IfOk-weaker c.copy_of.result _ _ (λ copy is. is ∙ (λ i. record cell { content = sym same i })) c.copy_of.ensures.copy
