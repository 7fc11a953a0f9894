use Rattle.std.proofs.Common.{sym, subst, ◌∙◌}
use Rattle.std.specs.Prelude.{IsTrue}
use Rattle.formula_tree.specs.declared.Node.{Node}
use Rattle.formula_tree.specs.declared.numbers.NumberRule.TheVariants.{Canonical}
use Rattle.formula_tree.specs.Numbers.{has_canonical_numbers}
use Rattle.sheet_fill.specs.laws.RebasedTrees.{numbers_rebased}
use Rattle.sheet_fill.proofs.content.rebased.Goals as goal

pub returns-clause-canonical : goal.returns-clause-canonical
returns-clause-canonical c =
    subst (λ (tree : Node). IsTrue (has_canonical_numbers tree)) (sym (c.in_ok-new.ensures ∙ c.in_ok-rebase_node.ensures.tree))
    (subst IsTrue (sym (numbers_rebased Canonical c.args.place c.args.tree.now)) c.requires)
