use Rattle.std.proofs.Common.{◌≡◌, ℕ, List, subst, ◌∙◌}
use Rattle.std.specs.Prelude.{IfOk}
use Rattle.book_names.specs.Renaming.{formatting_renamed}
use Rattle.book_names.proofs.formattings.renamed_to.Goals as goal

pub returns-clause-formatting : goal.returns-clause-formatting
returns-clause-formatting c =
    subst (λ (old : List ℕ). IfOk c.renamed_formatting.result (λ output. output ≡ formatting_renamed c.args.reach old c.args.new.now c.args.formatting.now))
    (c.as_str.ensures ∙ c.get.ensures) c.renamed_formatting.ensures.formatting
