use Rattle.std.proofs.Common.{sym, ◌∙◌}
use Rattle.base_tables.specs.laws.Folding.{same_folded_decides}
use Rattle.base_tables.proofs.folding.same_by_folding.Goals as goal

pub returns-clause-same : goal.returns-clause-same
returns-clause-same c =
    let exact = same_folded_decides c.args.a.now c.args.b.now in
    (λ e. exact.0 (sym c.same_characters.ensures ∙ e), λ h. c.same_characters.ensures ∙ exact.1 h)
