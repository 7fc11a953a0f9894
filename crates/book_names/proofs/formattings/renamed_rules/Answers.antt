use Rattle.std.proofs.Common.{sym, subst}
use Rattle.format_rules.specs.Canonical.{AreCanonicalRules}
use Rattle.book_names.specs.laws.Formattings.{formattings_numbers}
use Rattle.book_names.proofs.formattings.renamed_rules.Goals as goal

pub new-requires : goal.new-requires
new-requires c =
    subst AreCanonicalRules (sym c.in_ok-renamed.ensures.formattings)
    (formattings_numbers c.args.reach c.args.old.now c.args.new.now c.as_slice.result.now c.as_slice.ensures.canonical)
