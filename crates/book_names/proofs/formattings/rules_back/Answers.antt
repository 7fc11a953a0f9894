use Rattle.std.proofs.Common.{sym, subst}
use Rattle.format_rules.specs.Canonical.{AreCanonicalRules}
use Rattle.base_maps.specs.TaggedIndexes.{index_on}
use Rattle.book_names.specs.Renaming.{formattings_under}
use Rattle.book_names.specs.laws.Formattings.{formattings_back_numbers}
use Rattle.book_names.proofs.formattings.rules_back.Goals as goal

pub new-requires : goal.new-requires
new-requires c =
    let change = c.args.change.now in
    subst AreCanonicalRules (sym c.in_ok-back.ensures.formattings)
    (formattings_back_numbers change.reach change.before.now change.after.now (formattings_under change.kept.now change.id)
    (λ q. c.requires.formattings (index_on change.id q)) c.as_slice.result.now c.as_slice.ensures.canonical)
