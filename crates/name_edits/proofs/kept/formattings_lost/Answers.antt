use Rattle.std.proofs.Common.{sym, subst}
use Rattle.base_maps.specs.laws.Each.{no_entry}
use Rattle.format_rules.specs.Canonical.{IsCanonicalFormatting}
use Rattle.base_maps.specs.SheetIndexes.{sheet_index_cmp}
use Rattle.book_names.specs.Renaming.{AreCanonicalFormattings}
use Rattle.name_edits.proofs.kept.formattings_lost.Goals as goal

pub returns-in_default-clause-numbers : goal.returns-in_default-clause-numbers
returns-in_default-clause-numbers c = subst AreCanonicalFormattings (sym c.new.ensures) (no_entry sheet_index_cmp (λ _ formatting. IsCanonicalFormatting formatting))
