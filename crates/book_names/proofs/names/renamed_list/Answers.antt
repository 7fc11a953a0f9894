use Rattle.std.proofs.Common.{sym, subst}
use Rattle.defined_names.specs.Names.{AreCanonicalNames}
use Rattle.book_names.specs.laws.Numbers.{names_numbers}
use Rattle.book_names.proofs.names.renamed_list.Goals as goal

pub new-requires : goal.new-requires
new-requires c = subst AreCanonicalNames (sym c.in_ok-renamed.ensures.names) (names_numbers c.args.old.now c.args.new.now c.as_slice.result.now c.as_slice.ensures.canonical)
