use Rattle.std.proofs.Common.{sym, subst}
use Rattle.std.specs.FinMap.{get}
use Rattle.defined_names.specs.Names.{AreCanonicalNames}
use Rattle.book_names.specs.laws.Numbers.{names_back_numbers}
use Rattle.book_names.proofs.names.list_back.Goals as goal

pub new-requires : goal.new-requires
new-requires c =
    subst AreCanonicalNames (sym c.in_ok-back.ensures.names)
    (names_back_numbers c.args.reach c.args.old.now c.args.new.now (get c.args.kept.now) c.requires c.as_slice.result.now c.as_slice.ensures.canonical)
