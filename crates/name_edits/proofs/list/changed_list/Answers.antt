use Rattle.std.proofs.Common.{subst, sym}
use Rattle.defined_names.specs.Names.{AreCanonicalNames}
use Rattle.name_edits.specs.laws.Lists.{names_numbers}
use Rattle.name_edits.proofs.list.changed_list.Goals as goal

pub new-requires : goal.new-requires
new-requires c =
    subst AreCanonicalNames (sym c.in_ok-output.ensures.names)
    (names_numbers c.args.change.now c.as_slice.result.now c.as_slice.ensures.canonical c.requires.numbers.new)
