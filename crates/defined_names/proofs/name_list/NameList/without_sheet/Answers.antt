use Rattle.std.proofs.Common.{sym, subst}
use Rattle.defined_names.specs.Names.{AreCanonicalNames}
use Rattle.defined_names.specs.laws.NameLaws.{left_kept}
use Rattle.defined_names.proofs.name_list.NameList.without_sheet.Goals as goal

pub new-requires : goal.new-requires
new-requires c = subst AreCanonicalNames (sym c.in_ok-left.ensures.names) (left_kept c.args.sheet_id c.as_slice.result.now c.as_slice.ensures.canonical)
