use Rattle.std.proofs.Common.{sym, subst}
use Rattle.std.proofs.lemmas.Result.{IfOk-weaker}
use Rattle.defined_names.specs.Names.{AreCanonicalPlaced}
use Rattle.defined_names.specs.laws.NameLaws.{kept_are_kept}
use Rattle.defined_names.proofs.name_list.NameList.of_sheet.Goals as goal

pub returns-clause-numbers : goal.returns-clause-numbers
returns-clause-numbers c =
    IfOk-weaker c.kept_names.result _ _ (λ kept is. subst AreCanonicalPlaced (sym is) (kept_are_kept c.args.sheet_id c.as_slice.result.now c.as_slice.ensures.canonical)) c.kept_names.ensures.names
