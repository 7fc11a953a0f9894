use Rattle.std.proofs.Common.{sym, subst}
use Rattle.std.proofs.lemmas.Result.{IfOk-weaker}
use Rattle.line_map.specs.Canonical.{AreCanonicalKept}
use Rattle.book_names.specs.laws.Formattings.{own_kept_numbers}
use Rattle.book_names.proofs.formattings.kept_of_rules.Goals as goal

pub returns-clause-numbers : goal.returns-clause-numbers
returns-clause-numbers c =
    let ways = c.args.ways.now in
    IfOk-weaker c.formattings_kept.result _ _
    (λ kept is. subst AreCanonicalKept (sym is) (own_kept_numbers ways.there ways.back ways.old.now ways.new.now c.as_slice.result.now c.as_slice.ensures.canonical)) c.formattings_kept.ensures.kept
