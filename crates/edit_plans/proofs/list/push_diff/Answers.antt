use Rattle.std.proofs.Common.{◌≡◌, Some, sym, subst, rules}
use Rattle.std.specs.Prelude.{IfSome}
use Rattle.std.proofs.lemmas.List.Elements.{All-push}
use Rattle.sheet_history.specs.Diffs.{IsCanonicalDiff, IsCanonicalList}
use Rattle.edit_plans.proofs.list.push_diff.Goals as goal

pub returns-in_ok-push-clause-canonical : goal.returns-in_ok-push-clause-canonical
returns-in_ok-push-clause-canonical c =
    let is : c.args.diff ≡ Some c.in-Some.diff = search rules in
    let kept = subst (λ o. IfSome o IsCanonicalDiff) is c.requires.diff in
    subst IsCanonicalList (sym c.in_ok-push.ensures.ok) (All-push IsCanonicalDiff c.args.list.now c.in-Some.diff c.requires.list kept)
