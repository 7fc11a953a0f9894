use Rattle.std.proofs.Common.{◌≡◌, Ok, Err, ap, sym, subst}
use Rattle.std.proofs.lemmas.Result.{err_from_is_err_and}
use Rattle.user_model.specs.Places.{rule_goes}
use Rattle.open_book.specs.Values.{Session}
use Rattle.user_model.proofs.RulesTyped.{read_refused, read_there}
use Rattle.user_model.proofs.user_model.UserModel.read_rule_formula.Goals as goal

pub returns-in_err-place-clause-read : goal.returns-in_err-place-clause-read
returns-in_err-place-clause-read g c =
    let doc = c.args.self.now.document in
    let error = c.in_err-place.field-0.0 in
    let found = subst (λ (seen : Session). rule_goes c.args.sheet c.args.area seen.document.book ≡ Err error) c.self.view_is (sym c.in_err-place.ensures.found) in
    let p = err_from_is_err_and c.from_residual.result c.from_residual.ensures.1 in
    rw (p.1, p.2) (read_refused c.args.sheet c.args.area c.args.text.now doc.book doc.language error found (λ short. c.in_err-place.ensures.sure (ap Err short)))

pub returns-clause-read : goal.returns-clause-read
returns-clause-read g c =
    let doc = c.args.self.now.document in
    let found = subst (λ (seen : Session). rule_goes c.args.sheet c.args.area seen.document.book ≡ Ok c.in_ok-place.place) c.self.view_is (sym (c.in_ok-place.ensures {u = _}).found) in
    read_there c.args.sheet c.args.area c.args.text.now doc.book doc.language c.in_ok-place.place found c.read_tree.result c.read_tree.ensures.memory c.read_tree.ensures.value
