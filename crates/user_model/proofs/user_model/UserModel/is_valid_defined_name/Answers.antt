use Rattle.std.proofs.Common.{◌≡◌, Ok, Err, true, false, sym, subst, ◌∙◌}
use Rattle.std.proofs.lemmas.Result.{err_from_is_err_and}
use Rattle.formula_tree.specs.declared.Node.{Node}
use Rattle.name_edits.specs.NameEdits.{is_name_formula, name_goes}
use Rattle.open_book.specs.Values.{Session}
use Rattle.user_model.proofs.NamesTyped.{tested_refused, tested_good, tested_bad}
use Rattle.user_model.proofs.user_model.UserModel.is_valid_defined_name.Goals as goal

pub returns-in_err-id-clause-scope : goal.returns-in_err-id-clause-scope
returns-in_err-id-clause-scope g c =
    let error = c.in_err-id.field-0.0 in
    let found = subst (λ (seen : Session). name_goes c.args.scope c.args.name.now seen.document.book ≡ Err error) c.self.view_is (sym c.in_err-id.ensures.found) in
    let p = err_from_is_err_and c.from_residual.result c.from_residual.ensures.1 in
    rw (p.1, p.2) (record { done = tt; refused = λ loud. tested_refused c.args.scope c.args.name.now _ c.args.self.now.document.book error found })

pub returns-then-is_name_formula-clause-scope : goal.returns-then-is_name_formula-clause-scope
returns-then-is_name_formula-clause-scope g c =
    let found = subst (λ (seen : Session). name_goes c.args.scope c.args.name.now seen.document.book ≡ Ok c.in_ok-id.id) c.self.view_is (sym (c.in_ok-id.ensures {u = _}).found) in
    let shown = c.get.ensures ∙ (c.in_ok-tree.ensures {u = _}).value in
    let good = subst (λ (tree : Node). is_name_formula tree ≡ true) shown (sym c.is_name_formula.ensures ∙ c.if-is_name_formula.true) in
    record { done = tested_good c.args.scope c.in_ok-id.id c.args.name.now _ c.args.self.now.document.book found good; refused = tt }

pub returns-clause-scope : goal.returns-clause-scope
returns-clause-scope g c =
    let found = subst (λ (seen : Session). name_goes c.args.scope c.args.name.now seen.document.book ≡ Ok c.in_ok-id.id) c.self.view_is (sym (c.in_ok-id.ensures {u = _}).found) in
    let shown = c.get.ensures ∙ (c.in_ok-tree.ensures {u = _}).value in
    let bad = subst (λ (tree : Node). is_name_formula tree ≡ false) shown (sym c.is_name_formula.ensures ∙ c.if-is_name_formula.false) in
    record { done = tt; refused = λ loud. tested_bad c.args.scope c.in_ok-id.id c.args.name.now _ c.args.self.now.document.book found bad }
