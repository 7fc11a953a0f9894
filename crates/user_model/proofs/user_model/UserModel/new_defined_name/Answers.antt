use Rattle.std.proofs.Common.{◌≡◌, Ok, Err, ap, refl, sym, subst, ◌∙◌, pos}
use Rattle.std.specs.Prelude.{IsOk}
use Rattle.std.proofs.lemmas.Result.{err_from_is_err_and}
use Rattle.name_edits.specs.NameEdits.{name_goes}
use Rattle.name_edits.specs.NameEdits.NameEdit.{Add}
use Rattle.edit_plans.specs.Edits.Edit.{ChangeNames}
use Rattle.open_book.specs.Machine.{edit_of}
use Rattle.user_model.specs.Reading.{formula_typed}
use Rattle.open_book.specs.Stands.{Moves}
use Rattle.open_book.specs.Values.{Session}
use Rattle.user_model.proofs.Inputs.{refused_turns, short_turns}
use Rattle.user_model.proofs.NamesTyped.{add_refused}
use Rattle.user_model.proofs.user_model.UserModel.new_defined_name.Goals as goal

pub returns-in_err-_scope-clause-next : goal.returns-in_err-_scope-clause-next
returns-in_err-_scope-clause-next g c =
    let doc = c.args.self.now.document in
    let error = c.in_err-_scope.field-0.0 in
    let found = subst (λ (seen : Session). name_goes c.args.scope c.args.name.now seen.document.book ≡ Err error) c.self.view_is (sym c.in_err-_scope.ensures.found) in
    let p = err_from_is_err_and c.from_residual.result c.from_residual.ensures.1 in
    rw (p.1, p.2) (λ state stands.
    refused_turns (ChangeNames (Add c.args.scope c.args.name.now (formula_typed state.present state.language (pos 1) (pos 1) c.args.formula.now))) doc state error stands refl (add_refused c.args.scope c.args.name.now _ doc.book error found))

pub returns-in_err-_scope-clause-memory : goal.returns-in_err-_scope-clause-memory
returns-in_err-_scope-clause-memory g c =
    let p = err_from_is_err_and c.from_residual.result c.from_residual.ensures.1 in
    rw (p.1, p.2) (λ short. absurd (c.in_err-_scope.ensures.sure (ap Err short)))

pub returns-in_err-tree-clause-next : goal.returns-in_err-tree-clause-next
returns-in_err-tree-clause-next g c =
    let p = err_from_is_err_and c.from_residual-in_err-tree.result c.from_residual-in_err-tree.ensures.1 in
    rw (p.1, p.2) (λ state stands. short_turns _ _ _ c.in_err-tree.ensures.memory)

pub returns-in_err-tree-clause-memory : goal.returns-in_err-tree-clause-memory
returns-in_err-tree-clause-memory g c =
    let p = err_from_is_err_and c.from_residual-in_err-tree.result c.from_residual-in_err-tree.ensures.1 in
    let found = subst (λ (seen : Session). name_goes c.args.scope c.args.name.now seen.document.book ≡ Ok c.in_ok-_scope._scope) c.self.view_is (sym (c.in_ok-_scope.ensures {u = _}).found) in
    rw (p.1, p.2) (λ short. subst IsOk (sym found) refl)

pub returns-clause-next : goal.returns-clause-next
returns-clause-next g c = λ state stands.
    let same = (c.in_ok-tree.ensures {u = _}).value ∙ (λ i. formula_typed (stands.document i).book (stands.document i).language (pos 1) (pos 1) c.args.formula.now) in
    let moves = subst (λ tree. Moves c.add_name.result c.add_name.new.self.document (edit_of (ChangeNames (Add c.args.scope c.args.name.now tree)) state)) same (c.add_name.ensures.next state stands) in
    record { done = moves.done; refused = moves.refused }
