use Rattle.std.proofs.Common.{ap, length, subst, sym, Result, Ok, Err, ◌∙◌}
use Rattle.std.specs.Prelude.{IfOk}
use Rattle.base_values.specs.declared.EditError.{EditError}
use Rattle.sheet_ids.specs.declared.View.{View}
use Rattle.sheet_ids.specs.Views.{IsViewOf}
use Rattle.open_book.specs.Machine.{looking}
use Rattle.open_book.specs.Stands.{Moves}
use Rattle.open_book.proofs.Moving.{looked, not_looked}
use Rattle.user_model.proofs.user_model.UserModel.look.Goals as goal

pub put_view-requires : goal.put_view-requires
put_view-requires g c = subst (λ (chosen : Result View EditError). IfOk chosen (IsViewOf (length c.args.self.now.document.book.worksheets))) c.in-Ok.is c.requires.seen

pub returns-in-Ok-clause-next : goal.returns-in-Ok-clause-next
returns-in-Ok-clause-next g c = λ state stands.
    subst (λ (chosen : Result View EditError). Moves {T = Unit {0}} (Ok tt) c.put_view.new.self.document (looking chosen state)) (sym c.in-Ok.is)
    (looked c.args.self.now c.put_view.new.self state c.in-Ok.view c.put_view.ensures
    (subst (λ (chosen : Result View EditError). IfOk chosen (IsViewOf (length c.args.self.now.document.book.worksheets))) c.in-Ok.is c.requires.seen) stands)

pub returns-in-Err-clause-next : goal.returns-in-Err-clause-next
returns-in-Err-clause-next g c = λ state stands.
    subst (λ (chosen : Result View EditError). Moves {T = Unit {0}} (Err c.in-Err.error) c.args.self.now.document (looking chosen state)) (sym c.in-Err.is)
    (not_looked c.args.self.now state c.in-Err.error (λ short. c.requires.sure (c.in-Err.is ∙ ap Err short)) stands)
