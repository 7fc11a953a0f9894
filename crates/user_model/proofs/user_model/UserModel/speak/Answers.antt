use Rattle.std.proofs.Common.{ap, subst, sym, Result, Ok, Err, ◌∙◌}
use Rattle.base_values.specs.declared.EditError.{EditError}
use Rattle.base_tables.specs.declared.Language.{Language}
use Rattle.open_book.specs.Machine.{speaking_in}
use Rattle.open_book.specs.Stands.{Moves}
use Rattle.user_model.proofs.SettingSteps.{spoken, not_spoken}
use Rattle.user_model.proofs.user_model.UserModel.speak.Goals as goal

pub returns-in-Ok-clause-next : goal.returns-in-Ok-clause-next
returns-in-Ok-clause-next g c = λ state stands.
    subst (λ (chosen : Result Language EditError). Moves {T = Unit {0}} (Ok tt) c.put_language.new.self.document (speaking_in chosen state)) (sym c.in-Ok.is)
    (spoken c.args.self.now c.put_language.new.self state c.in-Ok.language c.put_language.ensures stands)

pub returns-in-Err-clause-next : goal.returns-in-Err-clause-next
returns-in-Err-clause-next g c = λ state stands.
    subst (λ (chosen : Result Language EditError). Moves {T = Unit {0}} (Err c.in-Err.error) c.args.self.now.document (speaking_in chosen state)) (sym c.in-Err.is)
    (not_spoken c.args.self.now state c.in-Err.error (λ short. c.requires (c.in-Err.is ∙ ap Err short)) stands)
