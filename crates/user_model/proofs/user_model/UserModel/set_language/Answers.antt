use Rattle.std.proofs.Common.{◌≢◌, refl, subst, sym, Result, ◌∙◌}
use Rattle.base_values.specs.declared.EditError.{EditError}
use Rattle.base_values.specs.declared.EditError.TheVariants.{LanguageName, NoMemory}
use Rattle.base_values.specs.Answers.{Edits, map_ok}
use Rattle.base_tables.specs.declared.Language.{Language}
use Rattle.base_tables.specs.Language.{language_of_name}
use Rattle.open_book.specs.Machine.{speaking_in}
use Rattle.open_book.specs.Stands.{Moves}
use Rattle.open_book.specs.Values.{speaking}
use Rattle.user_model.proofs.SettingSteps.{table_sure}
use Rattle.user_model.proofs.user_model.UserModel.set_language.Goals as goal

pub speak-requires : goal.speak-requires
speak-requires g c = λ short.
    let other : LanguageName ≢ NoMemory = λ same. cc in
    table_sure LanguageName other NoMemory (language_of_name c.args.language.now) (sym c.get_language-found.ensures.value ∙ short) refl

pub returns-clause-spoken : goal.returns-clause-spoken
returns-clause-spoken g c =
    subst (λ (r : Result Language EditError). Edits c.speak.result c.args.self.now c.speak.new.self (map_ok (speaking c.args.self.now) r)) c.get_language-found.ensures.value c.speak.ensures.spoken

pub returns-clause-next : goal.returns-clause-next
returns-clause-next g c = λ state stands.
    subst (λ (r : Result Language EditError). Moves c.speak.result c.speak.new.self.document (speaking_in r state)) c.get_language-found.ensures.value (c.speak.ensures.next state stands)
