use Rattle.std.proofs.Common.{◌≡◌, ◌≢◌, Ok, Err, refl, sym, ◌∙◌}
use Rattle.base_values.specs.declared.EditError.TheVariants.{NoMemory, LocaleName}
use Rattle.base_tables.specs.Locale.{locale_of_name}
use Rattle.user_model.specs.Settings.{locale_given, locale_named}
use Rattle.user_model.proofs.SettingSteps.{named_moves, table_sure, unnamed_moves}
use Rattle.user_model.proofs.user_model.UserModel.set_locale.Goals as goal

pub put_setting-requires : goal.put_setting-requires
put_setting-requires g c = refl

pub returns-in-Ok-clause-next : goal.returns-in-Ok-clause-next
returns-in-Ok-clause-next g c = λ state stands.
    let found : locale_named c.args.locale.now ≡ Ok c.in-Ok.found = sym c.get_locale.ensures.value ∙ c.in-Ok.is in
    named_moves (locale_named c.args.locale.now) locale_given state c.put_setting.result c.put_setting.new.self.document c.in-Ok.found found
    (c.put_setting.ensures.next state stands)

pub returns-in-Err-clause-next : goal.returns-in-Err-clause-next
returns-in-Err-clause-next g c = λ state stands.
    let found : locale_named c.args.locale.now ≡ Err c.in-Err.error = sym c.get_locale.ensures.value ∙ c.in-Err.is in
    let other : LocaleName ≢ NoMemory = λ short. cc in
    unnamed_moves (locale_named c.args.locale.now) locale_given state c.args.self.now.document c.in-Err.error found
    (table_sure LocaleName other c.in-Err.error (locale_of_name c.args.locale.now) found)
