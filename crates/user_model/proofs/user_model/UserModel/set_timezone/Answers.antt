use Rattle.std.proofs.Common.{◌≡◌, ◌≢◌, Ok, Err, refl, sym, ◌∙◌}
use Rattle.base_values.specs.declared.EditError.TheVariants.{NoMemory, ZoneName}
use Rattle.base_tables.specs.Zone.{zone_of_name}
use Rattle.user_model.specs.Settings.{zone_given, zone_named}
use Rattle.user_model.proofs.SettingSteps.{named_moves, table_sure, unnamed_moves}
use Rattle.user_model.proofs.user_model.UserModel.set_timezone.Goals as goal

pub put_setting-requires : goal.put_setting-requires
put_setting-requires g c = refl

pub returns-in-Ok-clause-next : goal.returns-in-Ok-clause-next
returns-in-Ok-clause-next g c = λ state stands.
    let found : zone_named c.args.zone.now ≡ Ok c.in-Ok.found = sym c.get_zone.ensures.value ∙ c.in-Ok.is in
    named_moves (zone_named c.args.zone.now) zone_given state c.put_setting.result c.put_setting.new.self.document c.in-Ok.found found
    (c.put_setting.ensures.next state stands)

pub returns-in-Err-clause-next : goal.returns-in-Err-clause-next
returns-in-Err-clause-next g c = λ state stands.
    let found : zone_named c.args.zone.now ≡ Err c.in-Err.error = sym c.get_zone.ensures.value ∙ c.in-Err.is in
    let other : ZoneName ≢ NoMemory = λ short. cc in
    unnamed_moves (zone_named c.args.zone.now) zone_given state c.args.self.now.document c.in-Err.error found
    (table_sure ZoneName other c.in-Err.error (zone_of_name c.args.zone.now) found)
