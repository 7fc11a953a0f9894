use Rattle.sheet_history.specs.Settings.{new_setting}
use Rattle.sheet_history.proofs.Placed.{setting_placed}
use Rattle.sheet_history.proofs.setting.setting_forward.Goals as goal

pub returns-clause-placed : goal.returns-clause-placed
returns-clause-placed c =
    setting_placed (new_setting c.args.change.now) c.args.workbook.now c.put_new.new.workbook c.put_new.result c.requires c.put_new.ensures
