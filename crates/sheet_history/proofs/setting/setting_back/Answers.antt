use Rattle.sheet_history.specs.Settings.{old_setting}
use Rattle.sheet_history.proofs.Placed.{setting_placed}
use Rattle.sheet_history.proofs.setting.setting_back.Goals as goal

pub returns-clause-placed : goal.returns-clause-placed
returns-clause-placed c =
    setting_placed (old_setting c.args.change.now) c.args.workbook.now c.put_old.new.workbook c.put_old.result c.requires c.put_old.ensures
