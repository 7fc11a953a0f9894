use Rattle.edit_plans.specs.laws.SheetPlans.{setting_planned}
use Rattle.edit_plans.proofs.settings.plan_setting.Goals as goal

pub returns : goal.returns
returns c = record {
  planned = setting_planned c.args.setting c.args.workbook.now c.requires.rules c.setting_list.result c.setting_list.ensures.only c.setting_list.ensures.output c.setting_list.ensures.canonical;
}
