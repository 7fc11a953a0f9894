use Rattle.sheet_history.specs.declared.Setting.TheVariants as value
use Rattle.edit_plans.specs.laws.SheetPlans.{setting_planned}
use Rattle.edit_plans.proofs.settings.plan_title.Goals as goal

pub returns : goal.returns
returns c = record {
  planned = setting_planned (value.Name c.args.name.now) c.args.workbook.now c.requires.rules c.title_list.result c.title_list.ensures.only c.title_list.ensures.output c.title_list.ensures.canonical;
}
