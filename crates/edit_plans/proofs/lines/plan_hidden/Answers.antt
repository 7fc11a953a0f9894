use Rattle.edit_plans.specs.laws.AttrRules.{hidden_fits}
use Rattle.edit_plans.proofs.lines.plan_hidden.Goals as goal

pub plan_change-requires-clause-fits : goal.plan_change-requires-clause-fits
plan_change-requires-clause-fits c = hidden_fits c.args.axis c.args.hidden
