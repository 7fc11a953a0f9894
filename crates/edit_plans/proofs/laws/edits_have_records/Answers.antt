use Rattle.edit_plans.proofs.Accepted.{accepted}
use Rattle.edit_plans.proofs.laws.edits_have_records.Goals as goal

pub returns : goal.returns
returns c = accepted
