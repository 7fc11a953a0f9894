use Rattle.script_runs.proofs.Starts.{starts, starts_only}
use Rattle.script_runs.proofs.session.new_model.Goals as goal

pub returns-clause-stands : goal.returns-clause-stands
returns-clause-stands c = starts _ c.new_empty.ensures.opens

pub returns-clause-only : goal.returns-clause-only
returns-clause-only c = starts_only _ c.new_empty.ensures.opens
