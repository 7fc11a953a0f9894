use Rattle.sheet_history.specs.laws.RecordBetween.{record_computed}
use Rattle.sheet_history.proofs.laws.records_are_computed.Goals as goal

pub returns : goal.returns
returns c = record_computed
