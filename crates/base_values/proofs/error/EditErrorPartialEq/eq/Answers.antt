use Rattle.base_values.specs.laws.CodedEq.{is_same_value}
use Rattle.base_values.specs.contracts.error.EditError.{the_row}
use Rattle.base_values.proofs.error.EditErrorPartialEq.eq.Goals as goal

pub returns : goal.returns
returns c = is_same_value the_row.coded c.args.self.now c.args.other.now c.same_error.result c.same_error.ensures
