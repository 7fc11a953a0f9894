-- `==` of functions is equality of their values.
use denote.Enum.Bare.{same_true, true_same}
use Rattle.std.proofs.Common.{◌≡◌}
use Rattle.std.specs.Bool.{Decides}
use Rattle.base_tables.specs.declared.function.Function.{Function}
use Rattle.base_tables.specs.contracts.function.Function.{the_type}
use Rattle.base_tables.specs.contracts.function.FunctionPartialEq.TheImpl as function

pub function_equals : (a b : Function) → Decides (function.ghosts.eq a b) (a ≡ b)
function_equals a b = (same_true the_type tt a b, true_same the_type a b)
