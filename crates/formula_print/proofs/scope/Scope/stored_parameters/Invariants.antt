use Rattle.std.proofs.Common.{◌≡◌, take, map}
use Rattle.formula_print.specs.Scope.{stored_parameter}
use Rattle.formula_print.proofs.scope.Scope.stored_parameters.Given as goal

abbrev pub invariant-loop-parameter : goal.invariant-loop-parameter
invariant-loop-parameter l = l.stored ≡ map stored_parameter (take l.parameter-index l.parameters)
