use Rattle.std.proofs.Common.{◌≡◌, take}
use Rattle.formula_print.specs.Scope.{bind_parameters}
use Rattle.formula_print.proofs.scope.Scope.bind_parameters.Given as goal

abbrev pub invariant-loop-parameter : goal.invariant-loop-parameter
invariant-loop-parameter l = l.self ≡ bind_parameters l.initial.self (take l.parameter-index l.parameters)
