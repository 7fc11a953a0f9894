use Rattle.std.proofs.Common.{◌≡◌, ◌++◌, take}
use Rattle.std.specs.Prelude.{string_bytes}
use Rattle.std.specs.List.{flat_map}
use Rattle.formula_print.specs.Pieces.{parameter_part}
use Rattle.formula_print.proofs.pieces.push_parameters.Given as goal

abbrev pub invariant-loop-parameter : goal.invariant-loop-parameter
invariant-loop-parameter l = string_bytes l.out ≡ string_bytes l.initial.out ++ flat_map (parameter_part l.locale) (take l.parameter-index l.parameters)
