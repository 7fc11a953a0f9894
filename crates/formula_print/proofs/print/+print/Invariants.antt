use Rattle.std.proofs.Common.{◌≡◌, ◌++◌, take, map}
use Rattle.std.specs.Prelude.{string_bytes}
use Rattle.formula_print.specs.Print.{arguments_text, printed}
use Rattle.formula_print.proofs.print.+print.Given as goal

-- the first arguments are written
abbrev pub invariant-print_separated-loop-at : goal.invariant-print_separated-loop-at
invariant-print_separated-loop-at l = string_bytes l.out ≡ string_bytes l.initial.out ++ arguments_text l.style (map (printed l.style) (take l.at l.nodes))
