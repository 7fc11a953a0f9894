use Rattle.std.proofs.Common.{◌≡◌}
use Rattle.defined_names.specs.Names.{names_put, names_restored}
use Rattle.defined_names.proofs.of_sheets.names_restored.Given as goal

-- what is left of the kept names, put into what was made, makes the whole
abbrev pub invariant-loop-place : goal.invariant-loop-place
invariant-loop-place l = names_put l.place-iterator l.names.items ≡ names_restored l.fn.kept l.fn.names.items
