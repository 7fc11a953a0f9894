use Rattle.std.proofs.Common.{◌≡◌, take}
use Rattle.defined_names.specs.Names.{names_left}
use Rattle.defined_names.proofs.of_sheets.names_left.Given as goal

abbrev pub invariant-loop-name : goal.invariant-loop-name
invariant-loop-name l = l.left ≡ names_left l.sheet_id (take l.name-index l.names)
