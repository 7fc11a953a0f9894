use Rattle.std.proofs.Common.{◌≡◌, ◌++◌, take}
use Rattle.std.specs.List.{filter_map}
use Rattle.defined_names.specs.Names.{copied_name}
use Rattle.defined_names.proofs.of_sheets.names_copied.Given as goal

abbrev pub invariant-loop-name : goal.invariant-loop-name
invariant-loop-name l = l.copied ≡ l.fn.copied ++ filter_map (copied_name l.source l.sheet_id) (take l.name-index l.names)
