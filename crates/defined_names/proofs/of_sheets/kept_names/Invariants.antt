use Rattle.std.proofs.Common.{◌≡◌, take}
use Rattle.defined_names.specs.Names.{kept_names}
use Rattle.defined_names.proofs.of_sheets.kept_names.Given as goal

abbrev pub invariant-loop-place : goal.invariant-loop-place
invariant-loop-place l = l.kept ≡ kept_names l.sheet_id (take l.place l.names)
