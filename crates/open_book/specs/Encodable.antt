-- What bytes can carry: a list whose numbers are canonical and whose formulas are at most 64 deep, and of lines just what an
-- edit keeps.
use Rattle.std.proofs.Common.{List}
use Rattle.std.specs.List.{AllByRecursion}
use Rattle.sheet_history.specs.declared.Diff.{Diff}
use Rattle.sheet_wire.specs.QueueBytes.{IsKnownDiff}

abbrev pub AreEncodable : List Diff → Type 0
AreEncodable diffs = AllByRecursion IsKnownDiff diffs
