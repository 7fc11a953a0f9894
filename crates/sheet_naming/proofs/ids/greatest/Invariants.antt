use Rattle.std.proofs.Common.{◌≡◌, max, drop}
use Rattle.sheet_grid.specs.Book.{ids_of}
use Rattle.sheet_naming.specs.NextIds.{greatest}
use Rattle.sheet_naming.proofs.ids.greatest.Given as goal

-- with those of the other sheets it gives the greatest
abbrev pub invariant-loop-sheet : goal.invariant-loop-sheet
invariant-loop-sheet l = max l.greatest (greatest (ids_of (drop l.sheet-index l.sheets))) ≡ greatest (ids_of l.sheets)
