use Rattle.std.proofs.Common.{◌≡◌, take}
use Rattle.sheet_grid.specs.Book.{names_of}
use Rattle.sheet_grid.proofs.workbook.sheets.names_of.Given as goal

abbrev pub invariant-loop-sheet : goal.invariant-loop-sheet
invariant-loop-sheet l = l.names ≡ names_of (take l.sheet-index l.sheets)
