use Rattle.std.proofs.Common.{◌≡◌, map, take}
use Rattle.book_names.proofs.by_sheet.changed_sheets.Given as goal

abbrev pub invariant-loop-sheet : goal.invariant-loop-sheet
invariant-loop-sheet g l = l.output ≡ map (g.C.SheetChange.change l.fn.change) (take l.sheet-index l.sheets)
