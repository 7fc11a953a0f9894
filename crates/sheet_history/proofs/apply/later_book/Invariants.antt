use Rattle.std.proofs.Common.{◌≡◌, drop}
use Rattle.sheet_lines.specs.Sheets.{IsPlacedBook}
use Rattle.sheet_history.specs.Diffs.{forward_from}
use Rattle.sheet_history.proofs.apply.later_book.Given as goal

-- what is left takes the present workbook, which is placed, where the whole list takes the first
abbrev pub invariant-loop-index : goal.invariant-loop-index
invariant-loop-index l = (forward_from l.index l.next (drop l.index l.diff-items) ≡ forward_from 0 l.workbook l.list) × IsPlacedBook l.next
