use Rattle.std.proofs.Common.{◌≡◌, take}
use Rattle.sheet_lines.specs.Sheets.{IsPlacedBook}
use Rattle.sheet_history.specs.Diffs.{back_from}
use Rattle.sheet_history.proofs.apply.taken_back.Given as goal

-- the first diffs take the present workbook, which is placed, back where the whole list takes the first workbook
abbrev pub invariant-loop-index : goal.invariant-loop-index
invariant-loop-index l = (back_from 0 l.next (take l.index l.diffs) ≡ back_from 0 l.workbook l.list) × IsPlacedBook l.next
