-- A workbook after an edit of its lines.
use Rattle.std.proofs.Common.{ℕ, ℤ, pos, Result, Ok}
use Rattle.std.specs.Prelude.{int_lt, ◌||◌, if◌then◌else◌}
use Rattle.std.specs.Ordering.{int_eq}
use Rattle.base_values.specs.declared.EditError.{EditError}
use Rattle.base_values.specs.Answers.{map_ok}
use Rattle.base_axis.specs.Along.{Along}
use Rattle.sheet_grid.specs.Book.{Book}
use Rattle.line_edits.specs.declared.EditKind.{EditKind}
use Rattle.line_edits.specs.declared.EditKind.TheVariants.{Move}
use Rattle.sheet_lines.specs.Followed.{book_followed}
use Rattle.sheet_actions.specs.Planned.{lines_planned}

-- the workbook after the edit of lines of the sheet at an index, or the first refusal
abbrev pub lines_edited : Along → EditKind → ℕ → Book → Result Book EditError
lines_edited a kind index book = map_ok (λ plan. book_followed a plan.1 plan.0 book) (lines_planned a kind index book)

-- the same of a move. Where no line moves, or by none, the workbook stays, whatever else is asked
abbrev pub lines_moved : Along → ℤ → ℤ → ℤ → ℕ → Book → Result Book EditError
lines_moved a first count delta index book = if int_eq delta (pos 0) || int_lt count (pos 1) then Ok book else lines_edited a (Move first count delta) index book
