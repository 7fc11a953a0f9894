-- Which line edits a workbook allows.
use Rattle.std.proofs.Common.{ℕ, ℤ, pos, ◌+ℤ◌, Bool, Option, Some, None, Result, Ok, Err}
use Rattle.std.specs.Prelude.{int_lt, not, ◌&&◌, if◌then◌else◌}
use Rattle.std.specs.List.{list_any}
use Rattle.base_values.specs.declared.EditError.{EditError}
use Rattle.base_values.specs.declared.EditError.TheVariants.{BadCount, OverEdge, TargetOutOfBounds, SplitsArray, SplitsMerge}
use Rattle.base_values.specs.Answers.{and_then}
use Rattle.base_values.specs.Places.{is_line}
use Rattle.base_axis.specs.Along.{Along, outside}
use Rattle.base_axis.specs.declared.MergedCell.{MergedCell}
use Rattle.base_axis.specs.Rectangles.{is_inside, first_line, last_line, last_of}
use Rattle.line_edits.specs.declared.EditKind.{EditKind}
use Rattle.line_edits.specs.declared.EditKind.TheVariants.{Insert, Delete, Move}
use Rattle.line_edits.specs.Edit.{is_valid}
use Rattle.line_edits.specs.Splits.{splits}
use Rattle.sheet_grid.specs.Arrays.{arrays_of}
use Rattle.sheet_grid.specs.Sheet.{Sheet}
use Rattle.sheet_grid.specs.Book.{Book, sheet_at}
use Rattle.sheet_actions.specs.GreatestLine.{greatest_line}

-- whether an edit splits a rectangle that is inside the sheet
abbrev pub splits_rectangle : Along → EditKind → MergedCell → Bool
splits_rectangle a kind r = is_inside r && splits kind (first_line a r) (last_line a r)

-- whether it splits an array of a sheet
abbrev pub splits_array : Along → EditKind → Sheet → Bool
splits_array a kind sheet = list_any (splits_rectangle a kind) (arrays_of sheet)

-- whether it splits a merge
abbrev pub splits_merge : Along → EditKind → Sheet → Bool
splits_merge a kind sheet = list_any (splits_rectangle a kind) sheet.merges

-- whether an insertion of so many lines could push a cell, or what an array fills, past the last line
abbrev pub pushes_past : Along → ℤ → Sheet → Bool
pushes_past a count sheet = int_lt a.last (greatest_line a sheet +ℤ count)

-- the first refusal of an edit of a sheet's lines. A deletion reaches too far by its own lines, a move by its block or by where that
-- goes; only a move may not split a merge
unfoldable pub refusal_of : Along → EditKind → Sheet → Option EditError
refusal_of a (Insert first count) sheet =
    if int_lt count (pos 1) then Some BadCount
    else if not (is_line a.last first) then Some (outside a)
    else if splits_array a (Insert first count) sheet then Some SplitsArray
    else if pushes_past a count sheet then Some OverEdge
    else None
refusal_of a (Delete first count) sheet =
    if int_lt count (pos 1) then Some BadCount
    else if not (is_line a.last first) then Some (outside a)
    else if int_lt a.last (last_of first count) then Some TargetOutOfBounds
    else if splits_array a (Delete first count) sheet then Some SplitsArray
    else None
refusal_of a (Move first count delta) sheet =
    if not (is_valid a.last (Move first count delta)) then Some TargetOutOfBounds
    else if splits_array a (Move first count delta) sheet then Some SplitsArray
    else if splits_merge a (Move first count delta) sheet then Some SplitsMerge
    else None

-- a value, unless there is a refusal
abbrev pub unless_refused : {T : Type 0} → Option EditError → T → Result T EditError
unless_refused None value = Ok value
unless_refused (Some refusal) value = Err refusal

-- the id of the sheet at an index and the edit of its lines, or the first refusal
abbrev pub lines_planned : Along → EditKind → ℕ → Book → Result (ℕ × EditKind) EditError
lines_planned a kind index book = and_then (sheet_at book index) (λ sheet. unless_refused (refusal_of a kind sheet) (sheet.id, kind))
