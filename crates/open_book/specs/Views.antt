-- What a user has selected of a workbook, after each kind of step.
use Rattle.std.proofs.Common.{ℕ, ℤ, Bool, List, Result}
use Rattle.std.specs.Prelude.{◌==◌, ◌&&◌, if◌then◌else◌}
use Rattle.line_sizes.specs.LineChanges.{has_lines}
use Rattle.base_axis.specs.declared.MergedCell.{MergedCell}
use Rattle.base_axis.specs.Rectangles.{is_inside, last_column, last_row}
use Rattle.base_values.specs.declared.EditError.{EditError}
use Rattle.base_values.specs.Answers.{map_ok}
use Rattle.sheet_grid.specs.Book.{Book, ids_of, sheet_at}
use Rattle.sheet_ids.specs.declared.View.{View}
use Rattle.sheet_ids.specs.Views.{range_from}
use Rattle.sheet_ids.specs.Chosen.{id_at, viewed}
use Rattle.sheet_history.specs.declared.Diff.{Diff}
use Rattle.sheet_history.specs.declared.DiffType.{DiffType}
use Rattle.sheet_history.specs.declared.LineAxis.{LineAxis}
use Rattle.sheet_history.specs.LineDiffs.{along_of}
use Rattle.sheet_history.specs.Selection.{selection_followed}
use Rattle.edit_plans.specs.ViewSteps.{line_shown}

-- the view of a later workbook where the sheet at an index is selected
abbrev pub view_at : ℕ → Book → Book → View → View
view_at index earlier later view = viewed (id_at earlier.worksheets view.sheet) later.worksheets index view

-- the view of a later workbook that a list led to, in its direction: it goes along with sheets that were moved, and with nothing else
abbrev pub view_followed : DiffType → List Diff → Book → Book → View → View
view_followed kind list earlier later view = view_at (selection_followed kind (ids_of earlier.worksheets) list view.sheet) earlier later view

-- the view of the sheet at an index of the same workbook, or the refusal where there is none
abbrev pub sheet_chosen : ℕ → Book → View → Result View EditError
sheet_chosen index book view = map_ok (λ sheet. view_at index book book view) (sheet_at book index)

-- the view that is asked for where lines from a first to a last of the sheet at an index are hidden or shown: where these are lines of the
-- viewed sheet that are hidden, one with the line that is shown
abbrev pub seen_by : ℕ → LineAxis → ℤ → ℤ → Bool → Book → View → View
seen_by index axis first last hidden book view =
    if hidden && (index == view.sheet) && has_lines (along_of axis).last first last
    then record view { range = line_shown axis first last (sheet_at book index) view.range }
    else view

-- the view that is asked for where styles are pasted over a rectangle of the viewed sheet, if that lies in the sheet
abbrev pub seen_by_pasting : MergedCell → View → View
seen_by_pasting r view = if is_inside r then record view { range = range_from r.row r.column (last_row r) (last_column r) } else view
