-- What a user has selected after an edit.
use Rattle.std.specs.Prelude.{ℕ, ◌+◌, ◌==◌, ℤ, pos, true, List, length, Result, Ok, Err, if◌then◌else◌}
use Rattle.base_values.specs.declared.EditError.{EditError}
use Rattle.std.specs.Option.{unwrap_or}
use Rattle.base_axis.specs.Rectangles.{last_column, last_row}
use Rattle.sheet_grid.specs.declared.SheetState.TheVariants.{Hidden}
use Rattle.line_sizes.specs.ShownLines.{next_shown}
use Rattle.sheet_grid.specs.Sheet.{Sheet}
use Rattle.sheet_grid.specs.Book.{Book, sheet_at}
use Rattle.sheet_ids.specs.declared.View.{View}
use Rattle.sheet_ids.specs.Chosen.{id_at, next_visible, selected_after_delete, viewed}
use Rattle.sheet_ids.specs.Moved.{selected_sheet_after_move}
use Rattle.sheet_ids.specs.Views.{range_from}
use Rattle.sheet_history.specs.declared.LineAxis.{LineAxis}
use Rattle.sheet_history.specs.declared.LineAxis.TheVariants.{Rows, Columns}
use Rattle.sheet_history.specs.LineDiffs.{along_of}
use Rattle.edit_plans.specs.LineRecords.{lines_of}
use Rattle.sheet_history.specs.declared.SheetField.TheVariants.{State}
use Rattle.edit_plans.specs.Edits.{Edit}
use Rattle.edit_plans.specs.Edits.Edit.{AddSheet, CopySheet, DeleteSheet, MoveSheet, SetField, SetHidden, PasteStyles}

-- the index of the sheet that an edit of a workbook selects, where another one was selected before: a new sheet, a copy, the sheet before
-- the last one where that is deleted, the next visible sheet behind one that is hidden, whichever was selected, and the same sheet where
-- one is moved
abbrev pub selected_by : Edit → Book → ℕ → ℕ
selected_by AddSheet book selected = length book.worksheets
selected_by (CopySheet index) book selected = index + 1
selected_by (DeleteSheet index) book selected = selected_after_delete (length book.worksheets) index selected
selected_by (MoveSheet from to) book selected = selected_sheet_after_move selected from to
selected_by (SetField index (State Hidden)) book selected = unwrap_or (next_visible book.worksheets index) selected
selected_by edit book selected = selected

-- a whole row or column, as a rectangle
abbrev pub whole_line : LineAxis → ℤ → List ℤ
whole_line Rows row = range_from row (pos 1) row (pos 16384)
whole_line Columns column = range_from (pos 1) column (pos 1048576) column

-- the whole line of a sheet that is selected where those from a first to a last are hidden: the next one that is shown behind them, else the
-- nearest one before them, else the first one
abbrev pub line_shown : LineAxis → ℤ → ℤ → Result Sheet EditError → List ℤ → List ℤ
line_shown axis first last (Ok sheet) range = whole_line axis (next_shown (along_of axis).last (lines_of axis sheet) first last)
line_shown axis first last (Err error) range = range

-- the rectangle that an edit of a workbook selects of the sheet that was viewed: another one only where lines of that sheet are hidden, or styles
-- are pasted in it
abbrev pub range_by : Edit → Book → View → List ℤ
range_by (SetHidden index axis first last true) book view = if index == view.sheet then line_shown axis first last (sheet_at book index) view.range else view.range
range_by (PasteStyles index r styles) book view = if index == view.sheet then range_from r.row r.column (last_row r) (last_column r) else view.range
range_by edit book view = view.range

-- the view of an earlier workbook with that rectangle
abbrev pub view_asked : Edit → Book → View → View
view_asked edit book view = record view { range = range_by edit book view }

-- the view after an edit that led from one workbook to another
abbrev pub view_after : Edit → Book → Book → View → View
view_after edit earlier later view =
    viewed (id_at earlier.worksheets view.sheet) later.worksheets (selected_by edit earlier view.sheet) (view_asked edit earlier view)
