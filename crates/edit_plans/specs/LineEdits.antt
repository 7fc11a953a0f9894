-- Rows and columns that get a size, or are hidden or shown: what changes, and when it is refused.
use Rattle.std.specs.Prelude.{ℕ, ℤ, Result}
use Rattle.base_values.specs.declared.EditError.{EditError}
use Rattle.base_values.specs.Answers.{and_then, map_ok}
use Rattle.line_sizes.specs.declared.LineChange.{LineChange}
use Rattle.line_sizes.specs.LineChanges.{lines_from}
use Rattle.sheet_grid.specs.Sheet.{Sheet}
use Rattle.sheet_grid.specs.Book.{Book, sheet_edit}
use Rattle.sheet_history.specs.declared.LineAxis.{LineAxis}
use Rattle.sheet_history.specs.LineDiffs.{along_of}
use Rattle.edit_plans.specs.LineRecords.{lines_set}

-- the sheet where the lines from a first to a last are changed, or the first refusal: they are not lines of the axis, the last one is before
-- the first, or there is no such change
abbrev pub attrs_in : LineAxis → ℤ → ℤ → Result LineChange EditError → Sheet → Result Sheet EditError
attrs_in axis first last change sheet = and_then (lines_from (along_of axis).last first last) (λ count. map_ok (λ output. lines_set axis output first count sheet) change)

-- the workbook where those lines of the sheet at an index are changed. The first refusal is that there is no such sheet
unfoldable pub attrs_set : ℕ → LineAxis → ℤ → ℤ → Result LineChange EditError → Book → Result Book EditError
attrs_set index axis first last change book = sheet_edit book index (attrs_in axis first last change)
