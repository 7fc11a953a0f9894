-- Lines of a sheet that are changed, and the record of the change.
use Rattle.std.proofs.Common.{ℕ, zero, suc, ℤ, pos, ◌+ℤ◌, Bool, true, List, [], ◌++◌, Option, Result}
use Rattle.std.specs.Ordering.{int_cmp}
use Rattle.std.specs.FinMap.{FinMap, get}
use Rattle.base_values.specs.declared.EditError.{EditError}
use Rattle.sheet_grid.specs.declared.LineAttr.{LineAttr}
use Rattle.sheet_grid.specs.Sheet.{Sheet}
use Rattle.sheet_rules.specs.WellFormed.{is_size, is_width}
use Rattle.line_sizes.specs.declared.LineChange.{LineChange}
use Rattle.line_sizes.specs.declared.LineChange.TheVariants.{Size, Hidden}
use Rattle.line_sizes.specs.LineChanges.{changed_entry, height_change, lines_changed, width_change}
use Rattle.sheet_history.specs.declared.Diff.{Diff}
use Rattle.sheet_history.specs.declared.LineAxis.{LineAxis}
use Rattle.sheet_history.specs.declared.LineAxis.TheVariants.{Rows, Columns}
use Rattle.sheet_history.specs.Entries.EntryKey.{AttrKey}
use Rattle.sheet_history.specs.Entries.EntryValue.{AttrValue}
use Rattle.sheet_history.specs.Records.{entry_record}

-- what the lines of a sheet along an axis have
abbrev pub lines_of : LineAxis → Sheet → FinMap int_cmp LineAttr
lines_of Rows sheet = sheet.rows
lines_of Columns sheet = sheet.columns

-- the sheet whose lines have this
abbrev pub with_lines : LineAxis → FinMap int_cmp LineAttr → Sheet → Sheet
with_lines Rows lines sheet = record sheet { rows = lines }
with_lines Columns lines sheet = record sheet { columns = lines }

-- the sheet where so many lines from a first one on are changed
abbrev pub lines_set : LineAxis → LineChange → ℤ → ℕ → Sheet → Sheet
lines_set axis change first count sheet = with_lines axis (lines_changed change (lines_of axis sheet) first count) sheet

-- the change of lines to a size, which is a height or a width; one below 0 is refused
abbrev pub size_change : LineAxis → ℤ → Result LineChange EditError
size_change Rows size = height_change size
size_change Columns size = width_change size

-- a change after which lines keep their rules
abbrev pub change_fits : LineAxis → LineChange → Bool
change_fits Rows (Size size) = is_size size
change_fits Columns (Size size) = is_width size
change_fits _ (Hidden hidden) = true

-- the record of what a line has: its change, or nothing where it stays
abbrev pub attr_record : ℕ → LineAxis → ℤ → Option LineAttr → Option LineAttr → List Diff
attr_record id axis line old new = entry_record (AttrKey id axis line) (AttrValue old) (AttrValue new)

-- the record of so many lines from a first one on that are changed, in ascending order
abbrev pub line_diffs : ℕ → LineAxis → LineChange → FinMap int_cmp LineAttr → ℤ → ℕ → List Diff
line_diffs id axis change lines first zero = []
line_diffs id axis change lines first (suc more) =
    line_diffs id axis change lines first more ++ attr_record id axis (first +ℤ pos more) (get lines (first +ℤ pos more))
    (changed_entry change (get lines (first +ℤ pos more)))
