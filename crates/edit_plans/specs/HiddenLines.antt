-- How far lines are moved where hidden lines stand in the way.
use Rattle.std.proofs.Common.{ℕ, ℤ, pos, ◌+ℤ◌, ◌-ℤ◌, Bool, true, false, ◌&&◌, length}
use Rattle.std.specs.Prelude.{int_lt, if◌then◌else◌}
use Rattle.std.specs.List.{filter}
use Rattle.std.specs.Ordering.{int_cmp}
use Rattle.std.specs.FinMap.{FinMap, entries}
use Rattle.base_axis.specs.Along.{Along}
use Rattle.base_axis.specs.Rectangles.{is_between}
use Rattle.sheet_grid.specs.declared.LineAttr.{LineAttr}
use Rattle.sheet_grid.specs.Sheet.{Sheet}

-- whether an entry hides its line, which is one from a first to a last
abbrev pub is_hidden_between : ℤ → ℤ → ℤ × LineAttr → Bool
is_hidden_between first last entry = entry.1.hidden && is_between first last entry.0

-- how many lines of a map from a first to a last are hidden
abbrev pub hidden_in : FinMap int_cmp LineAttr → ℤ → ℤ → ℕ
hidden_in lines first last = length (filter (is_hidden_between first last) (entries lines))

-- how many lines of a sheet along an axis are, from a first to a last. No line outside the sheet is
abbrev pub hidden_between : Along → Sheet → ℤ → ℤ → ℕ
hidden_between a sheet first last = if a.of true false then hidden_in sheet.rows first last else hidden_in sheet.columns first last

-- a move on grows by the hidden lines from behind the block to one behind where it would end; a move back by those from where it would
-- begin to before the block
unfoldable pub grown : Along → Sheet → ℤ → ℤ → ℤ → ℤ
grown a sheet first count delta =
    if int_lt (pos 0) delta then delta +ℤ pos (hidden_between a sheet (first +ℤ count) ((first +ℤ count) +ℤ delta))
    else delta -ℤ pos (hidden_between a sheet (first +ℤ delta) (first -ℤ pos 1))
