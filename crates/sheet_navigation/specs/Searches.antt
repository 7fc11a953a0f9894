-- The cells with a content that stand nearest in a row.
use Rattle.std.specs.Prelude.{ℤ, ◌&&◌, not, int_lt, Option, Some, None, Result, if◌then◌else◌}
use Rattle.std.specs.List.{filter_map, find, last_or}
use Rattle.std.specs.Ordering.{int_eq}
use Rattle.std.specs.FinMap as fin
use Rattle.base_values.specs.declared.EditError.{EditError}
use Rattle.base_values.specs.declared.Position.{Position}
use Rattle.base_values.specs.Answers.{map_ok}
use Rattle.base_values.specs.Places.{place_of}
use Rattle.sheet_grid.specs.declared.Cell.{Cell}
use Rattle.sheet_grid.specs.Merges.{is_empty}
use Rattle.sheet_grid.specs.Sheet.{Sheet}

-- the column of a cell, if it stands in a row and has a content
abbrev pub filled_column : ℤ → Position × Cell → Option ℤ
filled_column row entry = if int_eq entry.0.row row && not (is_empty entry.1.content) then Some entry.0.column else None

-- a column, if it is below another one
abbrev pub if_below : ℤ → Option ℤ → Option ℤ
if_below column None = None
if_below column (Some found) = if int_lt found column then Some found else None

-- the column of a cell, if it stands in a row before a column and has a content
abbrev pub filled_before : ℤ → ℤ → Position × Cell → Option ℤ
filled_before row column entry = if_below column (filled_column row entry)

-- cells stand by row and then by column, so those of a row ascend: the greatest column below one is the last
abbrev pub last_before : Sheet → ℤ → ℤ → Option ℤ
last_before sheet row column = last_or None (filter_map (filled_before row column) (fin.entries sheet.cells))

-- and the least column above one is the first
abbrev pub first_after : Sheet → ℤ → ℤ → Option ℤ
first_after sheet row column = find (λ found. int_lt column found) (filter_map (filled_column row) (fin.entries sheet.cells))

-- the greatest column below one, in a row, whose cell has a content. The first refusal is that the row is outside, then that the column is
abbrev pub last_filled_before : Sheet → ℤ → ℤ → Result (Option ℤ) EditError
last_filled_before sheet row column = map_ok (λ place. last_before sheet row column) (place_of row column)

-- the least column above
abbrev pub first_filled_after : Sheet → ℤ → ℤ → Result (Option ℤ) EditError
first_filled_after sheet row column = map_ok (λ place. first_after sheet row column) (place_of row column)
