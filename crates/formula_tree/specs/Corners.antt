-- The corners of a formula's references and ranges, seen from the formula's place.
use Rattle.std.specs.Prelude.{ℤ, pos, ◌+ℤ◌, ◌-ℤ◌, Bool, ◌&&◌, if◌then◌else◌, int_lt, not, Option, Some, None}
use Rattle.std.specs.Ordering.{int_eq}
use Rattle.base_values.specs.declared.Position.{Position}
use Rattle.base_values.specs.Places.{is_line}
use Rattle.formula_tree.specs.declared.corner.Corner.{Corner}

-- the line that a number names: an absolute number is the line itself, a relative one is counted from the formula's line
abbrev pub line_at : Bool → ℤ → ℤ → ℤ
line_at absolute from number = if absolute then number else from +ℤ number

-- the number that names a line
abbrev pub number_at : Bool → ℤ → ℤ → ℤ
number_at absolute from line = if absolute then line else line -ℤ from

-- the row on which a corner stands
unfoldable pub corner_row : Position → Corner → ℤ
corner_row place corner = line_at corner.absolute_row place.row corner.row

-- the column on which it stands
unfoldable pub corner_column : Position → Corner → ℤ
corner_column place corner = line_at corner.absolute_column place.column corner.column

-- a corner is inside the sheet
unfoldable pub is_inside : Position → Corner → Bool
is_inside place corner = is_line (pos 1048576) (corner_row place corner) && is_line (pos 16384) (corner_column place corner)

-- where a corner stands, if that is inside the sheet
unfoldable pub corner_at : Position → Corner → Option Position
corner_at place corner = if is_inside place corner then Some (record { row = corner_row place corner; column = corner_column place corner }) else None

-- the corner with these marks that stands there
unfoldable pub corner_to : Position → Bool → Bool → Position → Corner
corner_to place absolute_row absolute_column target = record {
  absolute_row = absolute_row;
  row = number_at absolute_row place.row target.row;
  absolute_column = absolute_column;
  column = number_at absolute_column place.column target.column;
}

-- a range takes all rows of its columns, since its rows are the absolute first and last one
unfoldable pub is_whole_rows : Corner → Corner → Bool
is_whole_rows first second = (first.absolute_row && second.absolute_row) && (int_eq first.row (pos 1) && int_eq second.row (pos 1048576))

-- a range takes all columns of its rows
unfoldable pub is_whole_columns : Corner → Corner → Bool
is_whole_columns first second = (first.absolute_column && second.absolute_column) && (int_eq first.column (pos 1) && int_eq second.column (pos 16384))

-- the first corner stands on a later row
abbrev pub are_rows_reversed : Position → Corner → Corner → Bool
are_rows_reversed place first second = int_lt (corner_row place second) (corner_row place first)

-- the first corner stands on a later column
abbrev pub are_columns_reversed : Position → Corner → Corner → Bool
are_columns_reversed place first second = int_lt (corner_column place second) (corner_column place first)

-- on each axis the first corner does not stand after the second
unfoldable pub are_in_order : Position → Corner → Corner → Bool
are_in_order place first second = not (are_rows_reversed place first second) && not (are_columns_reversed place first second)

-- the row of one corner and the column of another, each with its mark
abbrev pub crossing : Corner → Corner → Corner
crossing row column = record {
  absolute_row = row.absolute_row;
  row = row.row;
  absolute_column = column.absolute_column;
  column = column.column;
}

-- a range's first corner after ordering: of the two rows the one above, of the two columns the one to the left. On equal lines it stays
unfoldable pub lower_corner : Position → Corner → Corner → Corner
lower_corner place first second =
    crossing (if are_rows_reversed place first second then second else first) (if are_columns_reversed place first second then second else first)

-- its second corner after ordering: the row and the column that the first one left
unfoldable pub higher_corner : Position → Corner → Corner → Corner
higher_corner place first second =
    crossing (if are_rows_reversed place first second then first else second) (if are_columns_reversed place first second then first else second)
