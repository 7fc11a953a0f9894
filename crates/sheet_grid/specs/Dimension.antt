-- The least rectangle that holds the cells of a sheet, and what its arrays fill.
use Rattle.std.specs.Prelude.{ℤ, pos, ◌≤ℤ◌, int_le, int_lt, if◌then◌else◌, Option, Some, None, List, map}
use Rattle.std.specs.List.{All, Contains}
use Rattle.std.specs.FinMap as fin
use Rattle.std.specs.FinMap.{FinMap}
use Rattle.base_values.specs.declared.Position.{Position}
use Rattle.base_values.specs.Places.{IsPlace, position_cmp}
use Rattle.base_axis.specs.declared.MergedCell.{MergedCell}
use Rattle.base_axis.specs.Rectangles.{last_of}
use Rattle.sheet_grid.specs.declared.cell.Cell.{Cell}
use Rattle.sheet_grid.specs.declared.dimension.WorksheetDimension.{WorksheetDimension}
use Rattle.sheet_grid.specs.Arrays.{array_at}

-- the line that so many lines reach, and no further than the last of the axis; fewer than one count as one
abbrev pub reached : ℤ → ℤ → ℤ → ℤ
reached last first count = if int_le count (pos 1) then first else if int_lt (last_of first count) last then last_of first count else last

-- the part of a sheet that a cell takes at a place: the place, and of an array what it fills
abbrev pub extent_at : Position → Option MergedCell → WorksheetDimension
extent_at place None = record { min_row = place.row; max_row = place.row; min_column = place.column; max_column = place.column }
extent_at place (Some r) = record {
  min_row = place.row;
  max_row = reached (pos 1048576) place.row r.height;
  min_column = place.column;
  max_column = reached (pos 16384) place.column r.width;
}

abbrev pub extent_of : Position × Cell → WorksheetDimension
extent_of entry = extent_at entry.0 (array_at entry.0 entry.1.content)

-- the parts that cells take, by row and then by column of their places
abbrev pub extents_of : FinMap position_cmp Cell → List WorksheetDimension
extents_of cells = map extent_of (fin.entries cells)

-- one of the numbers, and none of them is less
pub record IsLeast (numbers : List ℤ) (least : ℤ) : Type 0 where
  pub below : All (λ number. least ≤ℤ number) numbers
  pub among : Contains numbers least

-- one of the numbers, and none of them is greater
pub record IsGreatest (numbers : List ℤ) (greatest : ℤ) : Type 0 where
  pub above : All (λ number. number ≤ℤ greatest) numbers
  pub among : Contains numbers greatest

-- each part lies in the rectangle, and each side of it touches a part
pub record IsLeastRectangle (extents : List WorksheetDimension) (rectangle : WorksheetDimension) : Type 0 where
  pub min_row : IsLeast (map (λ extent. extent.min_row) extents) rectangle.min_row
  pub max_row : IsGreatest (map (λ extent. extent.max_row) extents) rectangle.max_row
  pub min_column : IsLeast (map (λ extent. extent.min_column) extents) rectangle.min_column
  pub max_column : IsGreatest (map (λ extent. extent.max_column) extents) rectangle.max_column

-- its first place, and its last
abbrev pub first_corner : WorksheetDimension → Position
first_corner rectangle = record { row = rectangle.min_row; column = rectangle.min_column }

abbrev pub last_corner : WorksheetDimension → Position
last_corner rectangle = record { row = rectangle.max_row; column = rectangle.max_column }

-- its corners are places of a sheet
pub record IsRectangle (rectangle : WorksheetDimension) : Type 0 where
  pub first : IsPlace (first_corner rectangle)
  pub last : IsPlace (last_corner rectangle)

-- the first place of a sheet
abbrev pub first_place : WorksheetDimension
first_place = record { min_row = pos 1; max_row = pos 1; min_column = pos 1; max_column = pos 1 }
