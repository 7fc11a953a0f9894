-- Ranges of places whose styles are changed or taken away, and the places and lines that they touch.
use Rattle.std.proofs.Common.{ℤ, pos, Bool, true, false, ◌&&◌, Option}
use Rattle.std.specs.Prelude.{◌||◌, is_some, not, if◌then◌else◌}
use Rattle.std.specs.Ordering.{int_cmp, int_eq}
use Rattle.std.specs.FinMap.{FinMap, get}
use Rattle.base_values.specs.declared.Position.{Position}
use Rattle.base_axis.specs.declared.MergedCell.{MergedCell}
use Rattle.base_axis.specs.Along.{Along}
use Rattle.base_axis.specs.Rectangles.{holds, is_between, first_line, last_line}
use Rattle.sheet_grid.specs.declared.LineAttr.{LineAttr}
use Rattle.sheet_grid.specs.Lines.{own_line_style}
use Rattle.sheet_grid.specs.Sheet.{Sheet, shown_style}
use Rattle.sheet_grid.specs.DefaultParts.{is_default}
use Rattle.range_styles.specs.declared.range.AreaKind.{AreaKind}
use Rattle.range_styles.specs.declared.range.AreaKind.TheVariants.{FullColumns, FullRows, OtherPlaces}
use Rattle.range_styles.specs.declared.range.StyleRange.{StyleRange}

-- an area that begins at row 1 and has all rows is one of full columns; any other one that begins at column 1 and has all columns is one of
-- full rows
abbrev pub kind_of : MergedCell → AreaKind
kind_of r =
    if int_eq r.row (pos 1) && int_eq r.height (pos 1048576) then FullColumns
    else if int_eq r.column (pos 1) && int_eq r.width (pos 16384) then FullRows
    else OtherPlaces

-- what a line has of its own has a style
abbrev pub has_own_style : LineAttr → Bool
has_own_style attr = is_some attr.style

-- a line has a style of its own
abbrev pub has_style : Option LineAttr → Bool
has_style entry = is_some (own_line_style entry)

abbrev pub has_cell : Sheet → Position → Bool
has_cell sheet place = is_some (get sheet.cells place)

-- the places of full columns whose cells get another style: those that have a cell, and those whose row has a style; of full rows those that
-- have a cell, and those whose column has a style; of other areas all
abbrev pub is_set : AreaKind → Sheet → Position → Bool
is_set FullColumns sheet place = has_cell sheet place || has_style (get sheet.rows place.row)
is_set FullRows sheet place = has_cell sheet place || has_style (get sheet.columns place.column)
is_set OtherPlaces sheet place = true

-- the places whose cells get the default style where styles are taken away: of full columns the same; of full rows those that have a cell; of
-- other areas those that have a cell, and those that show another style
abbrev pub is_cleared : AreaKind → Sheet → Position → Bool
is_cleared FullColumns sheet place = has_cell sheet place || has_style (get sheet.rows place.row)
is_cleared FullRows sheet place = has_cell sheet place
is_cleared OtherPlaces sheet place = has_cell sheet place || not (is_default (shown_style sheet place))

-- a place of a range whose cell gets another style
abbrev pub touches : StyleRange → Sheet → Position → Bool
touches range sheet place = holds range.area place && (if range.clears then is_cleared range.kind sheet place else is_set range.kind sheet place)

-- ---- lines

abbrev pub is_full_rows : AreaKind → Bool
is_full_rows FullRows = true
is_full_rows kind = false

abbrev pub is_full_columns : AreaKind → Bool
is_full_columns FullColumns = true
is_full_columns kind = false

-- the lines of an axis that a range consists of: the columns of full columns, or the rows of full rows
abbrev pub is_among : Along → StyleRange → ℤ → Bool
is_among a range line =
    a.of (is_full_rows range.kind) (is_full_columns range.kind) && is_between (first_line a range.area) (last_line a range.area) line

-- each of them gets another style; where styles are taken away, each that has one
abbrev pub touches_line : Along → StyleRange → FinMap int_cmp LineAttr → ℤ → Bool
touches_line a range lines line = is_among a range line && (not range.clears || has_style (get lines line))
