-- What a change of styles makes of the places and lines of a range, and when it is refused.
use Rattle.std.proofs.Common.{ℤ, pos, Bool, true, false, ◌&&◌, Option, Some, None, Result, Ok, Err}
use Rattle.std.specs.Prelude.{◌||◌, not, unsigned_abs, if◌then◌else◌}
use Rattle.std.specs.List.{list_all}
use Rattle.std.specs.Option.{unwrap_or}
use Rattle.std.specs.Ordering.{int_cmp}
use Rattle.std.specs.FinMap.{FinMap, empty, get}
use Rattle.base_values.specs.declared.EditError.{EditError}
use Rattle.base_values.specs.declared.Position.{Position}
use Rattle.base_axis.specs.Along.{Along, rows, columns}
use Rattle.base_axis.specs.Rectangles.{first_line, line_count}
use Rattle.base_styles.specs.declared.Style.{Style}
use Rattle.base_styles.specs.DefaultStyle.{default_style}
use Rattle.sheet_grid.specs.declared.Cell.{Cell}
use Rattle.sheet_grid.specs.declared.LineAttr.{LineAttr}
use Rattle.sheet_grid.specs.Lines.{attr_of, stored_line, own_line_style, with_style}
use Rattle.sheet_grid.specs.Sheet.{Sheet, shown_style, content_of}
use Rattle.sheet_grid.specs.DefaultParts.{is_default}
use Rattle.range_styles.specs.declared.plan.SheetPlan.{SheetPlan}
use Rattle.range_styles.specs.declared.range.StyleRange.{StyleRange}
use Rattle.planned_maps.specs.Planned.{lines_from, planned_lines, planned_places, places_of}
use Rattle.range_styles.specs.StyleRanges.{touches, touches_line}

-- what a change makes of the style that a place shows, and whether it takes that style
abbrev pub StyleAt : Type 0
StyleAt = Position → Style → Style

abbrev pub Accepts : Type 0
Accepts = Position → Style → Bool

-- ---- cells

-- a cell with another style; a place without a cell gets one without a content
abbrev pub styled_cell : Option Cell → Style → Cell
styled_cell entry style = record { content = content_of entry; style = style }

-- what a place of a range gets: a cell with what the change makes of the style that the place shows
abbrev pub place_styled : StyleRange → StyleAt → Sheet → Position → Option (Option Cell)
place_styled range restyle sheet place =
    if touches range sheet place then Some (Some (styled_cell (get sheet.cells place) (restyle place (shown_style sheet place)))) else None

-- ---- lines

-- the place that stands for a line: the first of it
abbrev pub line_place : Along → ℤ → Position
line_place a line = a.with_line (record { row = pos 1; column = pos 1 }) line

-- the style of a line, or the default one
abbrev pub line_style : Option LineAttr → Style
line_style entry = unwrap_or (own_line_style entry) default_style

-- the style that a line has of its own then: rows do not have the default one, and columns may
abbrev pub stored_style : Along → Style → Option Style
stored_style a style = if a.of true false && is_default style then None else Some style

-- what the change makes of the style of a line; none where styles are taken away
abbrev pub line_style_made : Along → StyleRange → StyleAt → ℤ → Option LineAttr → Option Style
line_style_made a range restyle line entry = if range.clears then None else stored_style a (restyle (line_place a line) (line_style entry))

-- what a line has then; one that is left with nothing has no entry
abbrev pub attr_styled : Along → StyleRange → StyleAt → ℤ → Option LineAttr → Option LineAttr
attr_styled a range restyle line entry = stored_line (Some (with_style (line_style_made a range restyle line entry) (attr_of entry)))

abbrev pub line_styled : Along → StyleRange → StyleAt → FinMap int_cmp LineAttr → ℤ → Option (Option LineAttr)
line_styled a range restyle lines line = if touches_line a range lines line then Some (attr_styled a range restyle line (get lines line)) else None

abbrev pub lines_styled : Along → StyleRange → StyleAt → FinMap int_cmp LineAttr → FinMap int_cmp (Option LineAttr)
lines_styled a range restyle lines = planned_lines (line_styled a range restyle lines) (first_line a range.area) (unsigned_abs (line_count a range.area))

-- ---- the whole change

-- the plan of a change of the styles of a range
abbrev pub style_plan : StyleRange → StyleAt → Sheet → SheetPlan
style_plan range restyle sheet = record {
  cells = planned_places (place_styled range restyle sheet) range.area;
  links = empty;
  columns = lines_styled columns range restyle sheet.columns;
  rows = lines_styled rows range restyle sheet.rows;
}

-- the change takes the style of a place, if the place is touched
abbrev pub place_accepts : StyleRange → Accepts → Sheet → Position → Bool
place_accepts range accepts sheet place = not (touches range sheet place) || accepts place (shown_style sheet place)

-- and that of a line; where styles are taken away each is
abbrev pub line_accepts : Along → StyleRange → Accepts → FinMap int_cmp LineAttr → ℤ → Bool
line_accepts a range accepts lines line =
    not (touches_line a range lines line) || (range.clears || accepts (line_place a line) (line_style (get lines line)))

abbrev pub lines_accept : Along → StyleRange → Accepts → FinMap int_cmp LineAttr → Bool
lines_accept a range accepts lines =
    list_all (line_accepts a range accepts lines) (lines_from (first_line a range.area) (unsigned_abs (line_count a range.area)))

-- the change takes the style of each place and line of a range that it touches
unfoldable pub all_accept : StyleRange → Accepts → Sheet → Bool
all_accept range accepts sheet =
    list_all (place_accepts range accepts sheet) (places_of range.area)
    && lines_accept columns range accepts sheet.columns && lines_accept rows range accepts sheet.rows

-- the plan, or the refusal where one of the styles is not taken
unfoldable pub planned_styles : StyleRange → StyleAt → Accepts → EditError → Sheet → Result SheetPlan EditError
planned_styles range restyle accepts refusal sheet = if all_accept range accepts sheet then Ok (style_plan range restyle sheet) else Err refusal
