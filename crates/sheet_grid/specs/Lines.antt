-- What rows and columns have of their own, in one type for both.
use Rattle.std.specs.Prelude.{◌≡◌, ◌≢◌, ℤ, pos, Bool, false, ◌&&◌, not, Option, Some, None, Result, Ok, Err, is_none, int_le, if◌then◌else◌}
use Rattle.std.specs.Option.{unwrap_or}
use Rattle.std.specs.Ordering.{int_cmp, int_eq}
use Rattle.std.specs.FinMap.{FinMap, get}
use Rattle.base_values.specs.declared.EditError.{EditError}
use Rattle.base_values.specs.declared.EditError.TheVariants.{NegativeSize}
use Rattle.base_values.specs.Answers.{map_ok, and_then}
use Rattle.base_values.specs.KeyMap.{with_entry}
use Rattle.base_values.specs.Places.{is_line, line_of}
use Rattle.base_styles.specs.declared.Style.{Style}
use Rattle.sheet_grid.specs.DefaultParts.{is_default}
use Rattle.sheet_grid.specs.declared.line_attr.LineAttr.{LineAttr}
use Rattle.sheet_grid.specs.declared.row_attr.RowAttr.{RowAttr}
use Rattle.sheet_grid.specs.declared.column_attr.ColumnAttr.{ColumnAttr}

-- the attributes of a row or of a column as those of a line, and back
abbrev pub line_of_row : RowAttr → LineAttr
line_of_row attr = record { size = attr.height; style = attr.style; hidden = attr.hidden }

abbrev pub row_of_line : LineAttr → RowAttr
row_of_line attr = record { height = attr.size; style = attr.style; hidden = attr.hidden }

abbrev pub line_of_column : ColumnAttr → LineAttr
line_of_column attr = record { size = attr.width; style = attr.style; hidden = attr.hidden }

abbrev pub column_of_line : LineAttr → ColumnAttr
column_of_line attr = record { width = attr.size; style = attr.style; hidden = attr.hidden }

-- a line that has nothing of its own: no size, no style, and it is shown
abbrev pub is_plain : LineAttr → Bool
is_plain attr = is_none attr.size && (is_none attr.style && not attr.hidden)

-- what a sheet keeps of a line's entry: a plain one counts as none
abbrev pub stored_line : Option LineAttr → Option LineAttr
stored_line None = None
stored_line (Some attr) = if is_plain attr then None else Some attr

-- what a line has that may have no entry
abbrev pub attr_of : Option LineAttr → LineAttr
attr_of None = record { size = None; style = None; hidden = false }
attr_of (Some attr) = attr

-- the style that a line has of its own
abbrev pub own_line_style : Option LineAttr → Option Style
own_line_style entry = (attr_of entry).style

-- ---- sizes and hiding

-- the height of a row and the width of a column that has none of its own
abbrev pub usual_height : ℤ
usual_height = pos 56

abbrev pub usual_width : ℤ
usual_width = pos 250

abbrev pub is_hidden : Option LineAttr → Bool
is_hidden entry = (attr_of entry).hidden

-- the size of a line, where this one is usual
abbrev pub actual_size : ℤ → Option LineAttr → ℤ
actual_size usual entry = unwrap_or (attr_of entry).size usual

-- the size that a line shows: 0 where it is hidden
abbrev pub shown_size : ℤ → Option LineAttr → ℤ
shown_size usual entry = if is_hidden entry then pos 0 else actual_size usual entry

-- a size, or the refusal of one below 0
unfoldable pub size_of : ℤ → Result ℤ EditError
size_of size = if int_le (pos 0) size then Ok size else Err NegativeSize

abbrev pub with_size : Option ℤ → LineAttr → LineAttr
with_size size attr = record attr { size = size }

abbrev pub with_hidden : Bool → LineAttr → LineAttr
with_hidden hidden attr = record attr { hidden = hidden }

-- the usual width is not a column's own
abbrev pub own_width : ℤ → Option ℤ
own_width width = if int_eq width usual_width then None else Some width

-- the change of a row to a height, which is its own also where it is the usual one
abbrev pub height_set : ℤ → Result (LineAttr → LineAttr) EditError
height_set height = map_ok (λ size. with_size (Some size)) (size_of height)

-- the change of a column to a width
abbrev pub width_set : ℤ → Result (LineAttr → LineAttr) EditError
width_set width = map_ok (λ size. with_size (own_width size)) (size_of width)

-- the change of a line to be hidden or shown
abbrev pub hidden_set : Bool → Result (LineAttr → LineAttr) EditError
hidden_set hidden = Ok (with_hidden hidden)

abbrev pub with_style : Option Style → LineAttr → LineAttr
with_style style attr = record attr { style = style }

-- the change of a line to have a style of its own, or none
abbrev pub style_set : Option Style → Result (LineAttr → LineAttr) EditError
style_set style = Ok (with_style style)

-- the default style is not a row's own; a column's it may be
unfoldable pub own_row_style : Style → Option Style
own_row_style style = if is_default style then None else Some style

-- the change of a row that is set to a style
abbrev pub row_style_set : Style → Result (LineAttr → LineAttr) EditError
row_style_set style = style_set (own_row_style style)

-- the lines of which one has what a change makes of its own; one left plain has no entry
abbrev pub with_change : FinMap int_cmp LineAttr → ℤ → (LineAttr → LineAttr) → FinMap int_cmp LineAttr
with_change lines line change = with_entry lines line (stored_line (Some (change (attr_of (get lines line)))))

-- a line that is outside is refused, and then the change may be
abbrev pub line_changed : ℤ → EditError → FinMap int_cmp LineAttr → ℤ → Result (LineAttr → LineAttr) EditError → Result (FinMap int_cmp LineAttr) EditError
line_changed last refusal lines line change = and_then (line_of last line refusal) (λ line. map_ok (with_change lines line) change)

-- every line but one has what it had
abbrev pub SameBut : ℤ → FinMap int_cmp LineAttr → FinMap int_cmp LineAttr → Type 0
SameBut line old new = (other : ℤ) → other ≢ line → get new other ≡ get old other

-- every line of an axis has this style, and otherwise what it had
abbrev pub AllStyled : ℤ → Style → FinMap int_cmp LineAttr → FinMap int_cmp LineAttr → Type 0
AllStyled last style old new = (line : ℤ) → get new line ≡ (if is_line last line then Some (with_style (Some style) (attr_of (get old line))) else get old line)
