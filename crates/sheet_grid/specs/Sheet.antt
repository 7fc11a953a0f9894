-- A sheet, as contracts see it.
use Rattle.std.proofs.Common.{ℕ, ℤ, pos, List, [], Option, Some, None, Result, Ok, Err, Bool, true}
use Rattle.std.specs.Prelude.{◌&&◌, int_le, if◌then◌else◌}
use Rattle.std.specs.Option.{option_map, option_or, unwrap_or}
use Rattle.std.specs.FinMap as fin
use Rattle.std.specs.FinMap.{FinMap}
use Rattle.std.specs.Ordering.{int_cmp}
use Rattle.base_values.specs.declared.EditError.{EditError}
use Rattle.base_values.specs.declared.EditError.TheVariants.{InvalidRow, InvalidColumn, FrozenCount}
use Rattle.base_values.specs.declared.Position.{Position}
use Rattle.base_values.specs.Answers.{map_ok}
use Rattle.base_values.specs.KeyMap.{with_entry}
use Rattle.base_values.specs.Places.{position_cmp, place_of, line_of}
use Rattle.base_axis.specs.declared.MergedCell.{MergedCell}
use Rattle.base_styles.specs.declared.Color.{Color}
use Rattle.base_styles.specs.declared.Color.TheVariants.{None as NoColor}
use Rattle.base_styles.specs.declared.Style.{Style}
use Rattle.base_styles.specs.DefaultStyle.{default_style}
use Rattle.format_rules.specs.declared.ConditionalFormatting.{ConditionalFormatting}
use Rattle.sheet_grid.specs.declared.state.SheetState.{SheetState}
use Rattle.sheet_grid.specs.declared.state.SheetState.TheVariants.{Visible}
use Rattle.cell_content.specs.declared.Content.{Content}
use Rattle.cell_content.specs.declared.Content.TheVariants.{Empty}
use Rattle.sheet_grid.specs.declared.cell.Cell.{Cell}
use Rattle.sheet_grid.specs.declared.link.Link.{Link}
use Rattle.sheet_grid.specs.declared.line_attr.LineAttr.{LineAttr}
use Rattle.sheet_grid.specs.declared.row_attr.RowAttr.{RowAttr}
use Rattle.sheet_grid.specs.declared.column_attr.ColumnAttr.{ColumnAttr}
use Rattle.sheet_grid.specs.declared.sheet_entries.SheetEntries.{SheetEntries}
use Rattle.sheet_grid.specs.Lines.{line_of_row, row_of_line, line_of_column, column_of_line, stored_line, own_line_style, line_changed}

pub record Sheet : Type 0 where
  pub id : ℕ
  pub name : List ℕ
  pub state : SheetState
  pub color : Color
  pub show_grid_lines : Bool
  pub frozen_rows : ℤ
  pub frozen_columns : ℤ
  pub cells : FinMap position_cmp Cell
  pub links : FinMap position_cmp Link
  pub rows : FinMap int_cmp LineAttr
  pub columns : FinMap int_cmp LineAttr
  pub merges : List MergedCell
  pub formattings : List ConditionalFormatting

-- a visible sheet with grid lines and nothing else
abbrev pub new_sheet : ℕ → List ℕ → Sheet
new_sheet id name = record {
  id = id;
  name = name;
  state = Visible;
  color = NoColor;
  show_grid_lines = true;
  frozen_rows = pos 0;
  frozen_columns = pos 0;
  cells = fin.empty;
  links = fin.empty;
  rows = fin.empty;
  columns = fin.empty;
  merges = [];
  formattings = [];
}

-- the sheet that holds these entries in place of its own
abbrev pub with_entries : Sheet → SheetEntries → Sheet
with_entries sheet entries = record sheet {
  cells = entries.cells;
  links = entries.links;
  rows = entries.rows;
  columns = entries.columns;
  merges = entries.merges;
  formattings = entries.formattings;
}

-- cells, and nothing else
abbrev pub only_cells : FinMap position_cmp Cell → SheetEntries
only_cells cells = record { cells = cells; links = fin.empty; rows = fin.empty; columns = fin.empty; merges = []; formattings = [] }

-- a count of lines that is at most this
abbrev pub is_count : ℤ → ℤ → Bool
is_count most count = int_le (pos 0) count && int_le count most

-- a count of lines that stay in sight, or the refusal of one below 0 or above the most that may
unfoldable pub frozen_count : ℤ → ℤ → Result ℤ EditError
frozen_count most count = if is_count most count then Ok count else Err FrozenCount

-- so many rows stay in sight, fewer than the sheet has
abbrev pub rows_frozen : Sheet → ℤ → Result Sheet EditError
rows_frozen sheet count = map_ok (λ rows. record sheet { frozen_rows = rows }) (frozen_count (pos 1048575) count)

-- so many columns do
abbrev pub columns_frozen : Sheet → ℤ → Result Sheet EditError
columns_frozen sheet count = map_ok (λ columns. record sheet { frozen_columns = columns }) (frozen_count (pos 16383) count)

-- the cell at a row and a column, or the first of them that is outside
abbrev pub cell_at : Sheet → ℤ → ℤ → Result (Option Cell) EditError
cell_at sheet row column = map_ok (λ place. fin.get sheet.cells place) (place_of row column)

-- the sheet with this cell at a place, or with none
abbrev pub with_cell : Sheet → Position → Option Cell → Sheet
with_cell sheet place entry = record sheet { cells = with_entry sheet.cells place entry }

-- that cell is put, or the first of row and column that is outside is refused
abbrev pub cell_put : Sheet → ℤ → ℤ → Option Cell → Result Sheet EditError
cell_put sheet row column entry = map_ok (λ place. with_cell sheet place entry) (place_of row column)

abbrev pub content_put : Sheet → ℤ → ℤ → Content → Style → Result Sheet EditError
content_put sheet row column content style = cell_put sheet row column (Some (record { content = content; style = style }))

-- the style of a cell
abbrev pub cell_style : Option Cell → Option Style
cell_style None = None
cell_style (Some cell) = Some cell.style

-- the style of the row of a place, else of its column
abbrev pub line_style : Sheet → Position → Option Style
line_style sheet place = option_or (own_line_style (fin.get sheet.rows place.row)) (own_line_style (fin.get sheet.columns place.column))

-- the style of the cell of a place, else of its row, else of its column
abbrev pub own_style : Sheet → Position → Option Style
own_style sheet place = option_or (cell_style (fin.get sheet.cells place)) (line_style sheet place)

-- the style that a place shows: that one, else the default
abbrev pub shown_style : Sheet → Position → Style
shown_style sheet place = unwrap_or (own_style sheet place) default_style

-- the style that the place at a row and a column shows
abbrev pub style_at : Sheet → ℤ → ℤ → Result Style EditError
style_at sheet row column = map_ok (shown_style sheet) (place_of row column)

-- the content that a place holds
abbrev pub content_of : Option Cell → Content
content_of None = Empty
content_of (Some cell) = cell.content

-- the cell of a place has this style; a place without a cell gets an empty one
abbrev pub cell_styled : Sheet → ℤ → ℤ → Style → Result Sheet EditError
cell_styled sheet row column style =
    map_ok (λ place. with_cell sheet place (Some (record { content = content_of (fin.get sheet.cells place); style = style }))) (place_of row column)

-- the content of a place goes, and the style that it shows stays
abbrev pub content_cleared : Sheet → ℤ → ℤ → Result Sheet EditError
content_cleared sheet row column =
    map_ok (λ place. with_cell sheet place (Some (record { content = Empty; style = shown_style sheet place }))) (place_of row column)

-- the link at a row and a column, or the first of them that is outside
abbrev pub link_at : Sheet → ℤ → ℤ → Result (Option Link) EditError
link_at sheet row column = map_ok (λ place. fin.get sheet.links place) (place_of row column)

-- that link is put, or the first of row and column that is outside is refused
abbrev pub link_put : Sheet → ℤ → ℤ → Option Link → Result Sheet EditError
link_put sheet row column entry = map_ok (λ place. record sheet { links = with_entry sheet.links place entry }) (place_of row column)

-- what is asked of the entry of a row, or of a column
abbrev pub of_row : {T : Type 0} → (Option LineAttr → T) → Sheet → ℤ → Result T EditError
of_row asked sheet row = map_ok (λ line. asked (fin.get sheet.rows line)) (line_of (pos 1048576) row InvalidRow)

abbrev pub of_column : {T : Type 0} → (Option LineAttr → T) → Sheet → ℤ → Result T EditError
of_column asked sheet column = map_ok (λ line. asked (fin.get sheet.columns line)) (line_of (pos 16384) column InvalidColumn)

-- what a row has of its own
abbrev pub row_at : Sheet → ℤ → Result (Option RowAttr) EditError
row_at = of_row (option_map row_of_line)

-- a row has this of its own, and a plain entry counts as none
abbrev pub row_put : Sheet → ℤ → Option RowAttr → Result Sheet EditError
row_put sheet row entry = map_ok (λ line. record sheet { rows = with_entry sheet.rows line (stored_line (option_map line_of_row entry)) }) (line_of (pos 1048576) row InvalidRow)

-- what a column has of its own
abbrev pub column_at : Sheet → ℤ → Result (Option ColumnAttr) EditError
column_at = of_column (option_map column_of_line)

-- a column has this of its own, and a plain entry counts as none
abbrev pub column_put : Sheet → ℤ → Option ColumnAttr → Result Sheet EditError
column_put sheet column entry = map_ok (λ line. record sheet { columns = with_entry sheet.columns line (stored_line (option_map line_of_column entry)) }) (line_of (pos 16384) column InvalidColumn)

-- what a row has of its own is changed
abbrev pub row_changed : Sheet → ℤ → Result (LineAttr → LineAttr) EditError → Result Sheet EditError
row_changed sheet row change = map_ok (λ rows. record sheet { rows = rows }) (line_changed (pos 1048576) InvalidRow sheet.rows row change)

-- what a column has is
abbrev pub column_changed : Sheet → ℤ → Result (LineAttr → LineAttr) EditError → Result Sheet EditError
column_changed sheet column change = map_ok (λ columns. record sheet { columns = columns }) (line_changed (pos 16384) InvalidColumn sheet.columns column change)
