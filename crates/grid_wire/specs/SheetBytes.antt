-- The bytes of whole sheets.
use Rattle.std.specs.Prelude.{ℕ, ℤ, ◌<◌, ◌^◌, List, ◌++◌, IfSome, IsTrue, FitsSigned}
use Rattle.std.specs.FinMap.{get}
use Rattle.std.specs.Int.{w32, to_be_bytes}
use Rattle.base_values.specs.declared.Position.{Position}
use Rattle.base_values.specs.Places.{IsPlace, IsRow, IsColumn}
use Rattle.sheet_grid.specs.Sheet.{Sheet}
use Rattle.sheet_grid.specs.laws.FittingCells.{is_shallow_entry}
use Rattle.base_wire.specs.Encoding.{encode_signed, encode_code, boolean_code, encode_text, FitsText}
use Rattle.base_wire.specs.MapBytes.{encode_map, FitsMap}
use Rattle.grid_wire.specs.StyleBytes.{encode_color, FitsColor}
use Rattle.grid_wire.specs.CellBytes.{encode_position, encode_cell, FitsCell}
use Rattle.grid_wire.specs.LinkBytes.{encode_link, FitsLink}
use Rattle.grid_wire.specs.MergeBytes.{encode_merges, FitsMerges}
use Rattle.grid_wire.specs.FormattingBytes.{encode_formattings, FitsFormattings, AreKnownFormattings}
use Rattle.grid_wire.specs.StateBytes.{state_code}
use Rattle.grid_wire.specs.LineBytes.{encode_line, FitsLine, IsKnownLine}

-- ---- its fields

-- the id, the name, the state, the colour, whether grid lines are drawn, and how many rows and columns are frozen
unfoldable pub encode_fields : Sheet → List ℕ
encode_fields sheet =
    to_be_bytes w32 sheet.id ++ (encode_text sheet.name ++ (encode_code state_code sheet.state ++ (encode_color sheet.color
    ++ (encode_code boolean_code sheet.show_grid_lines ++ (encode_signed w32 sheet.frozen_rows ++ encode_signed w32 sheet.frozen_columns)))))

-- an id of 32 bits, a text of Rust, a colour that bytes can carry, and counts of 32 bits
pub record FitsFields (sheet : Sheet) : Type 0 where
  pub id : sheet.id < 2 ^ 32
  pub name : FitsText sheet.name
  pub color : FitsColor sheet.color
  pub frozen_rows : FitsSigned w32 sheet.frozen_rows
  pub frozen_columns : FitsSigned w32 sheet.frozen_columns

-- ---- what stands in it

-- rows, columns, cells, links, merges and conditional rules
unfoldable pub encode_entries : Sheet → List ℕ
encode_entries sheet =
    encode_map (encode_signed w32) encode_line sheet.rows ++ (encode_map (encode_signed w32) encode_line sheet.columns
    ++ (encode_map encode_position encode_cell sheet.cells ++ (encode_map encode_position encode_link sheet.links
    ++ (encode_merges sheet.merges ++ encode_formattings sheet.formattings))))

-- maps with keys inside, merges and conditional rules, which bytes can carry
pub record FitsEntries (sheet : Sheet) : Type 0 where
  pub rows : FitsMap IsRow FitsLine sheet.rows
  pub columns : FitsMap IsColumn FitsLine sheet.columns
  pub cells : FitsMap IsPlace FitsCell sheet.cells
  pub links : FitsMap IsPlace FitsLink sheet.links
  pub merges : FitsMerges sheet.merges
  pub formattings : FitsFormattings sheet.formattings

-- ---- whole sheets

-- the fields, and what stands in it
unfoldable pub encode_sheet : Sheet → List ℕ
encode_sheet sheet = encode_fields sheet ++ encode_entries sheet

-- a sheet whose parts bytes can carry
pub record FitsSheet (sheet : Sheet) : Type 0 where
  pub fields : FitsFields sheet
  pub entries : FitsEntries sheet

-- what writing asks of a sheet, whose numbers are canonical: formulas are at most 64 deep, and each line has something of its own
pub record IsKnownSheet (sheet : Sheet) : Type 0 where
  pub rows : (row : ℤ) → IfSome (get sheet.rows row) IsKnownLine
  pub columns : (column : ℤ) → IfSome (get sheet.columns column) IsKnownLine
  pub cells : (place : Position) → IsTrue (is_shallow_entry (get sheet.cells place))
  pub formattings : AreKnownFormattings sheet.formattings
