-- The laws of the bytes of whole sheets.
use Rattle.std.proofs.Common.{◌≡◌, ◌≤◌, length, ap, refl, arith, rules}
use Rattle.std.specs.Int.{w32}
use Rattle.std.specs.Ordering.{int_cmp}
use Rattle.base_values.specs.Places.{IsPlace, IsRow, IsColumn, position_cmp}
use Rattle.sheet_grid.specs.Sheet.{Sheet}
use Rattle.base_wire.specs.Encoding.{encode_signed}
use Rattle.base_wire.specs.laws.Format.{Format}
use Rattle.base_wire.specs.laws.Formats.{both_format, made_format}
use Rattle.base_wire.specs.laws.Parts.{boolean_format, short_format, signed_format, text_format}
use Rattle.base_wire.specs.MapBytes.{encode_map, FitsMap}
use Rattle.grid_wire.specs.CellBytes.{encode_position, encode_cell, FitsCell}
use Rattle.grid_wire.specs.LinkBytes.{encode_link, FitsLink}
use Rattle.grid_wire.specs.laws.CellFormats.{color_format, cell_format}
use Rattle.grid_wire.specs.laws.MergeLaws.{link_format, merges_format}
use Rattle.grid_wire.specs.laws.FormattingLaws.{formattings_format}
use Rattle.grid_wire.specs.LineBytes.{encode_line, FitsLine}
use Rattle.grid_wire.specs.SheetBytes.{encode_fields, FitsFields, encode_entries, encode_sheet, FitsSheet}
use Rattle.grid_wire.specs.laws.Reading.{Fields, bare_sheet, fields_at, rows_at, columns_at, cells_at, links_at, sheet_made, sheet_at}
use Rattle.grid_wire.specs.laws.StateLaws.{state_format}
use Rattle.grid_wire.specs.laws.KeyLaws.{axis_map_format, place_map_format}
use Rattle.grid_wire.specs.laws.LineLaws.{line_format}

-- ---- its fields

-- the fields of a sheet
abbrev pub fields_of : Sheet → Fields
fields_of sheet = (sheet.id, (sheet.name, (sheet.state, (sheet.color, (sheet.show_grid_lines, (sheet.frozen_rows, sheet.frozen_columns))))))

-- the sheet without all but its fields
abbrev pub bared : Sheet → Sheet
bared sheet = bare_sheet (fields_of sheet)

-- a sheet that has fields which bytes can carry, and nothing else
abbrev FitsBare : Sheet → Type 0
FitsBare sheet = FitsFields sheet × (bared sheet ≡ sheet)

fields_format : Format FitsBare encode_fields fields_at
unfolding encode_fields fields_at
fields_format =
    made_format (both_format short_format (both_format text_format (both_format state_format (both_format color_format (both_format boolean_format (both_format signed_format signed_format))))))
    bare_sheet fields_of
    (λ sheet fits. (fits.1, (fits.0.id, (fits.0.name, (tt, (fits.0.color, (tt, (fits.0.frozen_rows, fits.0.frozen_columns))))))))
    (λ x fits. (refl, (record { id = fits.0; name = fits.1.0; color = fits.1.1.1.0; frozen_rows = fits.1.1.1.1.1.0; frozen_columns = fits.1.1.1.1.1.1 }, refl)))

-- ---- what stands in it

rows_format : Format (FitsMap {order = int_cmp} IsRow FitsLine) (encode_map (encode_signed w32) encode_line) rows_at
unfolding rows_at
rows_format = axis_map_format _ (search rules) line_format

columns_format : Format (FitsMap {order = int_cmp} IsColumn FitsLine) (encode_map (encode_signed w32) encode_line) columns_at
unfolding columns_at
columns_format = axis_map_format _ (search rules) line_format

pub cells_format : Format (FitsMap {order = position_cmp} IsPlace FitsCell) (encode_map encode_position encode_cell) cells_at
unfolding cells_at
cells_format = place_map_format cell_format

links_format : Format (FitsMap {order = position_cmp} IsPlace FitsLink) (encode_map encode_position encode_link) links_at
unfolding links_at
links_format = place_map_format link_format

-- ---- whole sheets

-- what bytes can carry is read again from its encoding, what is read was encoded so, and all else is refused
pub sheet_format : Format FitsSheet encode_sheet sheet_at
unfolding encode_fields encode_entries encode_sheet sheet_at
sheet_format =
    made_format (both_format fields_format (both_format rows_format (both_format columns_format (both_format cells_format (both_format links_format (both_format merges_format formattings_format))))))
    sheet_made (λ sheet. (bared sheet, (sheet.rows, (sheet.columns, (sheet.cells, (sheet.links, (sheet.merges, sheet.formattings)))))))
    (λ sheet fits. (refl, ((record { id = fits.fields.id; name = fits.fields.name; color = fits.fields.color; frozen_rows = fits.fields.frozen_rows; frozen_columns = fits.fields.frozen_columns }, refl), (fits.entries.rows, (fits.entries.columns, (fits.entries.cells, (fits.entries.links, (fits.entries.merges, fits.entries.formattings))))))))
    (λ x fits. (
      ap (λ (s : Sheet). (s, x.1)) fits.0.1,
      record {
        fields = record { id = fits.0.0.id; name = fits.0.0.name; color = fits.0.0.color; frozen_rows = fits.0.0.frozen_rows; frozen_columns = fits.0.0.frozen_columns };
        entries = record { rows = fits.1.0; columns = fits.1.1.0; cells = fits.1.1.1.0; links = fits.1.1.1.1.0; merges = fits.1.1.1.1.1.0; formattings = fits.1.1.1.1.1.1 };
      },
    ))

pub sheet_some : (sheet : Sheet) → 1 ≤ length (encode_sheet sheet)
unfolding encode_fields encode_sheet
sheet_some sheet = omega arith
