-- The laws of the bytes of what line edits keep.
use Rattle.std.proofs.Common.{◌≤◌, ◌<◌, ◌^◌, length, refl, arith}
use Rattle.std.specs.Prelude.{FitsSigned, IfSome}
use Rattle.std.specs.Cmp.{int_cmp_total, nat_cmp_total}
use Rattle.std.specs.Int.{w32, w64, to_be_bytes}
use Rattle.std.specs.Ordering.{int_cmp, nat_cmp}
use Rattle.std.proofs.lemmas.Map.Lookups.{exact_signed, exact_unsigned}
use Rattle.base_values.specs.Places.{position_cmp}
use Rattle.base_values.specs.laws.Places.{position_total, exact_positions}
use Rattle.base_maps.specs.SheetPlaces.{sheet_place_cmp}
use Rattle.base_maps.specs.laws.SheetPlaces.{sheet_place_total, exact_sheet_places}
use Rattle.sheet_lines.specs.declared.KeptLines.{KeptLines}
use Rattle.base_wire.specs.Encoding.{encode_option, encode_signed}
use Rattle.base_wire.specs.laws.Format.{Format, option_format}
use Rattle.base_wire.specs.laws.Formats.{both_format, made_format}
use Rattle.base_wire.specs.laws.Parts.{long_format, signed_format}
use Rattle.formula_wire.specs.NodeBytes.{encode_node}
use Rattle.formula_wire.specs.Carried.{FitsNode}
use Rattle.formula_wire.specs.laws.NodeLaws.{node_format}
use Rattle.grid_wire.specs.CellBytes.{encode_position, FitsPosition, encode_cell, FitsCell}
use Rattle.grid_wire.specs.laws.CellFormats.{position_format, position_some, cell_format}
use Rattle.grid_wire.specs.LinkBytes.{encode_link, FitsLink}
use Rattle.grid_wire.specs.MergeBytes.{encode_merges, FitsMerges}
use Rattle.grid_wire.specs.laws.MergeLaws.{link_format, merges_format}
use Rattle.base_wire.specs.MapBytes.{encode_map, FitsMap}
use Rattle.grid_wire.specs.LineBytes.{encode_line, FitsLine}
use Rattle.sheet_wire.specs.PartBytes.{encode_sheet_place, FitsSheetPlace}
use Rattle.base_wire.specs.laws.MapLaws.{map_format}
use Rattle.grid_wire.specs.FormattingBytes.{encode_formatting, FitsFormatting}
use Rattle.grid_wire.specs.laws.FormattingLaws.{formatting_format}
use Rattle.grid_wire.specs.laws.LineLaws.{line_format}
use Rattle.sheet_wire.specs.laws.PartLaws.{sheet_place_format, sheet_place_some}
use Rattle.sheet_wire.specs.KeptBytes.{encode_kept, FitsKept}
use Rattle.sheet_wire.specs.laws.LinesReading.{cells_at, links_at, lines_at, formulas_at, kept_merges_at, kept_rules_at, kept_made, kept_at}

-- ---- maps

cells_format : Format (FitsMap {order = position_cmp} FitsPosition FitsCell) (encode_map encode_position encode_cell) cells_at
unfolding cells_at
cells_format = map_format position_total exact_positions position_format cell_format position_some (λ m. m) (λ m. m) (λ m. refl) (λ m. refl)

links_format : Format (FitsMap {order = position_cmp} FitsPosition FitsLink) (encode_map encode_position encode_link) links_at
unfolding links_at
links_format = map_format position_total exact_positions position_format link_format position_some (λ m. m) (λ m. m) (λ m. refl) (λ m. refl)

lines_format : Format (FitsMap {order = int_cmp} (FitsSigned w32) FitsLine) (encode_map (encode_signed w32) encode_line) lines_at
unfolding lines_at
lines_format = map_format int_cmp_total exact_signed signed_format line_format (λ line. omega arith) (λ m. m) (λ m. m) (λ m. refl) (λ m. refl)

pub formulas_format : Format (FitsMap {order = sheet_place_cmp} FitsSheetPlace FitsNode) (encode_map encode_sheet_place encode_node) formulas_at
unfolding formulas_at
formulas_format = map_format sheet_place_total exact_sheet_places sheet_place_format node_format sheet_place_some (λ m. m) (λ m. m) (λ m. refl) (λ m. refl)

kept_merges_format : Format (λ merges. IfSome merges FitsMerges) (encode_option encode_merges) kept_merges_at
unfolding kept_merges_at
kept_merges_format = option_format merges_format

kept_rules_format : Format (FitsMap {order = nat_cmp} (λ index. index < 2 ^ 64) FitsFormatting) (encode_map (to_be_bytes w64) encode_formatting) kept_rules_at
unfolding kept_rules_at
kept_rules_format = map_format nat_cmp_total exact_unsigned long_format formatting_format (λ index. omega arith) (λ m. m) (λ m. m) (λ m. refl) (λ m. refl)

-- ---- what line edits keep

-- what bytes can carry is read again from its encoding, what is read was encoded so, and all else is refused
pub kept_format : Format FitsKept encode_kept kept_at
unfolding kept_at encode_kept
kept_format =
    made_format (both_format cells_format (both_format links_format (both_format lines_format (both_format formulas_format (both_format kept_merges_format kept_rules_format)))))
    kept_made (λ kept. (kept.cells, (kept.links, (kept.lines, (kept.formulas, (kept.merges, kept.formattings))))))
    (λ kept fits. (refl, (fits.cells, (fits.links, (fits.lines, (fits.formulas, (fits.merges, fits.formattings)))))))
    (λ x fits. (refl, record { cells = fits.0; links = fits.1.0; lines = fits.1.1.0; formulas = fits.1.1.1.0; merges = fits.1.1.1.1.0; formattings = fits.1.1.1.1.1 }))

pub kept_some : (kept : KeptLines) → 1 ≤ length (encode_kept kept)
unfolding encode_kept
kept_some kept = omega arith
