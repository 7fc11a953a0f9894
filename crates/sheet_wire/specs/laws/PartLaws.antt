-- The laws of the bytes of places of a workbook, and of indexes of lists of its sheets.
use Rattle.std.proofs.Common.{◌≤◌, length, refl, arith}
use Rattle.base_maps.specs.declared.SheetPlace.{SheetPlace}
use Rattle.base_maps.specs.declared.SheetIndex.{SheetIndex}
use Rattle.base_wire.specs.laws.Format.{Format}
use Rattle.base_wire.specs.laws.Formats.{both_format, made_format}
use Rattle.base_wire.specs.laws.Parts.{long_format, short_format}
use Rattle.grid_wire.specs.laws.CellFormats.{position_format}
use Rattle.sheet_wire.specs.PartBytes.{encode_sheet_place, FitsSheetPlace, encode_sheet_index, FitsSheetIndex}
use Rattle.sheet_wire.specs.laws.LinesReading.{sheet_place_made, sheet_place_at, sheet_index_made, sheet_index_at}

pub sheet_place_format : Format FitsSheetPlace encode_sheet_place sheet_place_at
unfolding sheet_place_at
sheet_place_format =
    made_format (both_format short_format position_format) sheet_place_made (λ at. (at.sheet, at.place))
    (λ at fits. (refl, (fits.sheet, fits.place))) (λ x fits. (refl, record { sheet = fits.0; place = fits.1 }))

pub sheet_place_some : (at : SheetPlace) → 1 ≤ length (encode_sheet_place at)
sheet_place_some at = omega arith

pub sheet_index_format : Format FitsSheetIndex encode_sheet_index sheet_index_at
unfolding sheet_index_at
sheet_index_format =
    made_format (both_format short_format long_format) sheet_index_made (λ at. (at.sheet, at.index))
    (λ at fits. (refl, (fits.sheet, fits.index))) (λ x fits. (refl, record { sheet = fits.0; index = fits.1 }))

pub sheet_index_some : (at : SheetIndex) → 1 ≤ length (encode_sheet_index at)
sheet_index_some at = omega arith
