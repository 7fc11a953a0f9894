-- The bytes of places of a workbook, and of indexes of lists of its sheets.
use Rattle.std.specs.Prelude.{ℕ, ◌<◌, ◌^◌, List, ◌++◌}
use Rattle.std.specs.Int.{w32, w64, to_be_bytes}
use Rattle.base_maps.specs.declared.SheetPlace.{SheetPlace}
use Rattle.base_maps.specs.declared.SheetIndex.{SheetIndex}
use Rattle.grid_wire.specs.CellBytes.{encode_position, FitsPosition}

-- the id of a sheet, and a position
abbrev pub encode_sheet_place : SheetPlace → List ℕ
encode_sheet_place place = to_be_bytes w32 place.sheet ++ encode_position place.place

pub record FitsSheetPlace (at : SheetPlace) : Type 0 where
  pub sheet : at.sheet < 2 ^ 32
  pub place : FitsPosition at.place

-- the id of a sheet, and an index
abbrev pub encode_sheet_index : SheetIndex → List ℕ
encode_sheet_index at = to_be_bytes w32 at.sheet ++ to_be_bytes w64 at.index

pub record FitsSheetIndex (at : SheetIndex) : Type 0 where
  pub sheet : at.sheet < 2 ^ 32
  pub index : at.index < 2 ^ 64
