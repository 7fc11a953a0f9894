-- The bytes of what line edits keep of a workbook.
use Rattle.std.specs.Prelude.{◌≡◌, ℤ, false, List, ◌++◌, ℕ, ◌<◌, ◌^◌, IfSome, FitsSigned}
use Rattle.std.specs.Int.{w32, w64, to_be_bytes}
use Rattle.std.specs.FinMap.{get}
use Rattle.base_values.specs.declared.Position.{Position}
use Rattle.base_maps.specs.declared.SheetPlace.{SheetPlace}
use Rattle.sheet_grid.specs.Lines.{is_plain}
use Rattle.sheet_lines.specs.declared.KeptLines.{KeptLines}
use Rattle.base_wire.specs.Encoding.{encode_signed, encode_option}
use Rattle.formula_wire.specs.NodeBytes.{encode_node}
use Rattle.formula_wire.specs.Carried.{FitsNode, IsKnownNode}
use Rattle.grid_wire.specs.CellBytes.{encode_position, FitsPosition, encode_cell, FitsCell, IsKnownCell}
use Rattle.grid_wire.specs.LinkBytes.{encode_link, FitsLink}
use Rattle.grid_wire.specs.MergeBytes.{encode_merges, FitsMerges}
use Rattle.base_wire.specs.MapBytes.{encode_map, FitsMap}
use Rattle.grid_wire.specs.FormattingBytes.{encode_formatting, FitsFormatting, IsKnownFormatting}
use Rattle.grid_wire.specs.LineBytes.{encode_line, FitsLine}
use Rattle.sheet_wire.specs.PartBytes.{encode_sheet_place, FitsSheetPlace}

-- ---- what line edits keep

-- cells, links, lines, the trees of formulas, merges and conditional rules
unfoldable pub encode_kept : KeptLines → List ℕ
encode_kept kept =
    encode_map encode_position encode_cell kept.cells ++ (encode_map encode_position encode_link kept.links
    ++ (encode_map (encode_signed w32) encode_line kept.lines ++ (encode_map encode_sheet_place encode_node kept.formulas
    ++ (encode_option encode_merges kept.merges ++ encode_map (to_be_bytes w64) encode_formatting kept.formattings))))

-- what line edits keep, as bytes can carry it
pub record FitsKept (kept : KeptLines) : Type 0 where
  pub cells : FitsMap FitsPosition FitsCell kept.cells
  pub links : FitsMap FitsPosition FitsLink kept.links
  pub lines : FitsMap (FitsSigned w32) FitsLine kept.lines
  pub formulas : FitsMap FitsSheetPlace FitsNode kept.formulas
  pub merges : IfSome kept.merges FitsMerges
  pub formattings : FitsMap (λ index. index < 2 ^ 64) FitsFormatting kept.formattings

-- what writing asks: numbers are canonical, trees are at most 64 deep, and each line has something of its own
pub record IsKnownKept (kept : KeptLines) : Type 0 where
  pub cells : (place : Position) → IfSome (get kept.cells place) IsKnownCell
  pub lines : (line : ℤ) → IfSome (get kept.lines line) (λ attr. is_plain attr ≡ false)
  pub formulas : (place : SheetPlace) → IfSome (get kept.formulas place) IsKnownNode
  pub formattings : (index : ℕ) → IfSome (get kept.formattings index) IsKnownFormatting
