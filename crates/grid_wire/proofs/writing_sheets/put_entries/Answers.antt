use Rattle.std.proofs.Common.{ℤ, List, subst}
use Rattle.std.specs.Prelude.{IfSome}
use Rattle.std.specs.FinMap.{FinMap, get}
use Rattle.std.specs.Ordering.{int_cmp}
use Rattle.base_values.specs.Places.{IsPlace, IsRow, IsColumn, position_cmp}
use Rattle.base_values.specs.declared.Position.{Position}
use Rattle.base_wire.specs.Encoding.{Any}
use Rattle.format_rules.specs.declared.ConditionalFormatting.{ConditionalFormatting}
use Rattle.grid_wire.specs.FormattingBytes.{FitsFormattings, AreKnownFormattings}
use Rattle.sheet_grid.specs.declared.Cell.{Cell}
use Rattle.sheet_grid.specs.declared.LineAttr.{LineAttr}
use Rattle.sheet_grid.specs.declared.Link.{Link}
use Rattle.grid_wire.specs.CellBytes.{FitsCell, IsKnownCell}
use Rattle.grid_wire.specs.LinkBytes.{FitsLink}
use Rattle.grid_wire.specs.MergeBytes.{FitsMerges}
use Rattle.base_wire.specs.MapBytes.{FitsMap}
use Rattle.base_wire.specs.laws.MapFits.{any_option}
use Rattle.grid_wire.specs.LineBytes.{FitsLine, IsKnownLine}
use Rattle.sheet_grid.specs.CanonicalCell.{CanonicalCells}
use Rattle.grid_wire.specs.laws.KnownLaws.{known_entry}
use Rattle.grid_wire.proofs.writing_sheets.put_entries.Goals as goal

pub returns-clause-fits : goal.returns-clause-fits
returns-clause-fits c = λ known. record {
  rows = subst (λ (m : FinMap int_cmp LineAttr). ((row : ℤ) → IfSome (get m row) IsKnownLine) → FitsMap IsRow FitsLine m) c.row_map.ensures c.in_ok-put_axis_map.ensures.fits known.rows;
  columns = subst (λ (m : FinMap int_cmp LineAttr). ((column : ℤ) → IfSome (get m column) IsKnownLine) → FitsMap IsColumn FitsLine m) c.column_map.ensures c.in_ok-put_axis_map-2.ensures.fits known.columns;
  cells = subst (λ (m : FinMap position_cmp Cell). ((place : Position) → IfSome (get m place) IsKnownCell) → FitsMap IsPlace FitsCell m) c.cell_map.ensures.map c.in_ok-put_place_map.ensures.fits
      (λ place. known_entry (get c.args.sheet.now.cells place) (subst CanonicalCells c.cell_map.ensures.map c.cell_map.ensures.canonical place) (known.cells place));
  links = subst (λ (m : FinMap position_cmp Link). ((place : Position) → IfSome (get m place) Any) → FitsMap IsPlace FitsLink m) c.link_map.ensures c.in_ok-put_place_map-2.ensures.fits (λ place. any_option _);
  merges = subst FitsMerges c.merge_list.ensures (c.in_ok-put.ensures.fits tt);
  formattings = subst (λ (rules : List ConditionalFormatting). AreKnownFormattings rules → FitsFormattings rules) c.conditional_formatting.ensures c.in_ok-put-2.ensures.fits known.formattings;
}
