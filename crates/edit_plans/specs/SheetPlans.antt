-- Plans of edits of a sheet that are carried out, and the records of the changes.
use Rattle.std.proofs.Common.{ℕ, ℤ, List, ◌++◌, Option}
use Rattle.std.specs.List.{flat_map}
use Rattle.std.specs.Ordering.{int_cmp}
use Rattle.std.specs.FinMap.{FinMap, entries, get}
use Rattle.base_values.specs.declared.Position.{Position}
use Rattle.base_values.specs.Places.{position_cmp}
use Rattle.planned_maps.specs.Planned.{carried_out}
use Rattle.sheet_grid.specs.declared.Cell.{Cell}
use Rattle.sheet_grid.specs.declared.LineAttr.{LineAttr}
use Rattle.sheet_grid.specs.declared.Link.{Link}
use Rattle.sheet_grid.specs.Sheet.{Sheet}
use Rattle.range_styles.specs.declared.SheetPlan.{SheetPlan}
use Rattle.sheet_history.specs.declared.Diff.{Diff}
use Rattle.sheet_history.specs.declared.LineAxis.{LineAxis}
use Rattle.sheet_history.specs.declared.LineAxis.TheVariants.{Rows, Columns}
use Rattle.sheet_history.specs.Entries.EntryKey.{CellKey, LinkKey}
use Rattle.sheet_history.specs.Entries.EntryValue.{CellValue, LinkValue}
use Rattle.sheet_history.specs.Records.{entry_record}
use Rattle.edit_plans.specs.LineRecords.{attr_record}

-- the sheet where a plan is carried out: what it names gets what is planned, and all else stays
abbrev pub with_plan : SheetPlan → Sheet → Sheet
with_plan plan sheet =
    record sheet {
      cells = carried_out plan.cells sheet.cells;
      links = carried_out plan.links sheet.links;
      columns = carried_out plan.columns sheet.columns;
      rows = carried_out plan.rows sheet.rows;
    }

-- the change of a planned cell, or nothing where it stays
abbrev pub cell_change : ℕ → FinMap position_cmp Cell → Position × Option Cell → List Diff
cell_change id cells e = entry_record (CellKey id e.0) (CellValue (get cells e.0)) (CellValue e.1)

-- of a planned link
abbrev pub link_change : ℕ → FinMap position_cmp Link → Position × Option Link → List Diff
link_change id links e = entry_record (LinkKey id e.0) (LinkValue (get links e.0)) (LinkValue e.1)

-- of what a planned line has of its own
abbrev pub attr_change : ℕ → LineAxis → FinMap int_cmp LineAttr → ℤ × Option LineAttr → List Diff
attr_change id axis lines e = attr_record id axis e.0 (get lines e.0) e.1

-- the changes of the planned cells, by place
abbrev pub cell_diffs : ℕ → FinMap position_cmp (Option Cell) → FinMap position_cmp Cell → List Diff
cell_diffs id plan cells = flat_map (cell_change id cells) (entries plan)

-- of the planned links
abbrev pub link_diffs : ℕ → FinMap position_cmp (Option Link) → FinMap position_cmp Link → List Diff
link_diffs id plan links = flat_map (link_change id links) (entries plan)

-- of what the planned lines have of their own, in ascending order
abbrev pub attr_diffs : ℕ → LineAxis → FinMap int_cmp (Option LineAttr) → FinMap int_cmp LineAttr → List Diff
attr_diffs id axis plan lines = flat_map (attr_change id axis lines) (entries plan)

-- the record of a plan: what changes of the cells, of the links, of the columns and of the rows
abbrev pub plan_diffs : SheetPlan → Sheet → List Diff
plan_diffs plan sheet =
    cell_diffs sheet.id plan.cells sheet.cells
    ++ (link_diffs sheet.id plan.links sheet.links
    ++ (attr_diffs sheet.id Columns plan.columns sheet.columns ++ attr_diffs sheet.id Rows plan.rows sheet.rows))
