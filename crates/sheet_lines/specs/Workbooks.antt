-- Workbooks that are carried along as a whole, each sheet by its own way.
use Rattle.std.specs.Prelude.{IsTrue, is_some}
use Rattle.std.specs.List.{AllByRecursion}
use Rattle.base_axis.specs.Along.{rows, columns}
use Rattle.format_rules.specs.Canonical.{AreCanonicalRules}
use Rattle.line_map.specs.Attributes.{LinesInside}
use Rattle.line_map.specs.Maps.{KeysInside}
use Rattle.line_routes.specs.RouteModel.{RouteModel}
use Rattle.sheet_grid.specs.CanonicalCell.{CanonicalCells}
use Rattle.sheet_grid.specs.Sheet.{Sheet}
use Rattle.sheet_grid.specs.Book.{Book}
use Rattle.sheet_lines.specs.declared.kept.KeptLines.{KeptLines}
use Rattle.sheet_lines.specs.Back.{AreCanonicalLines, KeptLinesInside}
use Rattle.sheet_ids.specs.Ids.{sheet_of, HasDistinctIds}
use Rattle.sheet_lines.specs.Sheets.{IsPlacedSheet}

-- a sheet is inside, and its numbers are canonical
pub record IsSoundSheet (sheet : Sheet) : Type 0 where
  pub placed : IsPlacedSheet sheet
  pub cells : KeysInside sheet.cells
  pub links : KeysInside sheet.links
  pub rows : LinesInside rows sheet.rows
  pub columns : LinesInside columns sheet.columns
  pub numbers : CanonicalCells sheet.cells
  pub rules : AreCanonicalRules sheet.formattings

-- so each sheet does, no two have one id, and the edited one is there
pub record SheetsInside (w : RouteModel) (book : Book) : Type 0 where
  pub sheets : AllByRecursion IsSoundSheet book.worksheets
  pub distinct : HasDistinctIds book
  pub there : IsTrue (is_some (sheet_of book w.sheet))

-- what is kept can be laid over a workbook
pub record LinesFit (w : RouteModel) (kept : KeptLines) : Type 0 where
  pub numbers : AreCanonicalLines kept
  pub inside : KeptLinesInside w.along kept
