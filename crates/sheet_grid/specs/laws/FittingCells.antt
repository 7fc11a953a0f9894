-- Whether the cells of a workbook may stand at their places.
use Rattle.std.specs.Prelude.{Bool, true, IsTrue, Option, Some, None, All}
use Rattle.std.specs.FinMap as fin
use Rattle.base_values.specs.declared.Position.{Position}
use Rattle.cell_content.specs.Fitting.{fits_at, is_shallow}
use Rattle.sheet_grid.specs.declared.cell.Cell.{Cell}
use Rattle.sheet_grid.specs.Sheet.{Sheet}
use Rattle.sheet_grid.specs.Book.{Book}

-- what is put at a place, a cell or none, may stand there
abbrev pub entry_fits_at : Position → Option Cell → Bool
entry_fits_at place None = true
entry_fits_at place (Some cell) = fits_at place cell.content

-- its formula, if it is one, is at most 64 deep
abbrev pub is_shallow_entry : Option Cell → Bool
is_shallow_entry None = true
is_shallow_entry (Some cell) = is_shallow cell.content

-- every cell of a sheet may stand at its place
abbrev pub CellsFit : Sheet → Type 0
CellsFit sheet = (place : Position) → IsTrue (entry_fits_at place (fin.get sheet.cells place))

-- so it is in each sheet of a workbook
abbrev pub SheetsFit : Book → Type 0
SheetsFit book = All CellsFit book.worksheets
