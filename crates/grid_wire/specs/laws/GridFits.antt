-- What is known of names and of sheets that bytes can carry: the numbers in them are canonical.
use Rattle.base_values.specs.Places.{IsPlace, position_cmp}
use Rattle.std.specs.FinMap.{FinMap}
use Rattle.defined_names.specs.declared.DefinedName.{DefinedName}
use Rattle.defined_names.specs.Names.{IsCanonicalName}
use Rattle.sheet_grid.specs.declared.Cell.{Cell}
use Rattle.sheet_grid.specs.CanonicalCell.{CanonicalCells}
use Rattle.formula_wire.specs.laws.CanonicalLaws.{canonical_from_carried}
use Rattle.grid_wire.specs.CellBytes.{FitsCell}
use Rattle.grid_wire.specs.laws.Fitting.{canonical_cell_from_fits}
use Rattle.base_wire.specs.MapBytes.{FitsMap}
use Rattle.base_wire.specs.laws.MapFits.{values_hold}
use Rattle.grid_wire.specs.NameBytes.{FitsName}

pub canonical_name_from_fits : (name : DefinedName) → FitsName name → IsCanonicalName name
canonical_name_from_fits name fits = canonical_from_carried name.formula fits.formula.carried

pub canonical_cells_from_fits : (cells : FinMap position_cmp Cell) → FitsMap IsPlace FitsCell cells → CanonicalCells cells
canonical_cells_from_fits cells fits = values_hold IsPlace FitsCell _ canonical_cell_from_fits cells fits
