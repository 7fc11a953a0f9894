-- Whether two entries of a place, cells or none, are equal.
use Rattle.std.specs.Prelude.{Bool, Option}
use Rattle.std.specs.Option.{option_eq}
use Rattle.sheet_grid.specs.declared.cell.Cell.{Cell}
use Rattle.sheet_grid.specs.contracts.cell.CellPartialEq.TheImpl as cell

abbrev pub same_entry : Option Cell → Option Cell → Bool
same_entry a b = option_eq cell.ghosts.eq a b
