-- That a workbook is well-formed has one proof at most, so that a type may hold it.
use Rattle.std.proofs.Props.{props}
use Rattle.sheet_grid.specs.Book.{Book}
use Rattle.sheet_rules.specs.WellFormed.{IsWellFormed}

pub well_formed_prop : (book : Book) → IsProp (IsWellFormed book)
well_formed_prop book = hlevel props
