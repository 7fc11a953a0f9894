-- What leads from an earlier workbook to a later one and back.
use Rattle.std.proofs.Common.{◌≡◌, Result, Ok}
use Rattle.base_values.specs.declared.EditError.{EditError}
use Rattle.sheet_grid.specs.Book.{Book}

-- a diff is made on the earlier workbook and taken back on the later one, and gives the other one each time
pub record LeadsBothWays (output taken_back : Book → Result Book EditError) (earlier later : Book) : Type 0 where
  pub forth : output earlier ≡ Ok later
  pub back : taken_back later ≡ Ok earlier
