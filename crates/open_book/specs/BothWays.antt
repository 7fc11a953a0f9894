-- What holds of every accepted edit of a well-formed workbook.
use Rattle.std.proofs.Common.{◌≡◌, Ok}
use Rattle.sheet_grid.specs.Book.{Book}
use Rattle.sheet_rules.specs.WellFormed.{IsWellFormed}
use Rattle.sheet_history.specs.Diffs.{book_after, book_before}
use Rattle.edit_plans.specs.Edits.{Edit, record_of}
use Rattle.open_book.specs.Sound.{IsExact}

-- the later workbook is well-formed, and the record of the edit, which is exact, takes the earlier one to it and it back
pub record GoesBothWays (edit : Edit) (earlier later : Book) : Type 0 where
  pub rules : IsWellFormed later
  pub forth : book_after earlier (record_of edit earlier later) ≡ Ok later
  pub back : book_before later (record_of edit earlier later) ≡ Ok earlier
  pub exact : IsExact edit earlier later (record_of edit earlier later)
