-- What a plan of an edit returns: the record of its change.
use Rattle.std.proofs.Common.{◌≡◌, ◌≢◌, List, Result, Ok, Err}
use Rattle.std.specs.Prelude.{IfOk, IfErr, IsOk, IsOkAnd}
use Rattle.base_values.specs.declared.EditError.{EditError}
use Rattle.base_values.specs.declared.EditError.TheVariants.{NoMemory}
use Rattle.sheet_grid.specs.Book.{Book}
use Rattle.sheet_rules.specs.WellFormed.{IsWellFormed}
use Rattle.sheet_history.specs.declared.Diff.{Diff}
use Rattle.sheet_history.specs.Diffs.{IsCanonicalList, book_before, book_after}
use Rattle.sheet_history.specs.Records.{IsRecord}
use Rattle.edit_plans.specs.Edits.{Edit, changed, record_of}

-- the later workbook is well-formed, and a list has exactly the entries in which it differs from the earlier one
pub record IsPlan (earlier : Book) (list : List Diff) (later : Book) : Type 0 where
  pub exact : IsRecord earlier later list
  pub rules : IsWellFormed later
  pub canonical : IsCanonicalList list

-- what holds of an accepted edit: the later workbook is well-formed, and differs from the earlier one in what a list has
pub record HasRecord (earlier later : Book) : Type 0 where
  pub list : List Diff
  pub exact : IsRecord earlier later list
  pub rules : IsWellFormed later

-- a plan returns the record of the edit's change, or the edit's first refusal. Only where a change is expected may it be out of memory
pub record Plans (result : Result (List Diff) EditError) (book : Book) (expected : Result Book EditError) : Type 0 where
  pub planned : IfOk result (λ list. IsOkAnd expected (IsPlan book list))
  pub refused : IfErr result (λ error. error ≢ NoMemory → expected ≡ Err error)
  pub memory : IfErr result (λ error. error ≡ NoMemory → IsOk expected)

-- ---- edits of the list of the sheets, of the defined names and of settings

-- a list is the record of an edit of the list of the sheets, which leads to the later workbook, and that one is well-formed
pub record IsSheetPlan (edit : Edit) (earlier : Book) (list : List Diff) (later : Book) : Type 0 where
  pub recorded : list ≡ record_of edit earlier later
  pub forth : book_after earlier list ≡ Ok later
  pub rules : IsWellFormed later
  pub canonical : IsCanonicalList list

-- a plan returns the record of such an edit, or its first refusal. Only where a change is expected may it be out of memory
pub record PlansSheets (edit : Edit) (result : Result (List Diff) EditError) (book : Book) : Type 0 where
  pub planned : IfOk result (λ list. IsOkAnd (changed edit book) (IsSheetPlan edit book list))
  pub refused : IfErr result (λ error. error ≢ NoMemory → changed edit book ≡ Err error)
  pub memory : IfErr result (λ error. error ≡ NoMemory → IsOk (changed edit book))

-- what holds of an accepted edit of the list of the sheets: the later workbook is well-formed, and its record leads there and back
pub record GoesBothWays (edit : Edit) (earlier later : Book) : Type 0 where
  pub rules : IsWellFormed later
  pub forth : book_after earlier (record_of edit earlier later) ≡ Ok later
  pub back : book_before later (record_of edit earlier later) ≡ Ok earlier
