-- What is computed of a workbook.
use Rattle.std.proofs.Common.{◌≡◌, ℕ, Bool, true, false, List, [], ◌∷◌, take, Result, Ok, Err}
use Rattle.base_values.specs.declared.EditError.{EditError}
use Rattle.base_values.specs.declared.EditError.TheVariants.{DiffRefused}
use Rattle.sheet_grid.specs.Book.{Book}
use Rattle.sheet_grid.specs.Computed.{Values, no_values}
use Rattle.base_tables.specs.declared.Language.{Language}
use Rattle.sheet_ids.specs.declared.View.{View}
use Rattle.sheet_history.specs.declared.QueueDiffs.{QueueDiffs}
use Rattle.open_book.specs.Document.{Document}

-- a document that is open, its computed values, and whether these wait
pub record Session : Type 0 where
  pub document : Document
  pub values : Values
  pub paused : Bool

-- the same where something else is seen of the workbook
abbrev pub seeing : Session → View → Session
seeing session view = record session { document = record session.document { view = view } }

-- the same shown in another language
abbrev pub speaking : Session → Language → Session
speaking session language = record session { document = record session.document { language = language } }

-- values that were just made fit the workbook. While they wait there are none
abbrev pub AreMade : (Book → Values → Type 0) → Bool → Book → Values → Type 0
AreMade Fits true book values = values ≡ no_values
AreMade Fits false book values = Fits book values

abbrev pub IsMade : (Book → Values → Type 0) → Session → Type 0
IsMade Fits session = AreMade Fits session.paused session.document.book session.values

-- where nothing was to do all stays, else values were made
abbrev pub Makes : Bool → (Book → Values → Type 0) → Session → Session → Type 0
Makes true Fits old new = new ≡ old
Makes false Fits old new = IsMade Fits new

abbrev pub is_none_left : {A : Type 0} → List A → Bool
is_none_left [] = true
is_none_left (x ∷ xs) = false

-- after some first entries of another copy's queue values were made, and without any all stays
abbrev pub MakesAfter : ℕ → List QueueDiffs → (Book → Values → Type 0) → Session → Session → Type 0
MakesAfter count entries Fits old new = Makes (is_none_left (take count entries)) Fits old new

-- the values after the entries of another copy's queue. After a refused entry they are as after those before it, and out of memory as
-- after some first ones
abbrev pub LeavesMade : Result (Unit {0}) EditError → List QueueDiffs → (Book → Values → Type 0) → Session → Session → Type 0
LeavesMade (Ok done) entries Fits old new = Makes (is_none_left entries) Fits old new
LeavesMade (Err (DiffRefused at diff)) entries Fits old new = MakesAfter at entries Fits old new
LeavesMade (Err error) entries Fits old new = (count : ℕ) × MakesAfter count entries Fits old new
