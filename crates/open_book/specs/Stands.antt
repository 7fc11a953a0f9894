-- For which states of the machine a user model stands, and what its calls do with them.
use Rattle.std.proofs.Common.{◌≡◌, ◌≢◌, ℕ, false, List, take, Result, Err}
use Rattle.std.specs.Prelude.{OnOk, IfOk, IfErr, IsOk, IsOkAnd}
use Rattle.base_values.specs.declared.EditError.{EditError}
use Rattle.base_values.specs.declared.EditError.TheVariants.{NoMemory}
use Rattle.sheet_grid.specs.Book.{Book}
use Rattle.sheet_history.specs.declared.Diff.{Diff}
use Rattle.sheet_history.specs.declared.QueueDiffs.{QueueDiffs}
use Rattle.sheet_history.specs.Diffs.{IsCanonicalList}
use Rattle.edit_plans.specs.Edits.{Edit, changed, is_silent, record_of}
use Rattle.sheet_ids.specs.declared.View.{View}
use Rattle.edit_plans.specs.ViewSteps.{selected_by, view_asked}
use Rattle.open_book.specs.Document.{Document, document}
use Rattle.open_book.specs.Machine.{State, applied}
use Rattle.open_book.specs.Sound.{IsSound, IsSoundStep}
use Rattle.open_book.specs.Values.{Session}

-- a document stands for each sound state that it is the document of
pub record StandsFor (doc : Document) (s : State) : Type 0 where
  pub document : doc ≡ document s
  pub sound : IsSound s

-- it stands for some state
abbrev pub IsReached : Document → Type 0
IsReached doc = (s : State) × StandsFor doc s

-- what holds of each state that a document stands for
abbrev pub OnStates : Document → (State → Type 0) → Type 0
OnStates doc Holds = (state : State) → StandsFor doc state → Holds state

-- a call takes a model to a document that stands for the expected state, or refuses as expected. Only where a state is expected may it be
-- out of memory
pub record Moves {T : Type 0} (result : Result T EditError) (new : Document) (expected : Result State EditError) : Type 0 where
  pub done : OnOk result (IsOkAnd expected (StandsFor new))
  pub refused : IfErr result (λ error. error ≢ NoMemory → expected ≡ Err error)
  pub memory : IfErr result (λ error. error ≡ NoMemory → IsOk expected)

-- it does so from each state that the document before stands for
abbrev pub Steps : {T : Type 0} → Result T EditError → Document → Document → (State → Result State EditError) → Type 0
Steps result old new next = OnStates old (λ state. Moves result new (next state))

-- the same of a call whose tests take memory
pub record MovesOrNoMemory {T : Type 0} (result : Result T EditError) (new : Document) (expected : Result State EditError) : Type 0 where
  pub done : OnOk result (IsOkAnd expected (StandsFor new))
  pub refused : IfErr result (λ error. error ≢ NoMemory → expected ≡ Err error)

-- what a call answers of the entries of another copy's queue, and where it leaves the model: the entries before a refused one stand, and
-- out of memory, some first ones do
abbrev pub Leaves : Result (Unit {0}) EditError → Document → List QueueDiffs → State → Type 0
Leaves (Err NoMemory) new entries s = (count : ℕ) × StandsFor new (applied (take count entries) s).0
Leaves result new entries s = ((applied entries s).1 ≡ result) × StandsFor new (applied entries s).0

-- a call opens a model whose document stands for the expected state, or refuses as expected. Only where a state is expected may it be out
-- of memory
pub record Opens (result : Result Session EditError) (expected : Result State EditError) : Type 0 where
  pub done : IfOk result (λ session. IsOkAnd expected (StandsFor session.document))
  pub refused : IfErr result (λ error. error ≢ NoMemory → expected ≡ Err error)
  pub memory : IfErr result (λ error. error ≡ NoMemory → IsOk expected)

-- the same of a call whose reading takes memory: it may be out of memory where a refusal is expected
pub record OpensOrNoMemory (result : Result Session EditError) (expected : Result State EditError) : Type 0 where
  pub done : IfOk result (λ session. IsOkAnd expected (StandsFor session.document))
  pub refused : IfErr result (λ error. error ≢ NoMemory → expected ≡ Err error)

-- a list is the record of an edit that led from one workbook to another, with canonical numbers, and the step is sound
pub record IsStepBy (edit : Edit) (earlier : Book) (list : List Diff) (later : Book) : Type 0 where
  pub recorded : list ≡ record_of edit earlier later
  pub step : IsSoundStep (record { edit = edit; before = earlier; after = later })
  pub canonical : IsCanonicalList list

-- a result is that of the plan of an edit that does something and, where it is accepted, selects the sheet at an index and asks for a view: it
-- has the record of the edit's change, or refuses it
pub record IsSeenPlan (edit : Edit) (plan : Result (List Diff) EditError) (selected : ℕ) (seen : View) (doc : Document) : Type 0 where
  pub loud : is_silent edit doc.book ≡ false
  pub selects : IsOk (changed edit doc.book) → selected_by edit doc.book doc.view.sheet ≡ selected
  pub asks : IsOk (changed edit doc.book) → view_asked edit doc.book doc.view ≡ seen
  pub planned : IfOk plan (λ list. IsOkAnd (changed edit doc.book) (IsStepBy edit doc.book list))
  pub refused : IfErr plan (λ error. error ≢ NoMemory → changed edit doc.book ≡ Err error)
  pub memory : IfErr plan (λ error. error ≡ NoMemory → IsOk (changed edit doc.book))

-- the same of an edit that asks for no other view than the present one
abbrev pub IsPlanOf : Edit → Result (List Diff) EditError → ℕ → Document → Type 0
IsPlanOf edit plan selected doc = IsSeenPlan edit plan selected doc.view doc

-- of some edit
abbrev pub IsAnySeenPlan : Result (List Diff) EditError → ℕ → View → Document → Type 0
IsAnySeenPlan plan selected seen doc = (edit : Edit) × IsSeenPlan edit plan selected seen doc

abbrev pub IsAnyPlan : Result (List Diff) EditError → ℕ → Document → Type 0
IsAnyPlan plan selected doc = IsAnySeenPlan plan selected doc.view doc
