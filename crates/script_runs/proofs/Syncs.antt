-- What a sync does to the session.
use Rattle.std.proofs.Common.{◌≡◌, ◌++◌, ℕ, List, Option, Some, Result, Ok, Err, ap, sym, subst}
use Rattle.std.specs.Prelude.{IfSome, OnOk, IsOkUnless}
use Rattle.base_values.specs.declared.EditError.{EditError}
use Rattle.base_values.specs.declared.EditError.TheVariants.{NoMemory}
use Rattle.sheet_grid.specs.Book.{Book}
use Rattle.sheet_history.specs.declared.QueueDiffs.{QueueDiffs}
use Rattle.sheet_wire.specs.QueueBytes.{FitsQueue}
use Rattle.open_book.specs.Machine.{State, synced_of}
use Rattle.open_book.specs.Sound.{Carries}
use Rattle.open_book.specs.Stands.{StandsFor}
use Rattle.script_runs.specs.Session.{Runs}
use Rattle.script_runs.specs.declared.session.Session.{Session}

-- the bytes that the second copy follows are those that carry it
pub carries_to : (entries : List QueueDiffs) (bytes seen : List ℕ) (synced : Option Book) (copied later : Book) → seen ≡ bytes → synced ≡ Some copied → IfSome synced (λ book. Carries entries bytes book later)
    → Carries entries seen copied later
carries_to entries bytes seen synced copied later one two carries =
    subst (λ l. Carries entries l copied later) (sym one) (subst (λ (o : Option Book). IfSome o (λ book. Carries entries bytes book later)) two carries)

pub sync_runs : (result : Result (Unit {0}) EditError) (old new : Session) (state : State) (reply : List ℕ) → new.out.items ≡ old.out.items ++ reply
    → StandsFor new.model.document (synced_of state) → OnOk result (new.copy.document.book ≡ state.present) → IsOkUnless result NoMemory → FitsQueue state.sent
    → Runs result old new reply (synced_of state) (OnOk result (FitsQueue state.sent))
sync_runs (Ok u) old new state reply out model copy only fits = record { out = out; stands = record { model = model; copy = ap Some (sym copy) }; only = tt; sends = fits }
sync_runs (Err error) old new state reply out model copy only fits = record { out = tt; stands = tt; only = only; sends = tt }
