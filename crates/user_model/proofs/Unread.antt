-- Bytes of another copy that are read, and bytes that are not.
use Rattle.std.proofs.Common.{◌≡◌, ◌≢◌, ℕ, List, Result, Ok, Err, refl, ap, sym, subst, ◌∙◌}
use Rattle.base_values.specs.declared.EditError.{EditError}
use Rattle.base_values.specs.declared.EditError.TheVariants.{NoMemory, ParseDiffs}
use Rattle.base_values.specs.Answers.{Answers, Edits}
use Rattle.sheet_grid.specs.Book.{Book}
use Rattle.sheet_grid.specs.Computed.{Values}
use Rattle.sheet_history.specs.declared.QueueDiffs.{QueueDiffs}
use Rattle.base_wire.specs.Reads.{ReadsWhole}
use Rattle.base_wire.specs.laws.Whole.{reads_none}
use Rattle.sheet_wire.specs.QueueBytes.{IsNoQueue, IsQueue}
use Rattle.open_book.specs.Document.{Document}
use Rattle.open_book.specs.Machine.{State, applied}
use Rattle.open_book.specs.Stands.{StandsFor, IsReached, Leaves}
use Rattle.open_book.specs.Values.{Session, LeavesMade}

only_memory : (error : EditError) → ((error ≢ NoMemory) → ⊥) → error ≡ NoMemory
only_memory NoMemory h = refl
only_memory _ h = absurd (h (λ e. cc))

-- bytes of a queue that are not read leave the model: memory is short
pub unread_leaves : (error : EditError) (doc : Document) (entries : List QueueDiffs) (s : State) → StandsFor doc s → Answers {T = List QueueDiffs} (Err error) (Ok entries) → Leaves (Err error) doc entries s
unread_leaves error doc entries s stands again =
    let short : error ≡ NoMemory =
    only_memory error (λ other. let never : ◌≡◌ {A = Result (List QueueDiffs) EditError} (Ok entries) (Err error) = again.refused other in cc) in
    subst (λ e. Leaves (Err e) doc entries s) (sym short) (0, stands)

pub unread_made : (error : EditError) (entries : List QueueDiffs) (Fits : Book → Values → Type 0) (session : Session) → Answers {T = List QueueDiffs} (Err error) (Ok entries)
    → LeavesMade (Err error) entries Fits session session
unread_made error entries Fits session again =
    let short : error ≡ NoMemory =
    only_memory error (λ other. let never : ◌≡◌ {A = Result (List QueueDiffs) EditError} (Ok entries) (Err error) = again.refused other in cc) in
    subst (λ e. LeavesMade (Err e) entries Fits session session) (sym short) (0, refl)

-- bytes of no queue are refused with ParseDiffs
pub unread_edits : (inside seen : Session) → inside ≡ seen → (error : EditError) → (error ≢ NoMemory → error ≡ ParseDiffs) → Edits (Err error) seen inside (Err ParseDiffs)
unread_edits inside seen same error refused = record { done = tt; refused = (same, λ other. ap Err (sym (refused other))) }

pub parse_no_queue : (bytes : List ℕ) (error : EditError) → ReadsWhole IsQueue ParseDiffs bytes (Err error)
    → ◌≡◌ {A = Result (Unit {0}) EditError} (Err error) (Err ParseDiffs) → IsNoQueue bytes
parse_no_queue bytes error reads is =
    let same : error ≡ ParseDiffs = cc in
    reads_none error ParseDiffs reads (λ short. let never : ParseDiffs ≡ NoMemory = sym same ∙ short in cc)

-- what was read is the queue that was encoded
pub read_leaves : (result : Result (Unit {0}) EditError) (new : Document) (queue entries : List QueueDiffs) (s : State)
    → Answers (Ok queue) (Ok entries) → Leaves result new queue s → Leaves result new entries s
read_leaves result new queue entries s again leaves = let same : queue ≡ entries = cc in subst (λ q. Leaves result new q s) same leaves

pub read_made : (result : Result (Unit {0}) EditError) (queue entries : List QueueDiffs) (Fits : Book → Values → Type 0) (old new : Session)
    → Answers (Ok queue) (Ok entries) → LeavesMade result queue Fits old new → LeavesMade result entries Fits old new
read_made result queue entries Fits old new again output = let same : queue ≡ entries = cc in subst (λ q. LeavesMade result q Fits old new) same output

-- where entries were taken, the document stands for some state
pub left_reached : (result : Result (Unit {0}) EditError) (new : Document) (entries : List QueueDiffs) (s : State) → Leaves result new entries s → IsReached new
left_reached (Ok u) new entries s leaves = ((applied entries s).0, leaves.1)
left_reached (Err NoMemory) new entries s leaves = (_, leaves.1)
left_reached (Err error) new entries s leaves = ((applied entries s).0, leaves.1)
