-- For which states of the machine a session stands.
use Rattle.std.proofs.Common.{◌≡◌, ◌≢◌, ◌++◌, ℕ, List, [], ◌∷◌, Some, Err}
use Rattle.std.specs.Prelude.{OnOk, IsOkUnless}
use Rattle.base_values.specs.declared.EditError.{EditError}
use Rattle.base_values.specs.declared.EditError.TheVariants.{DiffRefused, NoMemory}
use Rattle.std.specs.declared.result.Result.{Result}
use Rattle.sheet_grid.specs.Book.{Book}
use Rattle.sheet_wire.specs.QueueBytes.{FitsQueue}
use Rattle.script_lines.specs.declared.Command.{Command}
use Rattle.script_lines.specs.declared.Command.TheVariants as command
use Rattle.open_book.specs.Machine.{State, sync_bytes}
use Rattle.open_book.specs.Sound.{Carries, IsSound}
use Rattle.open_book.specs.Stands.{StandsFor}
use Rattle.script_runs.specs.declared.session.Session.{Session}
use Rattle.script_runs.specs.declared.tally.Tally.{Tally}
use Rattle.script_runs.specs.Script.{after, commands_in, counted, plain_reply, reply_text, reply_to, step_for, step_next}

-- the model stands for the state, and the second copy is the workbook at the last sync
pub record SessionStands (session : Session) (s : State) : Type 0 where
  pub model : StandsFor session.model.document s
  pub copy : s.synced ≡ Some session.copy.document.book

-- ---- states

-- what is said where a command is a sync
abbrev pub OnSync : Command → Type 0 → Type 0
OnSync command.Sync Said = Said
OnSync other Said = Unit {0}

-- every step that can be undone or redone is kept whole, as none came from another copy
abbrev pub HasNoStale : State → Type 0
HasNoStale s = (s.stale_undo ≡ []) × (s.stale_redo ≡ [])

-- a state of a script: it is sound, no command is refused as a diff is, and the bytes of a sync carry the workbook of the last one, which is
-- known, to the present one
pub record IsOwn (s : State) : Type 0 where
  pub sound : IsSound s
  pub unrefused : (asked : Command) (entry diff : ℕ) → step_for asked s ≢ Some (Err (DiffRefused entry diff))
  pub carried : (last : Book) × (s.synced ≡ Some last) × Carries s.sent (sync_bytes s) last s.present

-- every state that commands go through is a script's own, from this one to the last, and what each sync sends is a queue that bytes can carry
abbrev pub SoundThrough : List Command → State → Type 0
SoundThrough [] s = IsOwn s
SoundThrough (c ∷ cs) s = IsOwn s × OnSync c (FitsQueue s.sent) × SoundThrough cs (step_next c s)

-- ---- commands

-- commands wrote their answer and took the session to what stands for the next state, unless memory ran out: nothing else stops them. What
-- they send is said beside
pub record Runs (result : Result (Unit {0}) EditError) (old new : Session) (reply : List ℕ) (next : State) (Sends : Type 0) : Type 0 where
  pub out : OnOk result (new.out.items ≡ old.out.items ++ reply)
  pub stands : OnOk result (SessionStands new next)
  pub only : IsOkUnless result NoMemory
  pub sends : Sends

-- for whatever state the session stood, it ran the command, which draws no others
abbrev pub RunsPlain : Command → Result (Unit {0}) EditError → Session → Session → Type 0
RunsPlain command result old new =
    (s : State) → SessionStands old s → Runs result old new (reply_text (plain_reply command s)) (step_next command s) (OnSync command (OnOk result (FitsQueue s.sent)))

-- the same of any command
abbrev pub RunsCommand : Command → Result (Unit {0}) EditError → Session → Session → Type 0
RunsCommand command result old new =
    (s : State) → SessionStands old s → HasNoStale s
    → Runs result old new (reply_text (reply_to command s)) (after (commands_in command) s) (OnOk result (SoundThrough (commands_in command) s))

-- a command ran, and its answer was counted and is not written
pub record Counts (result : Result (Unit {0}) EditError) (old new : Session) (before now : Tally) (command : Command) (s : State) : Type 0 where
  pub out : OnOk result (new.out.items ≡ old.out.items)
  pub stands : OnOk result (SessionStands new (step_next command s))
  pub counts : OnOk result (now ≡ counted (plain_reply command s) before)
  pub sends : OnOk result (OnSync command (FitsQueue s.sent))
  pub only : IsOkUnless result NoMemory

abbrev pub CountsCommand : Command → Result (Unit {0}) EditError → Session → Session → Tally → Tally → Type 0
CountsCommand command result old new before now = (s : State) → SessionStands old s → Counts result old new before now command s
