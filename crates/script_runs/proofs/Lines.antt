-- A line that is not empty does what is said there, and an empty one nothing.
use Rattle.std.proofs.Common.{◌≡◌, ℕ, List, [], ◌∷◌, true, false, Option, Result, Ok, length, arith, sym, subst, append-nil}
use Rattle.std.proofs.lemmas.Bool.Decides.{nat_tests}
use Rattle.std.specs.Prelude.{◌==◌, OnOk}
use Rattle.base_values.specs.declared.EditError.{EditError}
use Rattle.script_lines.specs.Commands.{command_of}
use Rattle.script_lines.specs.declared.Command.{Command}
use Rattle.open_book.specs.Machine.{State}
use Rattle.script_runs.specs.declared.session.Session.{Session}
use Rattle.script_runs.specs.Session.{SessionStands, IsOwn, Runs, SoundThrough}
use Rattle.script_runs.specs.Script.{after, command_reply, commands_found, commands_on, line_reply}

-- what is said of a run of the commands of a line, if it has some
abbrev RunsFound : Result (Unit {0}) EditError → Session → Session → State → Option Command → Type 0
RunsFound result old new state found = Runs result old new (command_reply found state) (after (commands_found found) state) (OnOk result (SoundThrough (commands_found found) state))

pub line_ran : (result : Result (Unit {0}) EditError) (old new : Session) (line : List ℕ) (found : Option Command) (state : State) → (length line == 0) ≡ false → found ≡ command_of line
    → Runs result old new (command_reply found state) (after (commands_found found) state) (OnOk result (SoundThrough (commands_found found) state))
    → Runs result old new (line_reply line state) (after (commands_on line) state) (OnOk result (SoundThrough (commands_on line) state))
line_ran result old new [] found state full is ran = let never : true ≡ false = full in cc
line_ran result old new (byte ∷ bytes) found state full is ran = subst (RunsFound result old new state) is ran

never_empty : (byte : ℕ) (bytes : List ℕ) → (length (byte ∷ bytes) == 0) ≡ true → ⊥
never_empty byte bytes empty = grind (arith, nat_tests, empty)

pub empty_ran : (session : Session) (line : List ℕ) (state : State) → (length line == 0) ≡ true → SessionStands session state → IsOwn state
    → Runs (Ok (tt {0})) session session (line_reply line state) (after (commands_on line) state) (SoundThrough (commands_on line) state)
empty_ran session [] state empty stands own = record { out = sym (append-nil session.out.items); stands = stands; only = tt; sends = own }
empty_ran session (byte ∷ bytes) state empty stands own = absurd (never_empty byte bytes empty)
