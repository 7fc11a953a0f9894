-- Commands one after another, and one line more of a script.
use Rattle.std.proofs.Common.{◌≡◌, ℕ, List, [], ◌∷◌, ◌++◌, Result, Ok, Err, refl, sym, ap, subst, ◌∙◌, append_assoc, append-nil}
use Rattle.std.specs.Prelude.{OnOk}
use Rattle.std.specs.declared.option.Option.{Option}
use Rattle.std.specs.declared.option.Option.TheVariants.{Some, None}
use Rattle.base_values.specs.declared.EditError.{EditError}
use Rattle.sheet_wire.specs.QueueBytes.{FitsQueue}
use Rattle.script_lines.specs.Parts.{parts_at, parts_after, without_return}
use Rattle.script_lines.specs.declared.Command.{Command}
use Rattle.script_lines.specs.declared.Command.TheVariants as command
use Rattle.script_lines.specs.declared.NamedRun.{NamedRun}
use Rattle.open_book.specs.Machine.{State}
use Rattle.script_runs.specs.declared.session.Session.{Session}
use Rattle.script_runs.specs.Session.{SessionStands, HasNoStale, OnSync, Runs, SoundThrough}
use Rattle.script_runs.specs.Script.{Reply, after, commands_in, commands_of, commands_on, line_reply, plain_reply, replies, reply_text, reply_to, step_next}
use Rattle.script_runs.proofs.Own.{after_fresh, own_state, step_fresh}

-- ---- commands

after_append : (xs ys : List Command) (s : State) → after (xs ++ ys) s ≡ after ys (after xs s)
after_append [] ys s = refl
after_append (x ∷ xs) ys s = after_append xs ys (step_next x s)

sound_append : (xs ys : List Command) (s : State) → SoundThrough xs s → SoundThrough ys (after xs s) → SoundThrough (xs ++ ys) s
sound_append [] ys s one other = other
sound_append (x ∷ xs) ys s one other = (one.0, one.1, sound_append xs ys (step_next x s) one.2 other)

-- a command that draws none stands for itself
stands_alone : (asked : Command) → ((run : NamedRun) → asked ≡ command.Make run → ⊥) → (commands_in asked ≡ asked ∷ []) × ((s : State) → reply_to asked s ≡ plain_reply asked s)
stands_alone (command.Make run) draws = absurd (draws run refl)
stands_alone asked draws = (refl, λ s. refl)

module _ (result : Result (Unit {0}) EditError) (old new : Session) (s : State) (stands : SessionStands old s) (fresh : HasNoStale s) (asked : Command) where
  through : (r : Result (Unit {0}) EditError) → OnOk r (SessionStands new (step_next asked s)) → OnSync asked (OnOk r (FitsQueue s.sent)) → OnOk r (SoundThrough (asked ∷ []) s)
  through (Ok u) now sends = (own_state old s stands fresh, sends, own_state new (step_next asked s) now (step_fresh asked s fresh))
  through (Err error) now sends = tt

  pub plain_runs : ((run : NamedRun) → asked ≡ command.Make run → ⊥) → Runs result old new (reply_text (plain_reply asked s)) (step_next asked s) (OnSync asked (OnOk result (FitsQueue s.sent)))
      → Runs result old new (reply_text (reply_to asked s)) (after (commands_in asked) s) (OnOk result (SoundThrough (commands_in asked) s))
  plain_runs draws ran =
      let alone = stands_alone asked draws in
      let one : Runs result old new (reply_text (plain_reply asked s)) (after (asked ∷ []) s) (OnOk result (SoundThrough (asked ∷ []) s)) =
      record { out = ran.out; stands = ran.stands; only = ran.only; sends = through result ran.stands ran.sends } in
      subst (λ (r : Reply). Runs result old new (reply_text r) (after (commands_in asked) s) (OnOk result (SoundThrough (commands_in asked) s))) (sym (alone.1 s))
      (subst (λ (cs : List Command). Runs result old new (reply_text (plain_reply asked s)) (after cs s) (OnOk result (SoundThrough cs s))) (sym alone.0) one)

-- ---- lines

-- a state for which the session stands, and what is left from there
pub record Reached (out script : List ℕ) (first : State) (now : Session) (rest : Option (List ℕ)) : Type 0 where
  pub state : State
  pub stands : SessionStands now state
  pub fresh : HasNoStale state
  pub told : now.out.items ++ replies (parts_after 10 rest) state ≡ out ++ replies (parts_at 10 script) first
  pub left : after (commands_of (parts_after 10 rest)) state ≡ after (commands_of (parts_at 10 script)) first
  pub sound : SoundThrough (commands_of (parts_after 10 rest)) state → SoundThrough (commands_of (parts_at 10 script)) first

pub reached_more : (out script : List ℕ) (first : State) (old new : Session) (bytes line : List ℕ) (rest : Option (List ℕ)) → (reached : Reached out script first old (Some bytes))
    → parts_at 10 bytes ≡ line ∷ parts_after 10 rest → new.out.items ≡ old.out.items ++ line_reply (without_return line) reached.state
    → SessionStands new (after (commands_on (without_return line)) reached.state) → SoundThrough (commands_on (without_return line)) reached.state → Reached out script first new rest
reached_more out script first old new bytes line rest reached parts told stands sound =
    let s = reached.state in
    let here = commands_on (without_return line) in
    let next = after here s in
    let others = commands_of (parts_after 10 rest) in
    record {
      state = next;
      stands = stands;
      fresh = after_fresh here s reached.fresh;
      told =
          ap (λ l. l ++ replies (parts_after 10 rest) next) told
          ∙ append_assoc old.out.items (line_reply (without_return line) s) (replies (parts_after 10 rest) next)
          ∙ ap (λ ls. old.out.items ++ replies ls s) (sym parts)
          ∙ reached.told;
      left = sym (after_append here others s) ∙ ap (λ ls. after (commands_of ls) s) (sym parts) ∙ reached.left;
      sound = λ rest_sound. reached.sound (subst (λ ls. SoundThrough (commands_of ls) s) (sym parts) (sound_append here others s sound rest_sound));
    }

-- where none is left, the lines have run
pub reached_end : (script : List ℕ) (first : State) (old now : Session) → Reached old.out.items script first now None
    → Runs (Ok (tt {0})) old now (replies (parts_at 10 script) first) (after (commands_of (parts_at 10 script)) first) (SoundThrough (commands_of (parts_at 10 script)) first)
reached_end script first old now reached = record {
  out = sym (append-nil now.out.items) ∙ reached.told;
  stands = subst (λ (s : State). SessionStands now s) reached.left reached.stands;
  only = tt;
  sends = reached.sound (own_state now reached.state reached.stands reached.fresh);
}
