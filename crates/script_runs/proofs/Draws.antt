-- Commands that are drawn from a seed, run and counted.
use Rattle.std.proofs.Common.{◌≡◌, ◌≤◌, ◌<◌, ◌-◌, ℕ, suc, List, [], ◌∷◌, ◌++◌, length, take, Ok, arith, refl, ap, sym, subst, ◌∙◌}
use Rattle.std.specs.Prelude.{slice_get}
use Rattle.script_lines.specs.Draws.{drawn_command, drawn_commands}
use Rattle.script_lines.specs.declared.Command.{Command}
use Rattle.script_lines.specs.declared.NamedRun.{NamedRun}
use Rattle.script_dump.specs.Dump.{dump}
use Rattle.open_book.specs.Machine.{State}
use Rattle.script_runs.specs.Script.{Reply, after, counted, no_answers, reply_text, step_next, tallied}
use Rattle.script_runs.specs.Script.Reply.{Silence, Done, Refused, Value, Sent, Shown, Made}
use Rattle.script_runs.specs.Session.{SessionStands, HasNoStale, Counts, SoundThrough}
use Rattle.script_runs.specs.Tallies.{counted_by}
use Rattle.script_runs.specs.declared.session.Session.{Session}
use Rattle.script_runs.specs.declared.tally.Tally.{Tally}
use Rattle.script_runs.proofs.Own.{own_state, step_fresh}

-- ---- answers

-- the first byte of what is written for an answer tells its kind
first_tells : (reply : Reply) (tally : Tally) → counted_by (slice_get (reply_text reply) 0) tally ≡ counted reply tally
unfolding dump
first_tells Silence tally = refl
first_tells Done tally = refl
first_tells (Refused error) tally = refl
first_tells (Value text) tally = refl
first_tells (Sent bytes) tally = refl
first_tells (Shown book) tally = refl
first_tells (Made count of) tally = refl

behind : (xs ys : List ℕ) → slice_get (xs ++ ys) (length xs) ≡ slice_get ys 0
behind [] ys = refl
behind (x ∷ xs) ys = behind xs ys

-- it stands behind the answers before
pub counted_told : (before written : List ℕ) (reply : Reply) (tally : Tally) → written ≡ before ++ reply_text reply → counted_by (slice_get written (length before)) tally ≡ counted reply tally
counted_told before written reply tally is =
    ap (λ l. counted_by (slice_get l (length before)) tally) is ∙ ap (λ o. counted_by o tally) (behind before (reply_text reply)) ∙ first_tells reply tally

-- the answers before are what stands in front of it
pub front : (before more : List ℕ) → take (length before) (before ++ more) ≡ before
front [] more = refl
front (x ∷ before) more = ap (λ l. x ∷ l) (front before more)

-- ---- runs

-- a state for which the session stands, from which the commands that are left lead to where all of a run lead
pub record Drawn (run : NamedRun) (written : List ℕ) (first : State) (now : Session) (tally : Tally) (left seed : ℕ) : Type 0 where
  pub state : State
  pub stands : SessionStands now state
  pub fresh : HasNoStale state
  pub out : now.out.items ≡ written
  pub told : tallied (drawn_commands left seed) state tally ≡ tallied (drawn_commands run.count run.seed) first no_answers
  pub led : after (drawn_commands left seed) state ≡ after (drawn_commands run.count run.seed) first
  pub sound : SoundThrough (drawn_commands left seed) state → SoundThrough (drawn_commands run.count run.seed) first

one_less : (left : ℕ) → 0 < left → left ≡ suc (left - 1)
one_less left more = omega (arith, more)

-- one that is counted is not left
pub drawn_more : (run : NamedRun) (written : List ℕ) (first : State) (old new : Session) (before now : Tally) (left seed : ℕ) (asked : Command) (next : ℕ) → (asked, next) ≡ drawn_command seed
    → (drawn : Drawn run written first old before (suc left) seed) → Counts (Ok (tt {0})) old new before now asked drawn.state → Drawn run written first new now left next
drawn_more run written first old new before now left seed asked next is drawn counts =
    let s = drawn.state in
    let here = (drawn_command seed).0 in
    let same : asked ≡ here = ap (λ (drawn : Command × ℕ). drawn.0) is in
    let others = drawn_commands left (drawn_command seed).1 in
    let counted_here : Counts (Ok (tt {0})) old new before now here s = subst (λ (c : Command). Counts (Ok (tt {0})) old new before now c s) same counts in
    let here_drawn : Drawn run written first new now left (drawn_command seed).1 = record {
      state = step_next here s;
      stands = counted_here.stands;
      fresh = step_fresh here s drawn.fresh;
      out = counted_here.out ∙ drawn.out;
      told = ap (λ tally. tallied others (step_next here s) tally) counted_here.counts ∙ drawn.told;
      led = drawn.led;
      sound = λ rest. drawn.sound (own_state old s drawn.stands drawn.fresh, counted_here.sends, rest);
    } in
    subst (λ (n : ℕ). Drawn run written first new now left n) (sym (ap (λ (drawn : Command × ℕ). drawn.1) is)) here_drawn

pub drawn_left : (run : NamedRun) (written : List ℕ) (first : State) (now : Session) (tally : Tally) (left seed : ℕ) → 0 < left → Drawn run written first now tally left seed
    → Drawn run written first now tally (suc (left - 1)) seed
drawn_left run written first now tally left seed more drawn = subst (λ (n : ℕ). Drawn run written first now tally n seed) (one_less left more) drawn

-- where none is left, the session stands for the state behind all
pub record Ended (run : NamedRun) (written : List ℕ) (first : State) (now : Session) (tally : Tally) : Type 0 where
  pub out : now.out.items ≡ written
  pub told : tally ≡ tallied (drawn_commands run.count run.seed) first no_answers
  pub stands : SessionStands now (after (drawn_commands run.count run.seed) first)
  pub sound : SoundThrough (drawn_commands run.count run.seed) first

pub drawn_end : (run : NamedRun) (written : List ℕ) (first : State) (now : Session) (tally : Tally) (left seed : ℕ) → left ≤ 0 → Drawn run written first now tally left seed
    → Ended run written first now tally
drawn_end run written first now tally left seed none drawn =
    let none_left : left ≡ 0 = omega (arith, none) in
    let d : Drawn run written first now tally 0 seed = subst (λ (n : ℕ). Drawn run written first now tally n seed) none_left drawn in
    record {
      out = d.out;
      told = d.told;
      stands = subst (λ (s : State). SessionStands now s) d.led d.stands;
      sound = d.sound (own_state now d.state d.stands d.fresh);
    }
