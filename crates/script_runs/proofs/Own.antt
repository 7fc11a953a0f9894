-- What every state of a script is.
use Rattle.std.proofs.Common.{◌≡◌, ◌≢◌, Bool, true, false, ℕ, List, [], ◌∷◌, Option, Some, None, Result, Ok, Err, refl, ap, sym, subst, ◌∙◌}
use Rattle.std.specs.Prelude.{IfSome, if◌then◌else◌}
use Rattle.std.specs.Option.{option_map, option_map_or}
use Rattle.base_values.specs.declared.EditError.{EditError}
use Rattle.base_values.specs.declared.EditError.TheVariants.{DiffRefused, LanguageName, LocaleName, ZoneName}
use Rattle.base_values.specs.Answers.{and_then, map_ok, ok_or}
use Rattle.base_tables.specs.declared.Language.{Language}
use Rattle.base_tables.specs.declared.Locale.{Locale}
use Rattle.base_tables.specs.declared.Zone.{Zone}
use Rattle.base_tables.specs.Language.{language_of_name}
use Rattle.base_tables.specs.Locale.{locale_of_name}
use Rattle.base_tables.specs.Zone.{zone_of_name}
use Rattle.sheet_grid.specs.Book.{Book}
use Rattle.sheet_history.specs.declared.Diff.{Diff}
use Rattle.sheet_history.specs.declared.Setting.TheVariants as setting
use Rattle.edit_plans.specs.Edits.{Edit, changed, is_silent}
use Rattle.edit_plans.specs.Edits.Edit.{SetSetting}
use Rattle.edit_plans.specs.laws.Refusals.{no_edit_refuses_a_diff}
use Rattle.open_book.specs.Machine.{Step, State, edited, edit_of, redo_from, redo_of, redo_stale, speaking_in, sync_bytes, undo_from, undo_of, undo_stale}
use Rattle.open_book.specs.Sound.{Carries}
use Rattle.user_model.specs.Settings.{language_set, locale_given, locale_set, zone_given, zone_set}
use Rattle.script_lines.specs.declared.Command.{Command}
use Rattle.script_lines.specs.declared.Command.TheVariants as command
use Rattle.script_runs.specs.Script.{after, edit_for, state_after, step_for, step_next}
use Rattle.script_runs.specs.Session.{HasNoStale, IsOwn, SessionStands}
use Rattle.script_runs.specs.declared.session.Session.{Session}

-- ---- no command is refused as a diff is

abbrev Never : Result State EditError → Type 0
Never result = (entry diff : ℕ) → result ≢ Err (DiffRefused entry diff)

made_never : (s : State) → Never (Ok s)
made_never s entry diff = λ is. absurd (let never : ◌≡◌ {A = Result State EditError} (Ok s) (Err (DiffRefused entry diff)) = is in cc)

mapped_never : (later : Book → State) (r : Result Book EditError) → ((entry diff : ℕ) → r ≢ Err (DiffRefused entry diff)) → Never (map_ok later r)
mapped_never later (Ok book) h entry diff = made_never (later book) entry diff
mapped_never later (Err error) h entry diff = λ is. h entry diff (let same : error ≡ DiffRefused entry diff = cc in ap Err same)

edit_never : (edit : Edit) (s : State) → Never (edit_of edit s)
edit_never edit s = chosen (is_silent edit s.present)
  where
    chosen : (silent : Bool) → Never (if silent then Ok s else map_ok (edited edit s) (changed edit s.present))
    chosen true = made_never s
    chosen false = mapped_never (edited edit s) (changed edit s.present) (no_edit_refuses_a_diff edit s.present)

locale_never : (s : State) (found : Option Locale) → Never (and_then (ok_or LocaleName found) (λ locale. locale_given locale s))
locale_never s (Some locale) entry diff = edit_never (SetSetting (setting.Locale locale)) s entry diff
locale_never s None entry diff = λ is. absurd (let never : ◌≡◌ {A = Result State EditError} (Err LocaleName) (Err (DiffRefused entry diff)) = is in cc)

zone_never : (s : State) (found : Option Zone) → Never (and_then (ok_or ZoneName found) (λ zone. zone_given zone s))
zone_never s (Some zone) entry diff = edit_never (SetSetting (setting.Zone zone)) s entry diff
zone_never s None entry diff = λ is. absurd (let never : ◌≡◌ {A = Result State EditError} (Err ZoneName) (Err (DiffRefused entry diff)) = is in cc)

language_never : (s : State) (found : Option Language) → Never (speaking_in (ok_or LanguageName found) s)
language_never s (Some language) entry diff = made_never (record s { language = language }) entry diff
language_never s None entry diff = λ is. absurd (let never : ◌≡◌ {A = Result State EditError} (Err LanguageName) (Err (DiffRefused entry diff)) = is in cc)

-- where no list is stale, one that is there is none
no_list : {T : Type 0} (lists : List (List Diff)) (list : List Diff) (more : List (List Diff)) → lists ≡ [] → lists ≡ list ∷ more → T
no_list lists list more none is = absurd (let never : ◌≡◌ {A = List (List Diff)} [] (list ∷ more) = sym none ∙ is in cc)

undo_never : (s : State) → HasNoStale s → Never (undo_of s)
undo_never s fresh = steps s.past
  where
    stale : (lists : List (List Diff)) → s.stale_undo ≡ lists → Never (undo_stale lists s)
    stale [] is = made_never s
    stale (list ∷ lists) is = no_list s.stale_undo list lists fresh.0 is

    steps : (past : List Step) → Never (undo_from past s)
    steps [] = stale s.stale_undo refl
    steps (step ∷ past) = made_never _

redo_never : (s : State) → HasNoStale s → Never (redo_of s)
redo_never s fresh = steps s.undone
  where
    stale : (lists : List (List Diff)) → s.stale_redo ≡ lists → Never (redo_stale lists s)
    stale [] is = made_never s
    stale (list ∷ lists) is = no_list s.stale_redo list lists fresh.1 is

    steps : (undone : List Step) → Never (redo_from undone s)
    steps [] = stale s.stale_redo refl
    steps (step ∷ undone) = made_never _

answered_never : (result : Result State EditError) → Never result → (entry diff : ℕ) → Some result ≢ Some (Err (DiffRefused entry diff))
answered_never result h entry diff = λ is. h entry diff (let same : result ≡ Err (DiffRefused entry diff) = cc in same)

asked_never : (s : State) (asked : Option Edit) (entry diff : ℕ) → option_map (λ edit. edit_of edit s) asked ≢ Some (Err (DiffRefused entry diff))
asked_never s (Some edit) entry diff = answered_never (edit_of edit s) (edit_never edit s) entry diff
asked_never s None entry diff = λ is. absurd (let never : ◌≡◌ {A = Option (Result State EditError)} None (Some (Err (DiffRefused entry diff))) = is in cc)

never_refused : (s : State) → HasNoStale s → (asked : Command) (entry diff : ℕ) → step_for asked s ≢ Some (Err (DiffRefused entry diff))
never_refused s fresh command.Undo entry diff = answered_never (undo_of s) (undo_never s fresh) entry diff
never_refused s fresh command.Redo entry diff = answered_never (redo_of s) (redo_never s fresh) entry diff
never_refused s fresh (command.Locale name) entry diff = answered_never (locale_set name s) (locale_never s (locale_of_name name)) entry diff
never_refused s fresh (command.Zone name) entry diff = answered_never (zone_set name s) (zone_never s (zone_of_name name)) entry diff
never_refused s fresh (command.Language name) entry diff = answered_never (language_set name s) (language_never s (language_of_name name)) entry diff
never_refused s fresh asked entry diff = asked_never s (edit_for asked s) entry diff

-- ---- no command leaves a stale record

edit_fresh : (edit : Edit) (s : State) → HasNoStale s → HasNoStale (state_after (edit_of edit s) s)
edit_fresh edit s fresh = chosen (is_silent edit s.present)
  where
    made : (result : Result Book EditError) → HasNoStale (state_after (map_ok (edited edit s) result) s)
    made (Ok book) = (fresh.0, refl)
    made (Err error) = fresh

    chosen : (silent : Bool) → HasNoStale (state_after (if silent then Ok s else map_ok (edited edit s) (changed edit s.present)) s)
    chosen true = fresh
    chosen false = made (changed edit s.present)

locale_fresh : (s : State) → HasNoStale s → (found : Option Locale) → HasNoStale (state_after (and_then (ok_or LocaleName found) (λ locale. locale_given locale s)) s)
locale_fresh s fresh (Some locale) = edit_fresh (SetSetting (setting.Locale locale)) s fresh
locale_fresh s fresh None = fresh

zone_fresh : (s : State) → HasNoStale s → (found : Option Zone) → HasNoStale (state_after (and_then (ok_or ZoneName found) (λ zone. zone_given zone s)) s)
zone_fresh s fresh (Some zone) = edit_fresh (SetSetting (setting.Zone zone)) s fresh
zone_fresh s fresh None = fresh

language_fresh : (s : State) → HasNoStale s → (found : Option Language) → HasNoStale (state_after (speaking_in (ok_or LanguageName found) s) s)
language_fresh s fresh (Some language) = fresh
language_fresh s fresh None = fresh

undo_fresh : (s : State) → HasNoStale s → HasNoStale (state_after (undo_of s) s)
undo_fresh s fresh = steps s.past
  where
    stale : (lists : List (List Diff)) → s.stale_undo ≡ lists → HasNoStale (state_after (undo_stale lists s) s)
    stale [] is = fresh
    stale (list ∷ lists) is = no_list s.stale_undo list lists fresh.0 is

    steps : (past : List Step) → HasNoStale (state_after (undo_from past s) s)
    steps [] = stale s.stale_undo refl
    steps (step ∷ past) = fresh

redo_fresh : (s : State) → HasNoStale s → HasNoStale (state_after (redo_of s) s)
redo_fresh s fresh = steps s.undone
  where
    stale : (lists : List (List Diff)) → s.stale_redo ≡ lists → HasNoStale (state_after (redo_stale lists s) s)
    stale [] is = fresh
    stale (list ∷ lists) is = no_list s.stale_redo list lists fresh.1 is

    steps : (undone : List Step) → HasNoStale (state_after (redo_from undone s) s)
    steps [] = stale s.stale_redo refl
    steps (step ∷ undone) = fresh

asked_fresh : (s : State) → HasNoStale s → (asked : Option Edit) → HasNoStale (option_map_or (λ next. state_after next s) (option_map (λ edit. edit_of edit s) asked) s)
asked_fresh s fresh (Some edit) = edit_fresh edit s fresh
asked_fresh s fresh None = fresh

pub step_fresh : (asked : Command) (s : State) → HasNoStale s → HasNoStale (step_next asked s)
step_fresh command.Undo s fresh = undo_fresh s fresh
step_fresh command.Redo s fresh = redo_fresh s fresh
step_fresh (command.Locale name) s fresh = locale_fresh s fresh (locale_of_name name)
step_fresh (command.Zone name) s fresh = zone_fresh s fresh (zone_of_name name)
step_fresh (command.Language name) s fresh = language_fresh s fresh (language_of_name name)
step_fresh command.Sync s fresh = fresh
step_fresh asked s fresh = asked_fresh s fresh (edit_for asked s)

pub after_fresh : (commands : List Command) (s : State) → HasNoStale s → HasNoStale (after commands s)
after_fresh [] s fresh = fresh
after_fresh (c ∷ cs) s fresh = after_fresh cs (step_next c s) (step_fresh c s fresh)

-- ---- a state that a session stands for

pub own_state : (session : Session) (s : State) → SessionStands session s → HasNoStale s → IsOwn s
own_state session s stands fresh =
    let last = session.copy.document.book in
    record {
      sound = stands.model.sound;
      unrefused = never_refused s fresh;
      carried = (last, stands.copy, subst (λ (o : Option Book). IfSome o (λ book. Carries s.sent (sync_bytes s) book s.present)) stands.copy stands.model.sound.carries);
    }
