-- A step of the model, which the machine makes or refuses.
use Rattle.std.proofs.Common.{◌≡◌, ◌≢◌, ◌++◌, Bool, true, false, ℕ, List, [], ◌∷◌, Some, Result, Ok, Err, refl, ap, sym, subst, ◌∙◌}
use Rattle.std.specs.Prelude.{OnOk, OnErr, IfErr, IsOkUnless, if◌then◌else◌}
use Rattle.base_values.specs.declared.EditError.{EditError}
use Rattle.base_values.specs.declared.EditError.TheVariants.{NoMemory}
use Rattle.base_values.specs.Answers.{and_then, map_ok}
use Rattle.sheet_grid.specs.Book.{Book}
use Rattle.sheet_history.specs.declared.Diff.{Diff}
use Rattle.sheet_history.specs.declared.DiffType.TheVariants.{Undo, Redo}
use Rattle.sheet_history.specs.Diffs.{book_before, book_after}
use Rattle.edit_plans.specs.Edits.{Edit, changed, is_silent}
use Rattle.open_book.specs.Machine.{Step, State, edited, edit_of, moved, redo_from, redo_list, redo_of, redo_stale, seen_along, speaking_in, undo_from, undo_list, undo_of, undo_stale}
use Rattle.base_tables.specs.declared.Language.{Language}
use Rattle.base_tables.specs.declared.Locale.{Locale}
use Rattle.base_tables.specs.declared.Zone.{Zone}
use Rattle.sheet_history.specs.declared.Setting.TheVariants as setting
use Rattle.edit_plans.specs.Edits.Edit.{SetSetting}
use Rattle.user_model.specs.Settings.{language_named, language_set, locale_given, locale_named, locale_set, zone_given, zone_named, zone_set}
use Rattle.open_book.specs.Document.{Document}
use Rattle.open_book.specs.Stands.{StandsFor, Moves, MovesOrNoMemory}
use Rattle.open_book.specs.Values.{Session as Opened}
use Rattle.script_runs.specs.Script.{outcome, reply_text, state_after}
use Rattle.script_runs.specs.Session.{SessionStands, Runs}
use Rattle.script_runs.specs.declared.session.Session.{Session}

-- a step leaves the workbook of the last sync
abbrev pub KeepsSync : Result State EditError → State → Type 0
KeepsSync expected s = (state_after expected s).synced ≡ s.synced

made_keeps : (later : Book → State) (s : State) → ((book : Book) → (later book).synced ≡ s.synced) → (result : Result Book EditError) → KeepsSync (map_ok later result) s
made_keeps later s keeps (Ok book) = keeps book
made_keeps later s keeps (Err error) = refl

pub edit_keeps : (edit : Edit) (s : State) → KeepsSync (edit_of edit s) s
edit_keeps edit s = chosen (is_silent edit s.present)
  where
    chosen : (silent : Bool) → KeepsSync (if silent then Ok s else map_ok (edited edit s) (changed edit s.present)) s
    chosen true = refl
    chosen false = made_keeps (edited edit s) s (λ book. refl) (changed edit s.present)

pub locale_keeps : (name : List ℕ) (s : State) → KeepsSync (locale_set name s) s
locale_keeps name s = go (locale_named name)
  where
    go : (found : Result Locale EditError) → KeepsSync (and_then found (λ locale. locale_given locale s)) s
    go (Ok locale) = edit_keeps (SetSetting (setting.Locale locale)) s
    go (Err error) = refl

pub zone_keeps : (name : List ℕ) (s : State) → KeepsSync (zone_set name s) s
zone_keeps name s = go (zone_named name)
  where
    go : (found : Result Zone EditError) → KeepsSync (and_then found (λ zone. zone_given zone s)) s
    go (Ok zone) = edit_keeps (SetSetting (setting.Zone zone)) s
    go (Err error) = refl

pub language_keeps : (name : List ℕ) (s : State) → KeepsSync (language_set name s) s
language_keeps name s = go (language_named name)
  where
    go : (found : Result Language EditError) → KeepsSync (speaking_in found s) s
    go (Ok language) = refl
    go (Err error) = refl

pub undo_keeps : (s : State) → KeepsSync (undo_of s) s
undo_keeps s = steps s.past
  where
    stale : (lists : List (List Diff)) → KeepsSync (undo_stale lists s) s
    stale [] = refl
    stale (list ∷ lists) = made_keeps (λ earlier. moved Undo list earlier (seen_along Undo list earlier s) [] [] lists (list ∷ redo_list s) s) s (λ book. refl) (book_before s.present list)

    steps : (past : List Step) → KeepsSync (undo_from past s) s
    steps [] = stale s.stale_undo
    steps (step ∷ past) = refl

pub redo_keeps : (s : State) → KeepsSync (redo_of s) s
redo_keeps s = steps s.undone
  where
    stale : (lists : List (List Diff)) → KeepsSync (redo_stale lists s) s
    stale [] = refl
    stale (list ∷ lists) = made_keeps (λ later. moved Redo list later (seen_along Redo list later s) [] [] (list ∷ undo_list s) lists s) s (λ book. refl) (book_after s.present list)

    steps : (undone : List Step) → KeepsSync (redo_from undone s) s
    steps [] = stale s.stale_redo
    steps (step ∷ undone) = refl

pub moves_turn : {T : Type 0} (result : Result T EditError) (new : Document) (expected : Result State EditError) → Moves result new expected → MovesOrNoMemory result new expected
moves_turn result new expected moves = record { done = moves.done; refused = moves.refused }

-- the model after a step that was answered
answered : (done : Result (Unit {0}) EditError) (old new : Opened) (s : State) (expected : Result State EditError) → StandsFor old.document s → MovesOrNoMemory done new.document expected
    → OnErr done (new ≡ old) → IfErr done (λ error. error ≢ NoMemory) → (outcome done ≡ outcome expected) × StandsFor new.document (state_after expected s)
answered (Ok u) old new s (Ok next) stands turns err memory = (refl, turns.done)
answered (Ok u) old new s (Err error) stands turns err memory = absurd turns.done
answered (Err error) old new s expected stands turns err memory =
    let refused = turns.refused memory in
    (sym (ap outcome refused), subst (λ (e : Result State EditError). StandsFor new.document (state_after e s)) (sym refused) (subst (λ (v : Opened). StandsFor v.document s) (sym err) stands))

-- a command that made a step and wrote its outcome ran
pub step_runs : (result done : Result (Unit {0}) EditError) (old new : Session) (s : State) (expected : Result State EditError) → KeepsSync expected s → SessionStands old s
    → MovesOrNoMemory done new.model.document expected → OnErr done (new.model ≡ old.model) → new.copy ≡ old.copy
    → OnOk result (new.out.items ≡ old.out.items ++ reply_text (outcome done)) → OnOk result (IfErr done (λ error. error ≢ NoMemory)) → IsOkUnless result NoMemory
    → Runs result old new (reply_text (outcome expected)) (state_after expected s) (Unit {0})
step_runs (Ok u) done old new s expected keeps stands turns err copy out memory only =
    let after = answered done old.model new.model s expected stands.model turns err memory in
    record {
      out = out ∙ ap (λ reply. old.out.items ++ reply_text reply) after.0;
      stands = record { model = after.1; copy = keeps ∙ stands.copy ∙ ap (λ v. Some v.document.book) (sym copy) };
      only = tt;
      sends = tt;
    }
step_runs (Err error) done old new s expected keeps stands turns err copy out memory only = record { out = tt; stands = tt; only = only; sends = tt }
