-- Every step of the machine keeps it sound.
use Rattle.std.proofs.Common.{◌≡◌, ℕ, ◌+◌, Bool, true, false, cond, List, [], ◌∷◌, ◌++◌, map, length, Option, Some, None, Result, Ok, Err, refl, ap, sym, subst, ◌∙◌}
use Rattle.std.specs.Prelude.{IfSome}
use Rattle.std.specs.List.{AllByRecursion}
use Rattle.base_values.specs.declared.EditError.{EditError}
use Rattle.base_values.specs.Answers.{and_then, map_ok}
use Rattle.base_tables.specs.declared.Language.{Language}
use Rattle.sheet_grid.specs.Book.{Book, ids_of}
use Rattle.sheet_rules.specs.WellFormed.{IsWellFormed}
use Rattle.sheet_history.specs.declared.Diff.{Diff}
use Rattle.sheet_history.specs.declared.DiffType.{DiffType}
use Rattle.sheet_history.specs.declared.DiffType.TheVariants.{Undo, Redo}
use Rattle.sheet_history.specs.declared.QueueDiffs.{QueueDiffs}
use Rattle.sheet_history.specs.Diffs.{book_after, book_before, follow, in_entry, replayed}
use Rattle.sheet_history.specs.laws.ReplayLaws.{replayed_from-push}
use Rattle.sheet_history.specs.laws.TestedLaws.{tested_rules, entry_rules}
use Rattle.sheet_wire.specs.QueueBytes.{IsKnownEntry, encode_queue}
use Rattle.sheet_ids.specs.declared.View.{View}
use Rattle.edit_plans.specs.Edits.{Edit, changed, is_silent}
use Rattle.sheet_history.specs.Selection.{selection_followed}
use Rattle.sheet_ids.specs.Chosen.{id_at}
use Rattle.sheet_ids.specs.Views.{IsViewOf}
use Rattle.sheet_ids.specs.laws.ViewLaws.{viewed_there}
use Rattle.edit_plans.specs.ViewSteps.{view_after}
use Rattle.edit_plans.specs.laws.SeenLaws.{seen_after, some_sheet}
use Rattle.open_book.specs.Machine.{Step, State, step_record, begun, undo_list, redo_list, entry, moved, edited, edit_of, undo_stale, undo_from, undo_of, redo_stale, redo_from, redo_of, seen_along, synced_of, outside, received, sync_bytes}
use Rattle.open_book.specs.Sound.{IsSoundChange, IsSoundStep, Leads, Follows, Carries, CarriesOn, IsSound}
use Rattle.open_book.specs.Encodable.{AreEncodable}

pub sound_begun : (language : Language) (book : Book) → IsWellFormed book → IsSound (begun language book)
sound_begun language book rules = record { present = rules; seen = record { there = some_sheet book rules; inside = refl }; past = tt; undone = tt; carries = record { encoded = refl; led = refl }; encodable = tt; stale_undo = tt; stale_redo = tt }

-- ---- lists of records

all_push : {A : Type 0} (P : A → Type 0) (xs : List A) (x : A) → AllByRecursion P xs → P x → AllByRecursion P (xs ++ x ∷ [])
all_push P [] x all p = (p, tt)
all_push P (y ∷ ys) x all p = (all.0, all_push P ys x all.1 p)

all_append : {A : Type 0} (P : A → Type 0) (xs ys : List A) → AllByRecursion P xs → AllByRecursion P ys → AllByRecursion P (xs ++ ys)
all_append P [] ys one two = two
all_append P (x ∷ xs) ys one two = (one.0, all_append P xs ys one.1 two)

past_encodable : (steps : List Step) (book : Book) → Leads steps book → AllByRecursion AreEncodable (map step_record steps)
past_encodable [] book leads = tt
past_encodable (step ∷ steps) book leads = (leads.1.encodable, past_encodable steps step.before leads.2)

undone_encodable : (steps : List Step) (book : Book) → Follows steps book → AllByRecursion AreEncodable (map step_record steps)
undone_encodable [] book follows = tt
undone_encodable (step ∷ steps) book follows = (follows.1.encodable, undone_encodable steps step.after follows.2)

-- ---- what is sent

-- one entry more leads on from the present workbook
replays_more : (synced : Option Book) (sent : List QueueDiffs) (present later : Book) (kind : DiffType) (list : List Diff)
    → IfSome synced (λ book. replayed book sent ≡ Ok present) → follow kind present list ≡ Ok later → IfSome synced (λ book. replayed book (sent ++ entry kind list ∷ []) ≡ Ok later)
replays_more None sent present later kind list led is = tt
replays_more (Some book) sent present later kind list led is =
    replayed_from-push 0 book sent (entry kind list)
    ∙ ap (λ r. and_then r (λ next. in_entry (0 + length sent) (follow kind next list))) led
    ∙ ap (in_entry (0 + length sent)) is

-- what was sent leads on where its bytes carry on
pub leads_on : (s : State) → CarriesOn (sync_bytes s) s → IfSome s.synced (λ book. replayed book s.sent ≡ Ok s.present)
leads_on s carries = go s.synced carries
  where
    go : (synced : Option Book) → IfSome synced (λ book. Carries s.sent (sync_bytes s) book s.present) → IfSome synced (λ book. replayed book s.sent ≡ Ok s.present)
    go None is = tt
    go (Some book) is = is.led

-- and its bytes carry on where it leads on
carries_on : (synced : Option Book) (sent : List QueueDiffs) (present : Book)
    → IfSome synced (λ book. replayed book sent ≡ Ok present) → IfSome synced (λ book. Carries sent (encode_queue sent) book present)
carries_on None sent present led = tt
carries_on (Some book) sent present led = record { encoded = refl; led = led }

module _ (s : State) (sound : IsSound s) where
  pub undo_encodable : AllByRecursion AreEncodable (undo_list s)
  undo_encodable = all_append AreEncodable (map step_record s.past) s.stale_undo (past_encodable s.past s.present sound.past) sound.stale_undo

  pub redo_encodable : AllByRecursion AreEncodable (redo_list s)
  redo_encodable = all_append AreEncodable (map step_record s.undone) s.stale_redo (undone_encodable s.undone s.present sound.undone) sound.stale_redo

  -- what is seen of a well-formed workbook to which a list led
  seen_followed : (kind : DiffType) (list : List Diff) (later : Book) → IsWellFormed later → IsViewOf (length later.worksheets) (seen_along kind list later s)
  seen_followed kind list later rules =
      viewed_there (id_at s.present.worksheets s.view.sheet) later.worksheets (selection_followed kind (ids_of s.present.worksheets) list s.view.sheet) s.view
      (some_sheet later rules) sound.seen.inside

  -- a list that was followed and sent
  sound_moved : (kind : DiffType) (list : List Diff) (later : Book) (view : View) (past undone : List Step) (stale_undo stale_redo : List (List Diff))
      → IsWellFormed later → IsViewOf (length later.worksheets) view → follow kind s.present list ≡ Ok later → AreEncodable list → Leads past later → Follows undone later
      → AllByRecursion AreEncodable stale_undo → AllByRecursion AreEncodable stale_redo → IsSound (moved kind list later view past undone stale_undo stale_redo s)
  sound_moved kind list later view past undone stale_undo stale_redo rules seen is encodable leads follows one two = record {
    present = rules;
    seen = seen;
    past = leads;
    undone = follows;
    carries = carries_on s.synced (s.sent ++ entry kind list ∷ []) later (replays_more s.synced s.sent s.present later kind list (leads_on s sound.carries) is);
    encodable = all_push IsKnownEntry s.sent (entry kind list) sound.encodable encodable;
    stale_undo = one;
    stale_redo = two;
  }

  -- ---- edits

  sound_edited : (edit : Edit) (later : Book) → changed edit s.present ≡ Ok later → IsSoundStep (record { edit = edit; before = s.present; after = later }) → IsSound (edited edit s later)
  sound_edited edit later how step =
      let it : Step = record { edit = edit; before = s.present; after = later } in
      sound_moved Redo (step_record it) later (view_after edit s.present later s.view) (it ∷ s.past) [] s.stale_undo [] step.after
      (seen_after edit s.present later s.view step.after how sound.seen.inside) step.forth step.encodable (refl, step, sound.past) tt sound.stale_undo tt

  -- the state after an edit that is not refused is sound, if its step is
  pub sound_edit : (edit : Edit) (next : State) → IsSoundChange edit s.present → edit_of edit s ≡ Ok next → IsSound next
  sound_edit edit next change is = either (is_silent edit s.present) refl is
    where
      go : is_silent edit s.present ≡ false → (r : Result Book EditError) → changed edit s.present ≡ r → map_ok (edited edit s) r ≡ Ok next → IsSound next
      go loud (Err error) how e = absurd (let never : ◌≡◌ {A = Result State EditError} (Err error) (Ok next) = e in cc)
      go loud (Ok later) how e = let same : edited edit s later ≡ next = cc in subst IsSound same (sound_edited edit later how (change loud later how))

      either : (b : Bool) → is_silent edit s.present ≡ b → ◌≡◌ {A = Result State EditError} (cond b (Ok s) (map_ok (edited edit s) (changed edit s.present))) (Ok next) → IsSound next
      either true silent e = let same : s ≡ next = cc in subst IsSound same sound
      either false loud e = go loud (changed edit s.present) refl e

  -- ---- undo

  abbrev stale_undone : List Diff → List (List Diff) → Book → State
  stale_undone list stale earlier = moved Undo list earlier (seen_along Undo list earlier s) [] [] stale (list ∷ redo_list s) s

  undo_stale_sound : (stale : List (List Diff)) (next : State) → AllByRecursion AreEncodable stale → undo_stale stale s ≡ Ok next → IsSound next
  undo_stale_sound [] next all is = let same : s ≡ next = cc in subst IsSound same sound
  undo_stale_sound (list ∷ stale) next all is = go (book_before s.present list) refl is
    where
      go : (r : Result Book EditError) → book_before s.present list ≡ r → map_ok (stale_undone list stale) r ≡ Ok next → IsSound next
      go (Ok earlier) how e =
          let same : stale_undone list stale earlier ≡ next = cc in
          subst IsSound same (sound_moved Undo list earlier (seen_along Undo list earlier s) [] [] stale (list ∷ redo_list s) (tested_rules _ _ earlier how) (seen_followed Undo list earlier (tested_rules _ _ earlier how)) how all.0 tt tt all.1 (all.0, redo_encodable))
      go (Err error) how e = absurd (let never : ◌≡◌ {A = Result State EditError} (Err error) (Ok next) = e in cc)

  undo_from_sound : (past : List Step) (next : State) → Leads past s.present → undo_from past s ≡ Ok next → IsSound next
  undo_from_sound [] next leads is = undo_stale_sound s.stale_undo next sound.stale_undo is
  undo_from_sound (step ∷ past) next leads is =
      let same : moved Undo (step_record step) step.before (seen_along Undo (step_record step) step.before s) past (step ∷ s.undone) s.stale_undo s.stale_redo s ≡ next = cc in
      subst IsSound same
      (sound_moved Undo (step_record step) step.before (seen_along Undo (step_record step) step.before s) past (step ∷ s.undone) s.stale_undo s.stale_redo leads.1.before (seen_followed Undo (step_record step) step.before leads.1.before)
      (ap (λ book. book_before book (step_record step)) (sym leads.0) ∙ leads.1.back) leads.1.encodable leads.2
      (refl, leads.1, subst (Follows s.undone) (sym leads.0) sound.undone) sound.stale_undo sound.stale_redo)

  pub sound_undo : (next : State) → undo_of s ≡ Ok next → IsSound next
  sound_undo next is = undo_from_sound s.past next sound.past is

  -- ---- redo

  abbrev stale_redone : List Diff → List (List Diff) → Book → State
  stale_redone list stale later = moved Redo list later (seen_along Redo list later s) [] [] (list ∷ undo_list s) stale s

  redo_stale_sound : (stale : List (List Diff)) (next : State) → AllByRecursion AreEncodable stale → redo_stale stale s ≡ Ok next → IsSound next
  redo_stale_sound [] next all is = let same : s ≡ next = cc in subst IsSound same sound
  redo_stale_sound (list ∷ stale) next all is = go (book_after s.present list) refl is
    where
      go : (r : Result Book EditError) → book_after s.present list ≡ r → map_ok (stale_redone list stale) r ≡ Ok next → IsSound next
      go (Ok later) how e =
          let same : stale_redone list stale later ≡ next = cc in
          subst IsSound same (sound_moved Redo list later (seen_along Redo list later s) [] [] (list ∷ undo_list s) stale (tested_rules _ _ later how) (seen_followed Redo list later (tested_rules _ _ later how)) how all.0 tt tt (all.0, undo_encodable) all.1)
      go (Err error) how e = absurd (let never : ◌≡◌ {A = Result State EditError} (Err error) (Ok next) = e in cc)

  redo_from_sound : (undone : List Step) (next : State) → Follows undone s.present → redo_from undone s ≡ Ok next → IsSound next
  redo_from_sound [] next follows is = redo_stale_sound s.stale_redo next sound.stale_redo is
  redo_from_sound (step ∷ undone) next follows is =
      let same : moved Redo (step_record step) step.after (seen_along Redo (step_record step) step.after s) (step ∷ s.past) undone s.stale_undo s.stale_redo s ≡ next = cc in
      subst IsSound same
      (sound_moved Redo (step_record step) step.after (seen_along Redo (step_record step) step.after s) (step ∷ s.past) undone s.stale_undo s.stale_redo follows.1.after (seen_followed Redo (step_record step) step.after follows.1.after)
      (ap (λ book. book_after book (step_record step)) (sym follows.0) ∙ follows.1.forth) follows.1.encodable
      (refl, follows.1, subst (Leads s.past) (sym follows.0) sound.past) follows.2 sound.stale_undo sound.stale_redo)

  pub sound_redo : (next : State) → redo_of s ≡ Ok next → IsSound next
  sound_redo next is = redo_from_sound s.undone next sound.undone is

  -- ---- views, sync, and entries of other copies

  pub sound_seen : (view : View) → IsViewOf (length s.present.worksheets) view → IsSound (record s { view = view })
  sound_seen view seen = record {
    present = sound.present;
    seen = seen;
    past = sound.past;
    undone = sound.undone;
    carries = sound.carries;
    encodable = sound.encodable;
    stale_undo = sound.stale_undo;
    stale_redo = sound.stale_redo;
  }

  pub sound_sync : IsSound (synced_of s)
  sound_sync = record { present = sound.present; seen = sound.seen; past = sound.past; undone = sound.undone; carries = record { encoded = refl; led = refl }; encodable = tt; stale_undo = sound.stale_undo; stale_redo = sound.stale_redo }

  pub sound_received : (at : ℕ) (one : QueueDiffs) (next : State) → received at one s ≡ Ok next → IsSound next
  sound_received at one next is = go (in_entry at (follow one.kind s.present one.list)) refl is
    where
      go : (r : Result Book EditError) → in_entry at (follow one.kind s.present one.list) ≡ r → map_ok (outside one s) r ≡ Ok next → IsSound next
      go (Ok later) how e =
          let same : outside one s later ≡ next = cc in
          subst IsSound same (record {
            present = entry_rules at one.kind s.present one.list later how;
            seen = seen_followed one.kind one.list later (entry_rules at one.kind s.present one.list later how);
            past = tt;
            undone = tt;
            carries = tt;
            encodable = sound.encodable;
            stale_undo = undo_encodable;
            stale_redo = redo_encodable;
          })
      go (Err error) how e = absurd (let never : ◌≡◌ {A = Result State EditError} (Err error) (Ok next) = e in cc)
