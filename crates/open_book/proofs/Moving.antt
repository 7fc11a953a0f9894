-- What is said of documents holds of the states that they stand for.
use Rattle.std.proofs.Common.{◌≡◌, ◌≢◌, ◌<◌, length, ℕ, ℤ, Bool, true, false, cond, List, [], Result, Ok, Err, refl, ap, sym, subst, ◌∙◌}
use Rattle.std.specs.Prelude.{OnOk, OnErr, IfErr, IfOk, IfSome, IsOk, IsOkAnd, IsTrue}
use Rattle.std.proofs.Common.{Option, Some, None}
use Rattle.std.specs.Prelude.{slice_get}
use Rattle.std.proofs.lemmas.Option.{slice_get_within}
use Rattle.base_values.specs.declared.EditError.{EditError}
use Rattle.base_values.specs.declared.EditError.TheVariants.{InvalidArea, InvalidSheet, NoMemory}
use Rattle.base_values.specs.Answers.{Edits, Changes, and_then, map_ok, ok_or}
use Rattle.sheet_grid.specs.Sheet.{Sheet}
use Rattle.sheet_grid.specs.Book.{Book, sheet_at}
use Rattle.sheet_rules.specs.WellFormed.{IsWellFormed}
use Rattle.sheet_history.specs.declared.QueueDiffs.{QueueDiffs}
use Rattle.sheet_history.specs.Diffs.{replayed}
use Rattle.sheet_wire.specs.QueueBytes.{IsKnownQueue, FitsQueue, encode_queue}
use Rattle.sheet_ids.specs.declared.View.{View}
use Rattle.sheet_ids.specs.Chosen.{id_at}
use Rattle.sheet_ids.specs.Views.{IsViewOf, is_range, range_chosen, range_from}
use Rattle.sheet_ids.specs.laws.ViewLaws.{viewed_there}
use Rattle.edit_plans.specs.Edits.{Edit, changed, is_of_entries, is_of_sheets, is_silent}
use Rattle.edit_plans.specs.Plans.{Plans, PlansSheets}
use Rattle.edit_plans.specs.Edits.Edit.{DeleteSheet, SetField}
use Rattle.edit_plans.specs.SheetEdits.{field_set, sheet_deleted}
use Rattle.std.specs.Prelude.{◌&&◌}
use Rattle.sheet_rules.specs.laws.EntryLaws.{both}
use Rattle.edit_plans.specs.ViewSteps.{selected_by, view_asked}
use Rattle.edit_plans.specs.laws.SeenLaws.{some_sheet}
use Rattle.edit_plans.specs.laws.ViewLaws.{view_kept, keeps_range}
use Rattle.sheet_history.specs.declared.Diff.{Diff}
use Rattle.sheet_history.specs.declared.SheetField.{SheetField}
use Rattle.open_book.specs.declared.open_book.OpenBook.{OpenBook}
use Rattle.open_book.specs.declared.recalc.Results.{Results}
use Rattle.open_book.specs.Document.{Document, document, document_edit, document_undo, document_redo, document_received}
use Rattle.open_book.specs.Machine.{State, edit_of, edited, looking, undo_of, redo_of, synced_of, received}
use Rattle.open_book.specs.Opened.{document_in, session_of}
use Rattle.open_book.specs.Sound.{Carries, IsSound, IsSoundChange}
use Rattle.open_book.specs.Stands.{StandsFor, IsReached, IsPlanOf, IsSeenPlan, Moves, MovesOrNoMemory}
use Rattle.open_book.specs.Values.{Session, seeing}
use Rattle.open_book.specs.Views.{sheet_chosen, view_at}
use Rattle.open_book.proofs.Documents.{document_edited, document_undone, document_redone, document_taken}
use Rattle.open_book.proofs.EntrySteps.{entries_plan}
use Rattle.open_book.proofs.SheetSteps.{SheetLaw, sheets_plan}
use Rattle.open_book.proofs.Sounds.{leads_on, sound_edit, sound_undo, sound_redo, sound_seen, sound_sync, sound_received}

-- ---- results

-- what holds anyway holds of an accepted call too, and what an accepted call gives may be used for more
pub on_ok : {A : Type 0} {T E : Type 0} (result : Result T E) → A → OnOk result A
on_ok (Ok value) holds = holds
on_ok (Err error) holds = tt

pub on_ok_map : {A B : Type 0} {T E : Type 0} (result : Result T E) → (A → B) → OnOk result A → OnOk result B
on_ok_map (Ok value) f holds = f holds
on_ok_map (Err error) f holds = tt

pub on_err_map : {A B : Type 0} {T E : Type 0} (result : Result T E) → (A → B) → OnErr result A → OnErr result B
on_err_map (Ok value) f holds = tt
on_err_map (Err error) f holds = f holds

-- where the document is edited for sure, it may be out of memory
pub changes_from : (result : Result (Unit {0}) EditError) (old new : Document) (expected : Result Document EditError) → IsOk expected → Edits result old new expected → Changes result old new expected
changes_from (Ok u) old new expected is edits = record { done = edits.done; refused = tt; memory = tt }
changes_from (Err error) old new expected is edits = record { done = tt; refused = edits.refused; memory = λ short. is }

-- a refused edit leaves the document
pub edits_same : (result : Result (Unit {0}) EditError) (old new : Document) (expected : Result Document EditError) → Edits result old new expected → OnErr result (new ≡ old)
edits_same (Ok u) old new expected edits = tt
edits_same (Err error) old new expected edits = edits.refused.0

pub changes_same : (result : Result (Unit {0}) EditError) (old new : Document) (expected : Result Document EditError) → Changes result old new expected → OnErr result (new ≡ old)
changes_same (Ok u) old new expected changes = tt
changes_same (Err error) old new expected changes = changes.refused.0

mapped_ok : {A B E : Type 0} (f : A → B) (r : Result A E) → IsOk (map_ok f r) → IsOk r
mapped_ok f (Ok x) h = refl
mapped_ok f (Err error) h = h

-- ---- from documents to states

-- a call that edits the document as the machine's step does takes the model to what stands for the next state
turns : (old new : Document) (s : State) (result : Result (Unit {0}) EditError) (f : Document → Result Document EditError) (expected : Result State EditError)
    → StandsFor old s → Edits result old new (f old) → f (document s) ≡ map_ok document expected
    → OnOk result ((next : State) → expected ≡ Ok next → IsSound next) → MovesOrNoMemory result new expected
turns old new s (Ok u) f expected stands edits along sound = go expected along sound
  where
    led : f (document s) ≡ Ok new
    led = ap f (sym stands.document) ∙ edits.done

    go : (e : Result State EditError) → f (document s) ≡ map_ok document e → ((next : State) → e ≡ Ok next → IsSound next) → MovesOrNoMemory (Ok u) new e
    go (Ok next) is keeps =
        let same : ◌≡◌ {A = Result Document EditError} (Ok new) (Ok (document next)) = sym led ∙ is in
        let documents : new ≡ document next = cc in
        record { done = record { document = documents; sound = keeps next refl }; refused = tt }
    go (Err error) is keeps = let never : ◌≡◌ {A = Result Document EditError} (Ok new) (Err error) = sym led ∙ is in absurd cc
turns old new s (Err error) f expected stands edits along sound =
    record { done = tt; refused = λ other. go expected (sym along ∙ ap f (sym stands.document) ∙ edits.refused.1 other) }
  where
    go : (e : Result State EditError) → map_ok document e ≡ Err error → e ≡ Err error
    go (Ok next) is = cc
    go (Err other) is = cc

-- a call that edits the document moves as the machine does, if its edit is a sound step
pub edit_moves : (edit : Edit) (old new : Document) (result : Result (Unit {0}) EditError) → Changes result old new (document_edit edit old) → OnOk result (IsSoundChange edit old.book)
    → (s : State) → StandsFor old s → Moves result new (edit_of edit s)
edit_moves edit old new result changes sound s stands =
    let to = turns old new s result (document_edit edit) (edit_of edit s) stands (record { done = changes.done; refused = changes.refused }) (document_edited edit s)
    (on_ok_map result (λ change next is. sound_edit s stands.sound edit next (subst (IsSoundChange edit) (ap (λ (d : Document). d.book) stands.document) change) is) sound) in
    record { done = to.done; refused = to.refused; memory = memory result changes.memory }
  where
    memory : (r : Result (Unit {0}) EditError) → IfErr r (λ error. error ≡ NoMemory → IsOk (document_edit edit old)) → IfErr r (λ error. error ≡ NoMemory → IsOk (edit_of edit s))
    memory (Ok u) h = tt
    memory (Err error) h = λ short. mapped_ok document (edit_of edit s) (subst IsOk (ap (document_edit edit) stands.document ∙ document_edited edit s) (h short))

-- a call that takes the newest list back in the document turns as the machine does
pub undo_turns : (old new : Document) (result : Result (Unit {0}) EditError) → Edits result old new (document_undo old) → (s : State) → StandsFor old s → MovesOrNoMemory result new (undo_of s)
undo_turns old new result edits s stands =
    turns old new s result document_undo (undo_of s) stands edits (document_undone s stands.sound) (on_ok result (sound_undo s stands.sound))

-- and so does one that makes it again
pub redo_turns : (old new : Document) (result : Result (Unit {0}) EditError) → Edits result old new (document_redo old) → (s : State) → StandsFor old s → MovesOrNoMemory result new (redo_of s)
redo_turns old new result edits s stands =
    turns old new s result document_redo (redo_of s) stands edits (document_redone s stands.sound) (on_ok result (sound_redo s stands.sound))

-- and one that follows an entry of another copy
pub received_turns : (at : ℕ) (one : QueueDiffs) (old new : Document) (result : Result (Unit {0}) EditError) → Edits result old new (document_received at one old) → (s : State) → StandsFor old s
    → MovesOrNoMemory result new (received at one s)
received_turns at one old new result edits s stands =
    turns old new s result (document_received at one) (received at one s) stands edits (document_taken at one s) (on_ok result (sound_received s stands.sound at one))

-- ---- the states of a document

-- where it turns from each state that it stood for, it stands for some state again
pub reached_on : (result : Result (Unit {0}) EditError) (old new : Document) (step : State → Result State EditError)
    → OnErr result (new ≡ old) → ((s : State) → StandsFor old s → MovesOrNoMemory result new (step s)) → IsReached old → IsReached new
reached_on (Ok u) old new step same goes is = go (step is.0) (goes is.0 is.1)
  where
    go : (e : Result State EditError) → MovesOrNoMemory (Ok u) new e → IsReached new
    go (Ok next) to = (next, to.done)
    go (Err error) to = absurd to.done
reached_on (Err error) old new step same goes is = subst IsReached (sym same) is

-- the same of one that moves
pub reached_by : (result : Result (Unit {0}) EditError) (old new : Document) (step : State → Result State EditError)
    → OnErr result (new ≡ old) → ((s : State) → StandsFor old s → Moves result new (step s)) → IsReached old → IsReached new
reached_by result old new step same goes is = reached_on result old new step same (λ s stands. let to = goes s stands in record { done = to.done; refused = to.refused }) is

-- a document that stands for some state has a well-formed workbook
pub reached_rules : (doc : Document) → IsReached doc → IsWellFormed doc.book
reached_rules doc is = subst IsWellFormed (sym (ap (λ (d : Document). d.book) is.1.document)) is.1.sound.present

-- what is queued can be encoded
pub queued_known : (doc : Document) → IsReached doc → IsKnownQueue doc.queue
queued_known doc is = subst IsKnownQueue (sym (ap (λ (d : Document). d.queue) is.1.document)) is.1.sound.encodable

-- ---- what callers see

-- a refused call leaves the session
pub same_session : {T : Type 0} (result : Result T EditError) (book later : OpenBook) (results output : Results) (seen : Session) → session_of book results ≡ seen
    → OnErr result (document_in later ≡ document_in book) → OnErr result (output ≡ results) → OnErr result (session_of later output ≡ seen)
same_session (Ok value) book later results output seen is one two = tt
same_session (Err error) book later results output seen is one two = (λ i. record { document = one i; values = (two i).values; paused = (two i).paused }) ∙ is

-- ---- silent edits

-- an edit that does nothing leaves the state
pub silent_moves : (edit : Edit) (doc : Document) (s : State) → StandsFor doc s → is_silent edit doc.book ≡ true → Moves {T = Unit {0}} (Ok tt) doc (edit_of edit s)
silent_moves edit doc s stands silent =
    let here : is_silent edit s.present ≡ true = subst (λ (d : Document). is_silent edit d.book ≡ true) stands.document silent in
    let stays : edit_of edit s ≡ Ok s = ap (λ b. cond b (Ok s) (map_ok (edited edit s) (changed edit s.present))) here in
    record { done = subst (λ r. IsOkAnd r (StandsFor doc)) (sym stays) stands; refused = tt; memory = tt }

-- ---- a sync

-- the document with an empty queue stands for the state after a sync
pub synced_document : (doc new : Document) (s : State) → StandsFor doc s → new ≡ record doc { queue = [] } → StandsFor new (synced_of s)
synced_document doc new s is same = record {
  document = same ∙ ap (λ (d : Document). record d { queue = [] }) is.document;
  sound = sound_sync s is.sound;
}

pub flushed_carries : (doc : Document) (s : State) (bytes : List ℕ) → StandsFor doc s → bytes ≡ encode_queue doc.queue → IfSome s.synced (λ book. Carries s.sent bytes book s.present)
flushed_carries doc s bytes stands is = go s.synced (leads_on s stands.sound.carries)
  where
    encoded : bytes ≡ encode_queue s.sent
    encoded = is ∙ ap (λ (d : Document). encode_queue d.queue) stands.document

    go : (synced : Option Book) → IfSome synced (λ book. replayed book s.sent ≡ Ok s.present) → IfSome synced (λ book. Carries s.sent bytes book s.present)
    go None led = tt
    go (Some book) led = record { encoded = encoded; led = led }

pub flushed_fits : (doc : Document) (s : State) → StandsFor doc s → FitsQueue doc.queue → FitsQueue s.sent
flushed_fits doc s stands fits = subst (λ (d : Document). FitsQueue d.queue) stands.document fits

-- a plan of the workbook inside is one of the document that callers see
module _ (edit : Edit) (plan : Result (List Diff) EditError) (selected : ℕ) (book : OpenBook) (results : Results) (seen : Session) (same : session_of book results ≡ seen)
    (reached : IsReached (document_in book)) (selects : IsOk (changed edit book.workbook) → selected_by edit book.workbook book.view.sheet ≡ selected) where
  pub plan_of : IsTrue (is_of_entries edit && keeps_range edit) → Plans plan book.workbook (changed edit book.workbook) → IsPlanOf edit plan selected seen.document
  plan_of is plans =
      let parts = both (is_of_entries edit) (keeps_range edit) is in
      subst (λ (session : Session). IsPlanOf edit plan selected session.document) same
      (entries_plan edit parts.0 (document_in book) (reached_rules (document_in book) reached) plan selected book.view selects (λ accepted. view_kept edit parts.1 book.workbook book.view) plans)

  -- the same where it asks for another view
  pub seen_plan_of : (view : View) → (IsOk (changed edit book.workbook) → view_asked edit book.workbook book.view ≡ view) → IsTrue (is_of_entries edit)
      → Plans plan book.workbook (changed edit book.workbook) → IsSeenPlan edit plan selected view seen.document
  seen_plan_of view asks is plans =
      subst (λ (session : Session). IsSeenPlan edit plan selected view session.document) same
      (entries_plan edit is (document_in book) (reached_rules (document_in book) reached) plan selected view selects asks plans)

  pub sheet_plan_of : SheetLaw → IsTrue (is_of_sheets edit) → is_silent edit book.workbook ≡ false → PlansSheets edit plan book.workbook → IsPlanOf edit plan selected seen.document
  sheet_plan_of law is loud plans =
      subst (λ (session : Session). IsPlanOf edit plan selected session.document) same
      (sheets_plan law edit is (document_in book) (reached_rules (document_in book) reached) plan selected loud selects plans)

-- the sheet at the index of an edit that is accepted is there
edit_there : (index : ℕ) (w : Book) (f : Sheet → Result Book EditError) → IsOk (and_then (sheet_at w index) f) → index < length w.worksheets
edit_there index w f is = go (slice_get w.worksheets index) refl is
  where
    go : (o : Option Sheet) → slice_get w.worksheets index ≡ o → IsOk (and_then (ok_or InvalidSheet o) f) → index < length w.worksheets
    go (Some sheet) found ok = slice_get_within w.worksheets index sheet found
    go None found ok = absurd (let never : false ≡ true = ok in cc)

pub deletion_there : (index : ℕ) (w : Book) → IsOk (changed (DeleteSheet index) w) → index < length w.worksheets
unfolding sheet_deleted
deletion_there index w is = edit_there index w _ is

pub field_there : (index : ℕ) (value : SheetField) (w : Book) → IsOk (changed (SetField index value) w) → index < length w.worksheets
unfolding field_set
field_there index value w is = edit_there index w _ is

-- ---- views

-- the document with another view stands for the state with it
pub seen_stands : (doc : Document) (s : State) (view : View) → StandsFor doc s → IsViewOf (length doc.book.worksheets) view → StandsFor (record doc { view = view }) (record s { view = view })
seen_stands doc s view is seen = record {
  document = ap (λ (d : Document). record d { view = view }) is.document;
  sound = sound_seen s is.sound view (subst (λ (d : Document). IsViewOf (length d.book.worksheets) view) is.document seen);
}

pub seen_reached : (doc : Document) (view : View) → IsReached doc → IsViewOf (length doc.book.worksheets) view → IsReached (record doc { view = view })
seen_reached doc view is seen = (record is.0 { view = view }, seen_stands doc is.0 view is.1 seen)

-- the view of a document that is reached is one of its workbook
pub reached_view : (doc : Document) → IsReached doc → IsViewOf (length doc.book.worksheets) doc.view
reached_view doc is = subst (λ (d : Document). IsViewOf (length d.book.worksheets) d.view) (sym is.1.document) is.1.sound.seen

-- so is that of a sheet of the workbook that was chosen
pub chosen_view : (index : ℕ) (doc : Document) (view : View) → IsReached doc → sheet_chosen index doc.book doc.view ≡ Ok view → IsViewOf (length doc.book.worksheets) view
chosen_view index doc view is chosen = go (sheet_at doc.book index) chosen
  where
    go : (r : Result Sheet EditError) → map_ok (λ sheet. view_at index doc.book doc.book doc.view) r ≡ Ok view → IsViewOf (length doc.book.worksheets) view
    go (Ok sheet) e =
        let same : view_at index doc.book doc.book doc.view ≡ view = cc in
        subst (IsViewOf (length doc.book.worksheets)) same
        (viewed_there (id_at doc.book.worksheets doc.view.sheet) doc.book.worksheets index doc.view (some_sheet doc.book (reached_rules doc is)) (reached_view doc is).inside)
    go (Err error) e = absurd (let never : ◌≡◌ {A = Result View EditError} (Err error) (Ok view) = e in cc)

-- and that of a rectangle
pub range_view : (first_row first_column last_row last_column : ℤ) (doc : Document) (view : View) → IsReached doc
    → range_chosen doc.view first_row first_column last_row last_column ≡ Ok view → IsViewOf (length doc.book.worksheets) view
range_view first_row first_column last_row last_column doc view is chosen = go (is_range first_row first_column last_row last_column) refl chosen
  where
    go : (b : Bool) → is_range first_row first_column last_row last_column ≡ b
        → ◌≡◌ {A = Result View EditError} (cond b (Ok (record doc.view { range = range_from first_row first_column last_row last_column })) (Err InvalidArea)) (Ok view)
        → IsViewOf (length doc.book.worksheets) view
    go true inside e =
        let same : record doc.view { range = range_from first_row first_column last_row last_column } ≡ view = cc in
        subst (IsViewOf (length doc.book.worksheets)) same (record { there = (reached_view doc is).there; inside = inside })
    go false inside e = absurd (let never : ◌≡◌ {A = Result View EditError} (Err InvalidArea) (Ok view) = e in cc)

pub sheet_seen : (result : Result View EditError) (index : ℕ) (doc : Document) → IsReached doc → result ≡ sheet_chosen index doc.book doc.view → IfOk result (IsViewOf (length doc.book.worksheets))
sheet_seen (Ok view) index doc reached is = chosen_view index doc view reached (sym is)
sheet_seen (Err error) index doc reached is = tt

pub range_seen : (result : Result View EditError) (first_row first_column last_row last_column : ℤ) (doc : Document) → IsReached doc
    → result ≡ range_chosen doc.view first_row first_column last_row last_column → IfOk result (IsViewOf (length doc.book.worksheets))
range_seen (Ok view) first_row first_column last_row last_column doc reached is = range_view first_row first_column last_row last_column doc view reached (sym is)
range_seen (Err error) first_row first_column last_row last_column doc reached is = tt

-- a view that was chosen is the one of the state
pub looked : (old new : Session) (s : State) (view : View) → new ≡ seeing old view → IsViewOf (length old.document.book.worksheets) view → StandsFor old.document s → Moves {T = Unit {0}} (Ok tt) new.document (looking (Ok view) s)
looked old new s view is seen stands =
    record { done = subst (λ (session : Session). StandsFor session.document (record s { view = view })) (sym is) (seen_stands old.document s view stands seen); refused = tt; memory = tt }

-- and one that was refused is not
pub not_looked : (old : Session) (s : State) (error : EditError) → error ≢ NoMemory → StandsFor old.document s → Moves {T = Unit {0}} (Err error) old.document (looking (Err error) s)
not_looked old s error sure stands = record { done = tt; refused = λ other. refl; memory = λ short. absurd (sure short) }

-- to choose a rectangle takes no memory
pub range_sure : (result : Result View EditError) (view : View) (first_row first_column last_row last_column : ℤ) → result ≡ range_chosen view first_row first_column last_row last_column → result ≢ Err NoMemory
range_sure result view first_row first_column last_row last_column is short = go (is_range first_row first_column last_row last_column) _ (sym is ∙ short)
  where
    go : (b : Bool) (seen : View) → ◌≡◌ {A = Result View EditError} (cond b (Ok seen) (Err InvalidArea)) (Err NoMemory) → ⊥
    go true seen never = cc
    go false seen never = cc
