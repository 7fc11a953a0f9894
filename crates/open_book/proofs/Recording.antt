-- What becomes of a document where a list was followed, or was refused.
use Rattle.std.proofs.Common.{◌≡◌, ◌≢◌, ℕ, Bool, true, false, List, [], ◌∷◌, ◌++◌, map, take, length, Result, Ok, Err, refl, ap, sym, subst, ◌∙◌, arith}
use Rattle.std.proofs.lemmas.Bool.{le-ltb}
use Rattle.std.proofs.Math.Seq.{take-append_seam}
use Rattle.std.specs.Prelude.{IsOk, nat_lt}
use Rattle.base_values.specs.declared.EditError.{EditError}
use Rattle.base_values.specs.declared.EditError.TheVariants.{NoMemory}
use Rattle.base_values.specs.Answers.{Edits, map_ok}
use Rattle.sheet_grid.specs.Book.{Book}
use Rattle.sheet_ids.specs.declared.View.{View}
use Rattle.sheet_history.specs.declared.Diff.{Diff}
use Rattle.sheet_history.specs.declared.DiffType.{DiffType}
use Rattle.sheet_history.specs.declared.DiffType.TheVariants.{Undo, Redo}
use Rattle.sheet_history.specs.declared.QueueDiffs.{QueueDiffs}
use Rattle.sheet_history.specs.Diffs.{book_before, book_after, untested_after, untested_before, follow, in_entry, of_entry}
use Rattle.sheet_history.specs.Stacks.{Stacks, undone_from, redone_from}
use Rattle.sheet_history.specs.Stacks as stacks
use Rattle.open_book.specs.Document.{Document, document_undo, undo_at, document_redo, redo_at, beside, sending, can_undo_step, can_redo_step, stale_after}
use Rattle.open_book.specs.Machine.{State, Step, step_record}
use Rattle.open_book.specs.Sound.{Leads, Follows}
use Rattle.open_book.specs.Stands.{IsReached}
use Rattle.open_book.specs.Untested.{follow_untested}
use Rattle.open_book.specs.Views.{view_followed}
use Rattle.open_book.proofs.Tested.{passed}

-- an entry that was sent is taken out of the queue again
pub sent_back : (kind : DiffType) (list : List Diff) (queue longer shorter : List QueueDiffs) (count : ℕ)
    → longer ≡ sending kind list queue → count ≡ length queue → shorter ≡ take count longer → shorter ≡ queue
sent_back kind list queue longer shorter count sent counted cut =
    cut ∙ (λ i. take (counted i) (sent i)) ∙ take-append_seam queue (record { kind = kind; list = list } ∷ [])

-- a list that is refused leaves the document
pub refused_with : (old new : Document) (error : EditError) (expected : Result Book EditError) (f : Book → Document)
    → new.book ≡ old.book → new.undo ≡ old.undo → new.redo ≡ old.redo → new.queue ≡ old.queue → new.stale_undo ≡ old.stale_undo → new.stale_redo ≡ old.stale_redo → new.language ≡ old.language → new.view ≡ old.view
    → (error ≢ NoMemory → expected ≡ Err error) → Edits {S = Document} (Err error) old new (map_ok f expected)
refused_with old new error expected f book undo redo queue stale_undo stale_redo language view refused = record {
  done = tt;
  refused = (
    λ i. record { book = book i; undo = undo i; redo = redo i; stale_undo = stale_undo i; stale_redo = stale_redo i; queue = queue i; language = language i; view = view i },
    λ other. ap (map_ok f) (refused other),
  );
}

-- ---- lists that are not refused need no test

untested_backed : (book : Book) (list : List Diff) (r : Result Book EditError) → book_before book list ≡ r → IsOk r → untested_before book list ≡ r
untested_backed book list (Ok later) is ok = passed _ (untested_before book list) later is
untested_backed book list (Err error) is ok = absurd (let never : false ≡ true = ok in cc)

untested_forwarded : (book : Book) (list : List Diff) (r : Result Book EditError) → book_after book list ≡ r → IsOk r → untested_after book list ≡ r
untested_forwarded book list (Ok later) is ok = passed _ (untested_after book list) later is
untested_forwarded book list (Err error) is ok = absurd (let never : false ≡ true = ok in cc)

pub untested : (kind : DiffType) (book : Book) (list : List Diff) → IsOk (follow kind book list) → follow_untested kind book list ≡ follow kind book list
untested Undo book list ok = untested_backed book list (book_before book list) refl ok
untested Redo book list ok = untested_forwarded book list (book_after book list) refl ok

-- ---- the newest list

again : (f g : Book → Document) (error : EditError) (r : Result Book EditError) → map_ok f r ≡ Err error → map_ok g r ≡ Err error
again f g error (Ok book) is = absurd (let never : ◌≡◌ {A = Result Document EditError} (Ok (f book)) (Err error) = is in cc)
again f g error (Err other) is = let same : other ≡ error = cc in ap Err same

module _ (doc : Document) (list : List Diff) (older : List (List Diff)) (history : Stacks) where
  -- the newest list to undo was taken back, and moved to the other stack
  pub took_back : (earlier : Book) (view : View) (queue : List QueueDiffs) (stale_undo stale_redo : ℕ) (moved : Stacks) (kept : Bool)
      → history.undo ≡ doc.undo → history.redo ≡ doc.redo → doc.undo ≡ list ∷ older → book_before doc.book list ≡ Ok earlier → view ≡ view_followed Undo list doc.book earlier doc.view → queue ≡ sending Undo list doc.queue
      → kept ≡ can_undo_step doc → moved.undo ≡ (stacks.undone history).undo → moved.redo ≡ (stacks.undone history).redo
      → stale_undo ≡ stale_after kept doc.stale_undo (length (stacks.undone history).undo) → stale_redo ≡ stale_after kept doc.stale_redo (length (stacks.undone history).redo)
      → document_undo doc ≡ Ok (record doc { book = earlier; view = view; undo = moved.undo; redo = moved.redo; stale_undo = stale_undo; stale_redo = stale_redo; queue = queue })
  took_back earlier view queue stale_undo stale_redo moved kept undo redo newest went seen sent kept_is undo_is redo_is one two =
      let top : history.undo ≡ list ∷ older = undo ∙ newest in
      let less : (stacks.undone history).undo ≡ older = ap (λ u. (undone_from u history).undo) top in
      let more : (stacks.undone history).redo ≡ list ∷ doc.redo = ap (λ u. (undone_from u history).redo) top ∙ ap (λ r. list ∷ r) redo in
      ap (λ u. undo_at u doc) newest ∙ ap (map_ok _) went
      ∙ sym (λ i.
      Ok (record doc {
        book = earlier;
        view = seen i;
        undo = (undo_is ∙ less) i;
        redo = (redo_is ∙ more) i;
        stale_undo = (one ∙ (λ j. stale_after (kept_is j) doc.stale_undo (length (less j)))) i;
        stale_redo = (two ∙ (λ j. stale_after (kept_is j) doc.stale_redo (length (more j)))) i;
        queue = sent i;
      }))

  -- the newest list to redo was made again, and moved to the other stack
  pub made_again : (later : Book) (view : View) (queue : List QueueDiffs) (stale_undo stale_redo : ℕ) (moved : Stacks) (kept : Bool)
      → history.undo ≡ doc.undo → history.redo ≡ doc.redo → doc.redo ≡ list ∷ older → book_after doc.book list ≡ Ok later → view ≡ view_followed Redo list doc.book later doc.view → queue ≡ sending Redo list doc.queue
      → kept ≡ can_redo_step doc → moved.undo ≡ (stacks.redone history).undo → moved.redo ≡ (stacks.redone history).redo
      → stale_undo ≡ stale_after kept doc.stale_undo (length (stacks.redone history).undo) → stale_redo ≡ stale_after kept doc.stale_redo (length (stacks.redone history).redo)
      → document_redo doc ≡ Ok (record doc { book = later; view = view; undo = moved.undo; redo = moved.redo; stale_undo = stale_undo; stale_redo = stale_redo; queue = queue })
  made_again later view queue stale_undo stale_redo moved kept undo redo newest went seen sent kept_is undo_is redo_is one two =
      let top : history.redo ≡ list ∷ older = redo ∙ newest in
      let less : (stacks.redone history).redo ≡ older = ap (λ r. (redone_from r history).redo) top in
      let more : (stacks.redone history).undo ≡ list ∷ doc.undo = ap (λ r. (redone_from r history).undo) top ∙ ap (λ u. list ∷ u) undo in
      ap (λ r. redo_at r doc) newest ∙ ap (map_ok _) went
      ∙ sym (λ i.
      Ok (record doc {
        book = later;
        view = seen i;
        undo = (undo_is ∙ more) i;
        redo = (redo_is ∙ less) i;
        stale_undo = (one ∙ (λ j. stale_after (kept_is j) doc.stale_undo (length (more j)))) i;
        stale_redo = (two ∙ (λ j. stale_after (kept_is j) doc.stale_redo (length (less j)))) i;
        queue = sent i;
      }))

  -- where the newest list was refused, the document is as it was
  pub back_refused : (new : Document) (error : EditError) (f : Book → Document) → doc.undo ≡ list ∷ older → Edits {S = Document} (Err error) doc new (map_ok f (book_before doc.book list))
      → Edits {S = Document} (Err error) doc new (document_undo doc)
  back_refused new error f newest edits =
      record { done = tt; refused = (edits.refused.0, λ other. ap (λ u. undo_at u doc) newest ∙ again f _ error (book_before doc.book list) (edits.refused.1 other)) }

  pub forth_refused : (new : Document) (error : EditError) (f : Book → Document) → doc.redo ≡ list ∷ older → Edits {S = Document} (Err error) doc new (map_ok f (book_after doc.book list))
      → Edits {S = Document} (Err error) doc new (document_redo doc)
  forth_refused new error f newest edits =
      record { done = tt; refused = (edits.refused.0, λ other. ap (λ r. redo_at r doc) newest ∙ again f _ error (book_after doc.book list) (edits.refused.1 other)) }

-- ---- the record of a step is not refused

back_works : (s : State) (list : List Diff) (older : List (List Diff)) (past : List Step) → Leads past s.present → map step_record past ++ s.stale_undo ≡ list ∷ older
    → nat_lt (length s.stale_undo) (length (map step_record past ++ s.stale_undo)) ≡ true → IsOk (book_before s.present list)
back_works s list older [] leads newest kept = absurd (let never : false ≡ true = sym (le-ltb (length s.stale_undo) (length s.stale_undo) (omega arith)) ∙ kept in cc)
back_works s list older (step ∷ past) leads newest kept =
    let top : step_record step ≡ list = cc in
    subst IsOk (sym (ap (book_before s.present) (sym top) ∙ ap (λ book. book_before book (step_record step)) (sym leads.0) ∙ leads.1.back)) refl

forth_works : (s : State) (list : List Diff) (older : List (List Diff)) (undone : List Step) → Follows undone s.present → map step_record undone ++ s.stale_redo ≡ list ∷ older
    → nat_lt (length s.stale_redo) (length (map step_record undone ++ s.stale_redo)) ≡ true → IsOk (book_after s.present list)
forth_works s list older [] follows newest kept = absurd (let never : false ≡ true = sym (le-ltb (length s.stale_redo) (length s.stale_redo) (omega arith)) ∙ kept in cc)
forth_works s list older (step ∷ undone) follows newest kept =
    let top : step_record step ≡ list = cc in
    subst IsOk (sym (ap (book_after s.present) (sym top) ∙ ap (λ book. book_after book (step_record step)) (sym follows.0) ∙ follows.1.forth)) refl

pub undo_works : (doc : Document) → IsReached doc → (list : List Diff) (older : List (List Diff)) → doc.undo ≡ list ∷ older → can_undo_step doc ≡ true → IsOk (book_before doc.book list)
undo_works doc is list older =
    subst (λ (d : Document). d.undo ≡ list ∷ older → can_undo_step d ≡ true → IsOk (book_before d.book list)) (sym is.1.document) (back_works is.0 list older is.0.past is.1.sound.past)

pub redo_works : (doc : Document) → IsReached doc → (list : List Diff) (older : List (List Diff)) → doc.redo ≡ list ∷ older → can_redo_step doc ≡ true → IsOk (book_after doc.book list)
redo_works doc is list older =
    subst (λ (d : Document). d.redo ≡ list ∷ older → can_redo_step d ≡ true → IsOk (book_after d.book list)) (sym is.1.document) (forth_works is.0 list older is.0.undone is.1.sound.undone)

-- ---- entries of other copies

never_short : (at : ℕ) (error : EditError) → of_entry at error ≢ NoMemory → error ≢ NoMemory
never_short at error other short = other (ap (of_entry at) short)

-- a refused entry leaves the document, and its refusal names it
pub receive_refused : (old new : Document) (at : ℕ) (one : QueueDiffs) (error : EditError) (expected : Result Book EditError) → new ≡ old → (error ≢ NoMemory → expected ≡ Err error)
    → Edits {S = Document} (Err (of_entry at error)) old new (map_ok (beside one old) (in_entry at expected))
receive_refused old new at one error expected same refused =
    record { done = tt; refused = (same, λ other. ap (λ r. map_ok (beside one old) (in_entry at r)) (refused (never_short at error other))) }

pub receive_done : (old : Document) (at : ℕ) (one : QueueDiffs) (later : Book) (view : View) (stale_undo stale_redo : ℕ) (expected : Result Book EditError) → expected ≡ Ok later
    → view ≡ view_followed one.kind one.list old.book later old.view → stale_undo ≡ length old.undo → stale_redo ≡ length old.redo
    → map_ok (beside one old) (in_entry at expected) ≡ Ok (record old { book = later; view = view; stale_undo = stale_undo; stale_redo = stale_redo })
receive_done old at one later view stale_undo stale_redo expected is seen undo redo =
    ap (λ r. map_ok (beside one old) (in_entry at r)) is ∙ (λ i. Ok (record old { book = later; view = sym seen i; stale_undo = sym undo i; stale_redo = sym redo i }))
