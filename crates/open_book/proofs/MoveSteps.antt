-- A move past hidden lines is the move by a distance that is told from the sheet.
use Rattle.std.proofs.Common.{◌≡◌, ℕ, ℤ, pos, ◌+ℤ◌, ◌≤ℤ◌, true, false, cond, not, ◌&&◌, Option, Some, None, Result, Ok, Err, refl, ap, sym, subst, ◌∙◌, arith}
use Rattle.std.specs.Prelude.{int_le, slice_get}
use Rattle.std.proofs.lemmas.Int.{ints}
use Rattle.base_values.specs.declared.EditError.{EditError}
use Rattle.base_values.specs.declared.EditError.TheVariants.{InvalidSheet, NoMemory, SplitsArray, SplitsMerge, TargetOutOfBounds}
use Rattle.base_values.specs.Answers.{and_then, map_ok, ok_or}
use Rattle.base_axis.specs.Along.{Along, IsAxis}
use Rattle.line_edits.specs.declared.EditKind.{EditKind}
use Rattle.line_edits.specs.declared.EditKind.TheVariants.{Move}
use Rattle.line_edits.specs.Edit.{is_valid, begins_inside}
use Rattle.sheet_grid.specs.Sheet.{Sheet}
use Rattle.sheet_grid.specs.Book.{Book, sheet_at}
use Rattle.sheet_rules.specs.WellFormed.{IsWellFormed}
use Rattle.sheet_lines.specs.Followed.{book_followed}
use Rattle.sheet_actions.specs.Edited.{lines_edited}
use Rattle.sheet_actions.specs.Planned.{refusal_of, splits_array, splits_merge, unless_refused}
use Rattle.sheet_history.specs.declared.LineAxis.{LineAxis}
use Rattle.sheet_history.specs.Diffs.{book_before, book_after}
use Rattle.sheet_history.specs.LineDiffs.{along_of}
use Rattle.sheet_history.specs.laws.LineRecords.{along_lawful}
use Rattle.edit_plans.specs.HiddenLines.{grown}
use Rattle.edit_plans.specs.Edits.{Edit, changed, grown_move, is_silent, lines_record, record_of}
use Rattle.edit_plans.specs.Edits.Edit.{Lines, MoveLines}
use Rattle.open_book.specs.BothWays.{GoesBothWays}
use Rattle.open_book.specs.Document.{Document, document_edit, edited_to, recorded}
use Rattle.open_book.specs.Far.{is_far}
use Rattle.open_book.specs.Sound.{IsLinesRecord, IsSoundChange}
use Rattle.open_book.specs.Encodable.{AreEncodable}
use Rattle.open_book.proofs.LineSteps.{lines_go_both_ways, refused_document}

-- ---- a distance that no number of the code has

far_invalid : (last first count delta : ℤ) → last ≤ℤ pos 1048576 → is_far delta ≡ true
    → ((begins_inside last first count && int_le (first +ℤ count) (last +ℤ pos 1)) && (int_le (pos 1) (first +ℤ delta) && int_le ((first +ℤ count) +ℤ delta) (last +ℤ pos 1))) ≡ false
far_invalid last first count delta low far = grind (arith, ints)

-- a move so far is refused
far_refused : (a : Along) → IsAxis a → (first count delta : ℤ) (sheet : Sheet) → is_far delta ≡ true → refusal_of a (Move first count delta) sheet ≡ Some TargetOutOfBounds
unfolding refusal_of is_valid
far_refused a axis first count delta sheet far =
    ap (λ b. cond (not b) (Some TargetOutOfBounds) (cond (splits_array a (Move first count delta) sheet) (Some SplitsArray) (cond (splits_merge a (Move first count delta) sheet) (Some SplitsMerge) None)))
    (far_invalid a.last first count delta axis.last_high far)

-- a sheet that is not there does not come from lack of memory
pub never_short : (w : Book) (index : ℕ) (error : EditError) → sheet_at w index ≡ Err error → error ≡ NoMemory → ⊥
never_short w index error at short = go (slice_get w.worksheets index) at
  where
    go : (o : Option Sheet) → ok_or InvalidSheet o ≡ Err error → ⊥
    go None e = let never : ◌≡◌ {A = Result Sheet EditError} (Err InvalidSheet) (Err NoMemory) = e ∙ ap Err short in cc
    go (Some sheet) e = let never : ◌≡◌ {A = Result Sheet EditError} (Ok sheet) (Err error) = e in cc

-- ---- the move of a sheet that is there

module _ (index : ℕ) (axis : LineAxis) (first count delta : ℤ) where
  abbrev move : Edit
  move = MoveLines index axis first count delta

  abbrev kind : Sheet → EditKind
  kind = grown_move (along_of axis) first count delta

  module _ (w : Book) (sheet : Sheet) (at : sheet_at w index ≡ Ok sheet) where
    abbrev edit : Edit
    edit = Lines index axis (kind sheet)

    changes : changed edit w ≡ changed move w
    changes = sym (ap (λ r. and_then r (λ s. lines_edited (along_of axis) (kind s) index w)) at)

    records : (later : Book) → record_of edit w later ≡ record_of move w later
    records later = ap (lines_record axis (λ s. kind sheet) w) at ∙ sym (ap (lines_record axis kind w) at)

    exact : (later : Book) → IsLinesRecord index axis (λ s. kind sheet) w later (record_of edit w later) → IsLinesRecord index axis kind w later (record_of move w later)
    exact later it =
        let there : ◌≡◌ {A = Result Sheet EditError} (Ok it.sheet) (Ok sheet) = sym it.there ∙ at in
        let same : it.sheet ≡ sheet = cc in
        record {
          sheet = sheet;
          there = at;
          followed = ap (λ (s : Sheet). book_followed (along_of axis) (kind sheet) s.id w) (sym same) ∙ it.followed;
          recorded = ap (lines_record axis kind w) at;
        }

    both_ways : (later : Book) → GoesBothWays edit w later → GoesBothWays move w later
    both_ways later it = record {
      rules = it.rules;
      forth = subst (λ list. book_after w list ≡ Ok later) (records later) it.forth;
      back = subst (λ list. book_before later list ≡ Ok w) (records later) it.back;
      exact = exact later it.exact;
    }

    -- it is a sound step where that of its lines is
    pub move_sound : IsSoundChange edit w → IsSoundChange move w
    move_sound change loud later how =
        let step = change refl later (changes ∙ how) in
        let it = both_ways later (record { rules = step.after; forth = step.forth; back = step.back; exact = step.exact }) in
        record { before = step.before; after = it.rules; forth = it.forth; back = it.back; exact = it.exact; encodable = subst AreEncodable (records later) step.encodable }

  -- an accepted move in a well-formed workbook goes both ways
  pub moves_go_both_ways : (earlier later : Book) → IsWellFormed earlier → changed move earlier ≡ Ok later → GoesBothWays move earlier later
  moves_go_both_ways earlier later rules how = go (sheet_at earlier index) refl
    where
      go : (r : Result Sheet EditError) → sheet_at earlier index ≡ r → GoesBothWays move earlier later
      go (Ok sheet) at = both_ways earlier sheet at later (lines_go_both_ways index axis (kind sheet) earlier later rules (changes earlier sheet at ∙ how))
      go (Err error) at =
          let never : ◌≡◌ {A = Result Book EditError} (Err error) (Ok later) = sym (ap (λ r. and_then r (λ s. lines_edited (along_of axis) (kind s) index earlier)) at) ∙ how in
          absurd (cc)

  -- ---- a document

  -- a silent move does nothing
  pub silent_document : (doc : Document) → is_silent move doc.book ≡ true → document_edit move doc ≡ Ok doc
  silent_document doc silent = ap (λ b. cond b (Ok doc) (map_ok (edited_to move doc) (changed move doc.book))) silent

  module _ (doc : Document) (loud : is_silent move doc.book ≡ false) where
    abbrev after_edit : Result Book EditError → Result Document EditError
    after_edit r = map_ok (edited_to move doc) r

    heard : document_edit move doc ≡ after_edit (changed move doc.book)
    heard = ap (λ b. cond b (Ok doc) (after_edit (changed move doc.book))) loud

    -- without its sheet it is refused
    pub sheetless_document : (error : EditError) → sheet_at doc.book index ≡ Err error → document_edit move doc ≡ Err error
    sheetless_document error at = heard ∙ ap (λ r. after_edit (and_then r (λ s. lines_edited (along_of axis) (kind s) index doc.book))) at

    module _ (sheet : Sheet) (at : sheet_at doc.book index ≡ Ok sheet) where
      -- it is the edit of its lines
      pub move_document : document_edit (Lines index axis (kind sheet)) doc ≡ document_edit move doc
      move_document = (λ i. map_ok (λ later. recorded (records doc.book sheet at later i) doc.view.sheet doc.view doc later) (changes doc.book sheet at i)) ∙ sym heard

      -- and is refused where it goes too far
      pub far_document : is_far (grown (along_of axis) sheet first count delta) ≡ true → document_edit move doc ≡ Err TargetOutOfBounds
      far_document far =
          sym move_document
          ∙ refused_document doc index axis (kind sheet) TargetOutOfBounds
          (ap (λ r. and_then r (λ s. unless_refused (refusal_of (along_of axis) (kind sheet) s) (s.id, kind sheet))) at
          ∙ ap (λ o. unless_refused o (sheet.id, kind sheet)) (far_refused (along_of axis) (along_lawful axis) first count (grown (along_of axis) sheet first count delta) sheet far))
