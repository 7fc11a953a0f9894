-- Lines that are inserted, deleted or moved are a sound step.
use Rattle.std.proofs.Common.{◌≡◌, ℕ, List, [], ◌∷◌, length, Result, Ok, Err, refl, ap, sym, subst, ◌∙◌}
use Rattle.base_values.specs.declared.EditError.{EditError}
use Rattle.base_values.specs.Answers.{map_ok}
use Rattle.base_axis.specs.Along.{Along}
use Rattle.line_edits.specs.declared.EditKind.{EditKind}
use Rattle.sheet_grid.specs.Sheet.{Sheet}
use Rattle.sheet_grid.specs.Book.{Book, sheet_at}
use Rattle.sheet_rules.specs.WellFormed.{IsWellFormed}
use Rattle.sheet_lines.specs.declared.KeptLines.{KeptLines}
use Rattle.sheet_lines.specs.Followed.{book_followed}
use Rattle.sheet_lines.specs.Kept.{kept_lines}
use Rattle.sheet_history.specs.declared.Diff.{Diff}
use Rattle.sheet_history.specs.declared.Diff.TheVariants.{Lines as LinesDiff}
use Rattle.sheet_history.specs.declared.LineAxis.{LineAxis}
use Rattle.sheet_history.specs.LineDiffs.{along_of}
use Rattle.sheet_history.specs.Diffs.{untested_after, untested_before}
use Rattle.sheet_history.specs.Records.{IsLineEdit, line_record}
use Rattle.sheet_actions.specs.Planned.{lines_planned}
use Rattle.sheet_actions.specs.Whole.{IsAllowed}
use Rattle.sheet_actions.specs.laws.FollowedWellFormed.{followed_well_formed}
use Rattle.sheet_history.specs.laws.LineRecords.{along_lawful, record_made, record_taken_back}
use Rattle.edit_plans.specs.Edits.{Edit, changed, lines_record, record_of}
use Rattle.edit_plans.specs.Edits.Edit.{Lines}
use Rattle.open_book.specs.Document.{Document, document_edit, edited_to, recorded, lines_recorded}
use Rattle.open_book.specs.Encodable.{AreEncodable}
use Rattle.open_book.specs.Sound.{IsSoundChange}
use Rattle.open_book.specs.BothWays.{GoesBothWays}
use Rattle.open_book.proofs.LinePlans.{IsPlanned, lines_plan}
use Rattle.open_book.proofs.Tested.{passes}

-- ---- the step

-- what was found by an edit that is accepted
record IsAccepted (w : Book) (index : ℕ) (axis : LineAxis) (kind : EditKind) (later : Book) : Type 0 where
  sheet : Sheet
  at : sheet_at w index ≡ Ok sheet
  edit : IsLineEdit axis kind sheet.id w
  allowed : IsAllowed (along_of axis) kind sheet.id w
  followed : book_followed (along_of axis) kind sheet.id w ≡ later

module _ (index : ℕ) (axis : LineAxis) (kind : EditKind) where
  abbrev edit : Edit
  edit = Lines index axis kind

  accepted : (w later : Book) → IsWellFormed w → changed edit w ≡ Ok later → IsAccepted w index axis kind later
  accepted w later rules is = go (lines_planned (along_of axis) kind index w) refl is
    where
      go : (r : Result (ℕ × EditKind) EditError) → lines_planned (along_of axis) kind index w ≡ r → map_ok (λ (p : ℕ × EditKind). book_followed (along_of axis) p.1 p.0 w) r ≡ Ok later → IsAccepted w index axis kind later
      go (Ok p) plan h =
          let found = lines_plan w rules index axis kind p plan in
          let same : book_followed (along_of axis) p.1 p.0 w ≡ later = cc in
          record { sheet = found.sheet; at = found.at; edit = found.edit; allowed = found.allowed; followed = ap (λ (p : ℕ × EditKind). book_followed (along_of axis) p.1 p.0 w) found.plan_is ∙ same }
      go (Err error) plan h = absurd (let never : ◌≡◌ {A = Result Book EditError} (Err error) (Ok later) = h in cc)

  lines_both : (w later : Book) → IsAccepted w index axis kind later → GoesBothWays edit w later
  lines_both w later found =
      let id : ℕ = found.sheet.id in
      let list : List Diff = record_of edit w later in
      let recorded_is : list ≡ line_record axis kind id w = ap (lines_record axis (λ sheet. kind) w) found.at in
      let later_rules : IsWellFormed later = subst IsWellFormed found.followed (followed_well_formed (along_of axis) (along_lawful axis) kind found.edit.valid id w found.edit.rules found.allowed) in
      record {
        rules = later_rules;
        forth = passes (length list) (untested_after w list) later (ap (untested_after w) recorded_is ∙ record_made axis kind id w found.edit ∙ ap Ok found.followed) later_rules;
        back = passes (length list) (untested_before later list) w
            (ap (untested_before later) recorded_is ∙ ap (λ b. untested_before b (line_record axis kind id w)) (sym found.followed) ∙ record_taken_back axis kind id w found.edit) found.edit.rules;
        exact = record { sheet = found.sheet; there = found.at; followed = found.followed; recorded = recorded_is };
      }

  -- an accepted edit of lines of a well-formed workbook goes both ways
  pub lines_go_both_ways : (earlier later : Book) → IsWellFormed earlier → changed edit earlier ≡ Ok later → GoesBothWays edit earlier later
  lines_go_both_ways earlier later rules how = lines_both earlier later (accepted earlier later rules how)

-- ---- what a plan leads to

module _ (index : ℕ) (axis : LineAxis) (kind : EditKind) (plan : ℕ × EditKind) where
  abbrev followed : Book → Book
  followed w = book_followed (along_of axis) plan.1 plan.0 w

  module _ (w : Book) (rules : IsWellFormed w) (planned : lines_planned (along_of axis) kind index w ≡ Ok plan) where
    abbrev it : IsPlanned w index axis kind plan
    it = lines_plan w rules index axis kind plan planned

    plan_made : changed (Lines index axis kind) w ≡ Ok (followed w)
    plan_made = ap (map_ok (λ (p : ℕ × EditKind). book_followed (along_of axis) p.1 p.0 w)) planned

    plan_record : (later : Book) → record_of (Lines index axis kind) w later ≡ line_record axis plan.1 plan.0 w
    plan_record later = ap (lines_record axis (λ sheet. kind) w) it.at ∙ ap (λ (p : ℕ × EditKind). line_record axis p.1 p.0 w) it.plan_is

    -- a planned edit is one of lines of the workbook
    pub plan_edit : IsLineEdit axis plan.1 plan.0 w
    plan_edit = subst (λ (p : ℕ × EditKind). IsLineEdit axis p.1 p.0 w) it.plan_is it.edit

    -- and a sound step, if the record of the plan can be encoded
    pub plan_sound : AreEncodable (line_record axis plan.1 plan.0 w) → IsSoundChange (Lines index axis kind) w
    plan_sound encodable loud later how =
        let both = lines_go_both_ways index axis kind w later rules how in
        record { before = rules; after = both.rules; forth = both.forth; back = both.back; exact = both.exact; encodable = subst AreEncodable (sym (plan_record later)) encodable }

  -- to make a planned edit and to record it is the edit
  pub planned_document : (doc : Document) → IsWellFormed doc.book → lines_planned (along_of axis) kind index doc.book ≡ Ok plan
      → Ok (lines_recorded axis plan.1 plan.0 doc) ≡ document_edit (Lines index axis kind) doc
  planned_document doc rules planned =
      ap (λ list. Ok (recorded list doc.view.sheet doc.view doc (followed doc.book))) (sym (plan_record doc.book rules planned (followed doc.book)))
      ∙ sym (ap (map_ok (edited_to (Lines index axis kind) doc)) (plan_made doc.book rules planned))

-- and an edit whose plan is refused is refused
pub refused_document : (doc : Document) (index : ℕ) (axis : LineAxis) (kind : EditKind) (error : EditError) → lines_planned (along_of axis) kind index doc.book ≡ Err error → document_edit (Lines index axis kind) doc ≡ Err error
refused_document doc index axis kind error plan =
    ap (λ r. map_ok (edited_to (Lines index axis kind) doc) (map_ok (λ (p : ℕ × EditKind). book_followed (along_of axis) p.1 p.0 doc.book) r)) plan

-- what is said along an axis holds along the one that names it
module _ (a : Along) (axis : LineAxis) (named : a ≡ along_of axis) (kind : EditKind) where
  pub planned_along : (index : ℕ) (w : Book) (plan : Result (ℕ × EditKind) EditError) → plan ≡ lines_planned a kind index w → lines_planned (along_of axis) kind index w ≡ plan
  planned_along index w plan is = ap (λ b. lines_planned b kind index w) (sym named) ∙ sym is

  module _ (id : ℕ) (kept : KeptLines) (book : Book) (kept_is : kept ≡ kept_lines a kind id book) where
    pub kept_along : kept ≡ kept_lines (along_of axis) kind id book
    kept_along = kept_is ∙ ap (λ b. kept_lines b kind id book) named

    -- the list that was made is the record of the edit
    pub list_is : (list : List Diff) → ◌≡◌ {A = Result (List Diff) EditError} (Ok (LinesDiff id axis kind kept ∷ [])) (Ok list) → list ≡ line_record axis kind id book
    list_is list output = let same : LinesDiff id axis kind kept ∷ [] ≡ list = cc in sym same ∙ ap (λ k. LinesDiff id axis kind k ∷ []) kept_along

  -- to install the followed workbook with it is to record the edit
  pub installed_document : (id : ℕ) (doc : Document) (later : Book) (list : List Diff) → later ≡ book_followed a kind id doc.book → list ≡ line_record axis kind id doc.book
      → ◌≡◌ {A = Result Document EditError} (Ok (recorded list doc.view.sheet doc.view doc later)) (Ok (lines_recorded axis kind id doc))
  installed_document id doc later list later_is list_is = λ i. Ok (recorded (list_is i) doc.view.sheet doc.view doc ((later_is ∙ ap (λ b. book_followed b kind id doc.book) named) i))
