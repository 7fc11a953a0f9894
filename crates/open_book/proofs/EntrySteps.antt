-- An edit whose plan has its record is a sound step.
use Rattle.std.proofs.Common.{◌≡◌, ℕ, true, false, List, Result, Ok, Err, refl, sym, subst, ◌∙◌}
use Rattle.std.specs.Prelude.{IfOk, IsOk, IsOkAnd, IsTrue}
use Rattle.base_values.specs.declared.EditError.{EditError}
use Rattle.sheet_grid.specs.Book.{Book}
use Rattle.sheet_rules.specs.WellFormed.{IsWellFormed}
use Rattle.sheet_history.specs.declared.Diff.{Diff}
use Rattle.sheet_history.specs.Diffs.{IsCanonicalList, book_before, book_after}
use Rattle.sheet_history.specs.Records.{IsRecord, record_between}
use Rattle.sheet_history.specs.laws.RecordBetween.{record_computed}
use Rattle.sheet_history.specs.laws.SoundEntries.{entries_forwarded, entries_backed}
use Rattle.edit_plans.specs.Edits.{Edit, changed, is_of_entries, is_silent, record_of}
use Rattle.edit_plans.specs.Edits.Edit.{Input, ArrayInput, SetLink, Merge, Unmerge, Lines, MoveLines, AddSheet, CopySheet, DeleteSheet, MoveSheet, RenameSheet, ChangeNames, EditRules, SetField, SetSize, SetHidden, SetRangeStyle, ClearRange, ClearFormatting, PasteStyles, SetSetting, Fill}
use Rattle.edit_plans.specs.Plans.{IsPlan, Plans}
use Rattle.sheet_ids.specs.declared.View.{View}
use Rattle.edit_plans.specs.ViewSteps.{selected_by, view_asked}
use Rattle.open_book.specs.BothWays.{GoesBothWays}
use Rattle.open_book.specs.Document.{Document}
use Rattle.open_book.specs.Sound.{IsExact, IsSoundStep}
use Rattle.open_book.specs.Encodable.{AreEncodable}
use Rattle.open_book.specs.Stands.{IsSeenPlan, IsStepBy}
use Rattle.open_book.proofs.Encoded.{record_encodable}

-- an edit whose record has the entries that differ
pub record IsOfEntries (edit : Edit) : Type 0 where
  pub loud : (book : Book) → is_silent edit book ≡ false
  pub records : (earlier later : Book) → record_of edit earlier later ≡ record_between earlier later
  pub exact : (earlier later : Book) (list : List Diff) → IsRecord earlier later list → IsExact edit earlier later list

pub of_entries : (edit : Edit) → IsTrue (is_of_entries edit) → IsOfEntries edit
of_entries (Input index row column content feeds) is = record { loud = λ book. refl; records = λ earlier later. refl; exact = λ earlier later list exact. exact }
of_entries (ArrayInput index r tree) is = record { loud = λ book. refl; records = λ earlier later. refl; exact = λ earlier later list exact. exact }
of_entries (SetLink index row column link) is = record { loud = λ book. refl; records = λ earlier later. refl; exact = λ earlier later list exact. exact }
of_entries (Merge index r) is = record { loud = λ book. refl; records = λ earlier later. refl; exact = λ earlier later list exact. exact }
of_entries (Unmerge index row column) is = record { loud = λ book. refl; records = λ earlier later. refl; exact = λ earlier later list exact. exact }
of_entries (Lines index axis kind) is = absurd (let never : false ≡ true = is in cc)
of_entries (MoveLines index axis first count delta) is = absurd (let never : false ≡ true = is in cc)
of_entries AddSheet is = absurd (let never : false ≡ true = is in cc)
of_entries (CopySheet index) is = absurd (let never : false ≡ true = is in cc)
of_entries (DeleteSheet index) is = absurd (let never : false ≡ true = is in cc)
of_entries (MoveSheet from to) is = absurd (let never : false ≡ true = is in cc)
of_entries (RenameSheet index name) is = absurd (let never : false ≡ true = is in cc)
of_entries (ChangeNames edit) is = absurd (let never : false ≡ true = is in cc)
of_entries (EditRules edit) is = absurd (let never : false ≡ true = is in cc)
of_entries (SetSetting setting) is = absurd (let never : false ≡ true = is in cc)
of_entries (SetField index value) is = record { loud = λ book. refl; records = λ earlier later. refl; exact = λ earlier later list exact. exact }
of_entries (SetSize index axis first last size) is = record { loud = λ book. refl; records = λ earlier later. refl; exact = λ earlier later list exact. exact }
of_entries (SetHidden index axis first last hidden) is = record { loud = λ book. refl; records = λ earlier later. refl; exact = λ earlier later list exact. exact }
of_entries (SetRangeStyle index r path value) is = record { loud = λ book. refl; records = λ earlier later. refl; exact = λ earlier later list exact. exact }
of_entries (ClearRange index clearing r) is = record { loud = λ book. refl; records = λ earlier later. refl; exact = λ earlier later list exact. exact }
of_entries (ClearFormatting index r) is = record { loud = λ book. refl; records = λ earlier later. refl; exact = λ earlier later list exact. exact }
of_entries (PasteStyles index r styles) is = record { loud = λ book. refl; records = λ earlier later. refl; exact = λ earlier later list exact. exact }
of_entries (Fill index axis source to language) is = record { loud = λ book. refl; records = λ earlier later. refl; exact = λ earlier later list exact. exact }

module _ (edit : Edit) (it : IsOfEntries edit) where
  module _ (earlier later : Book) (list : List Diff) (before : IsWellFormed earlier) (after : IsWellFormed later) (exact : IsRecord earlier later list) where
    record_is : list ≡ record_of edit earlier later
    record_is = record_computed earlier later list exact ∙ sym (it.records earlier later)

    -- the record of two well-formed workbooks goes both ways
    pub entries_both : GoesBothWays edit earlier later
    entries_both = record {
      rules = after;
      forth = subst (λ l. book_after earlier l ≡ Ok later) record_is (entries_forwarded earlier later list before after exact);
      back = subst (λ l. book_before later l ≡ Ok earlier) record_is (entries_backed earlier later list before after exact);
      exact = it.exact earlier later (record_of edit earlier later) (subst (IsRecord earlier later) record_is exact);
    }

    entries_step : IsCanonicalList list → IsSoundStep (record { edit = edit; before = earlier; after = later })
    entries_step kept = record {
      before = before;
      after = after;
      forth = entries_both.forth;
      back = entries_both.back;
      exact = entries_both.exact;
      encodable = subst AreEncodable record_is (record_encodable earlier later list before after exact kept);
    }

-- ---- the plan of an edit by entries

module _ (edit : Edit) (is : IsTrue (is_of_entries edit)) (doc : Document) (rules : IsWellFormed doc.book) where
  step_by : (list : List Diff) (r : Result Book EditError) → IsOkAnd r (IsPlan doc.book list) → IsOkAnd r (IsStepBy edit doc.book list)
  step_by list (Ok later) plan = record {
    recorded = record_is edit (of_entries edit is) doc.book later list rules plan.rules plan.exact;
    step = entries_step edit (of_entries edit is) doc.book later list rules plan.rules plan.exact plan.canonical;
    canonical = plan.canonical;
  }
  step_by list (Err error) plan = absurd plan

  -- it is one of a sound step
  pub entries_plan : (plan : Result (List Diff) EditError) (selected : ℕ) (seen : View) → (IsOk (changed edit doc.book) → selected_by edit doc.book doc.view.sheet ≡ selected)
      → (IsOk (changed edit doc.book) → view_asked edit doc.book doc.view ≡ seen) → Plans plan doc.book (changed edit doc.book) → IsSeenPlan edit plan selected seen doc
  entries_plan plan selected seen selects asks plans = record {
    loud = (of_entries edit is).loud doc.book;
    selects = selects;
    asks = asks;
    planned = planned_by plan plans.planned;
    refused = plans.refused;
    memory = plans.memory;
  }
    where
      planned_by : (p : Result (List Diff) EditError) → IfOk p (λ list. IsOkAnd (changed edit doc.book) (IsPlan doc.book list)) → IfOk p (λ list. IsOkAnd (changed edit doc.book) (IsStepBy edit doc.book list))
      planned_by (Ok list) planned = step_by list (changed edit doc.book) planned
      planned_by (Err error) planned = tt
