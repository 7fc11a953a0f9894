-- An edit of the list of the sheets is a sound step, and its record is its one diff. So is one of conditional rules, with a diff for each rule
-- that it changes, and one of a setting, with the entry that it changes.
use Rattle.std.proofs.Common.{◌≡◌, ◌⊎◌, inl, inr, ◌<◌, ◌≤◌, ℕ, true, false, cond, List, length, Option, Some, None, Result, Ok, Err, refl, ap, sym, subst, ◌∙◌}
use Rattle.std.specs.Prelude.{◌&&◌, nat_lt, get_or, slice_get, IfOk, IsOk, IsOkAnd, IsTrue}
use Rattle.std.proofs.lemmas.Bool.{le-ltb}
use Rattle.std.proofs.lemmas.Option.{slice_get_cases}
use Rattle.base_values.specs.declared.EditError.{EditError}
use Rattle.base_values.specs.declared.EditError.TheVariants.{InvalidSheet}
use Rattle.base_values.specs.Answers.{and_then, map_ok, ok_or}
use Rattle.sheet_grid.specs.Sheet.{Sheet}
use Rattle.sheet_grid.specs.Book.{Book, ids_of, sheet_at, sheets_moved, with_sheet}
use Rattle.sheet_rules.specs.WellFormed.{IsWellFormed}
use Rattle.sheet_naming.specs.NextIds.{next_id}
use Rattle.sheet_history.specs.declared.Diff.{Diff}
use Rattle.sheet_history.specs.declared.Setting.{Setting}
use Rattle.sheet_history.specs.Settings.{with_setting}
use Rattle.sheet_history.specs.Records.{IsRecord}
use Rattle.sheet_history.specs.Diffs.{IsCanonicalList}
use Rattle.edit_plans.specs.Edits.{Edit, changed, is_of_sheets, is_silent, record_of}
use Rattle.edit_plans.specs.Edits.Edit.{Input, ArrayInput, SetLink, Merge, Unmerge, Lines, MoveLines, AddSheet, CopySheet, DeleteSheet, MoveSheet, RenameSheet, ChangeNames, EditRules, SetField, SetSize, SetHidden, SetRangeStyle, ClearRange, ClearFormatting, PasteStyles, SetSetting, Fill}
use Rattle.edit_plans.specs.Plans.{IsSheetPlan, PlansSheets}
use Rattle.edit_plans.specs.Plans.{GoesBothWays as SheetsGoBothWays}
use Rattle.name_edits.specs.declared.NameChange.{NameChange}
use Rattle.name_edits.specs.NameChanges.{name_made}
use Rattle.name_edits.specs.NameEdits.{NameEdit, name_change}
use Rattle.edit_plans.specs.NamedEdits.{name_diff, names_edited, names_record}
use Rattle.rule_edits.specs.declared.RuleChange.{RuleChange}
use Rattle.rule_edits.specs.RuleEdits.{RuleEdit, rule_changes, sheet_index_of}
use Rattle.edit_plans.specs.RuleEdits.{all_diffs, diffs_of, rules_edited, rules_in, rules_record, with_changes}
use Rattle.edit_plans.specs.SheetEdits.{added_record, copied_record, copy_diff, deleted_record, deletion_diff, move_diff, named_record, new_diff, one_diff, rename_diff, sheet_added, sheet_copied, sheet_deleted, sheet_named, sheet_taken, taken_record, with_copy, with_name, with_new_sheet}
use Rattle.edit_plans.specs.SettingEdits.{setting_record}
use Rattle.edit_plans.specs.ViewSteps.{selected_by}
use Rattle.edit_plans.specs.laws.SettingStays.{setting_exact}
use Rattle.edit_plans.specs.laws.ViewLaws.{sheets_keep_range, view_kept}
use Rattle.open_book.specs.BothWays.{GoesBothWays}
use Rattle.open_book.specs.Document.{Document}
use Rattle.open_book.specs.Sound.{IsExact, IsOneDiff}
use Rattle.open_book.specs.Stands.{IsPlanOf, IsStepBy}
use Rattle.open_book.proofs.SheetsEncoded.{sheets_encodable}

-- what holds of each accepted edit of the list of the sheets of a well-formed workbook
abbrev pub SheetLaw : Type 0
SheetLaw = (edit : Edit) (earlier later : Book) → IsTrue (is_of_sheets edit) → IsWellFormed earlier → changed edit earlier ≡ Ok later → SheetsGoBothWays edit earlier later

-- ---- the record is one diff

never_accepted : {X : Type 0} (error : EditError) (later : Book) → ◌≡◌ {A = Result Book EditError} (Err error) (Ok later) → X
never_accepted error later is = absurd (cc)

module _ (earlier later : Book) where
  abbrev ids : List ℕ
  ids = ids_of earlier.worksheets

  added_exact : changed AddSheet earlier ≡ Ok later → IsExact AddSheet earlier later (added_record earlier)
  unfolding sheet_added
  added_exact how = go (next_id ids) how
    where
      go : (id : Result ℕ EditError) → map_ok (with_new_sheet earlier) id ≡ Ok later → IsOneDiff (map_ok (new_diff earlier) id) (one_diff (map_ok (new_diff earlier) id))
      go (Ok id) is = refl
      go (Err error) is = never_accepted error later is

  abbrev copied : ℕ → Result Sheet EditError → Result Diff EditError
  copied index s = and_then s (λ sheet. map_ok (copy_diff index earlier sheet) (next_id ids))

  copied_exact : (index : ℕ) → changed (CopySheet index) earlier ≡ Ok later → IsExact (CopySheet index) earlier later (copied_record index earlier)
  unfolding sheet_copied
  copied_exact index how = at (sheet_at earlier index) how
    where
      of : (sheet : Sheet) (id : Result ℕ EditError) → map_ok (with_copy index earlier sheet) id ≡ Ok later
          → IsOneDiff (map_ok (copy_diff index earlier sheet) id) (one_diff (map_ok (copy_diff index earlier sheet) id))
      of sheet (Ok id) is = refl
      of sheet (Err error) is = never_accepted error later is

      at : (s : Result Sheet EditError) → and_then s (λ sheet. map_ok (with_copy index earlier sheet) (next_id ids)) ≡ Ok later → IsOneDiff (copied index s) (one_diff (copied index s))
      at (Ok sheet) is = of sheet (next_id ids) is
      at (Err error) is = never_accepted error later is

  deleted_exact : (index : ℕ) → changed (DeleteSheet index) earlier ≡ Ok later → IsExact (DeleteSheet index) earlier later (deleted_record index earlier)
  unfolding sheet_deleted
  deleted_exact index how = at (sheet_at earlier index) (λ sheet. _) how
    where
      at : (s : Result Sheet EditError) (f : Sheet → Result Book EditError) → and_then s f ≡ Ok later → IsOneDiff (map_ok (deletion_diff index earlier) s) (one_diff (map_ok (deletion_diff index earlier) s))
      at (Ok sheet) f is = refl
      at (Err error) f is = never_accepted error later is

  named_exact : (index : ℕ) (name : List ℕ) → changed (RenameSheet index name) earlier ≡ Ok later → IsExact (RenameSheet index name) earlier later (named_record index name earlier)
  unfolding sheet_named
  named_exact index name how = at (sheet_at earlier index) how
    where
      at : (s : Result Sheet EditError) → and_then s (with_name name earlier) ≡ Ok later → IsOneDiff (map_ok (rename_diff name earlier) s) (one_diff (map_ok (rename_diff name earlier) s))
      at (Ok sheet) is = refl
      at (Err error) is = never_accepted error later is

  names_exact : (edit : NameEdit) → changed (ChangeNames edit) earlier ≡ Ok later → IsExact (ChangeNames edit) earlier later (names_record edit earlier)
  unfolding names_edited
  names_exact edit how = at (name_change edit earlier) how
    where
      at : (r : Result NameChange EditError) → map_ok (λ change. name_made change earlier) r ≡ Ok later → IsOneDiff (map_ok (name_diff earlier) r) (one_diff (map_ok (name_diff earlier) r))
      at (Ok change) is = refl
      at (Err error) is = never_accepted error later is

  rules_exact : (edit : RuleEdit) → changed (EditRules edit) earlier ≡ Ok later → IsExact (EditRules edit) earlier later (rules_record edit earlier)
  unfolding rules_edited
  rules_exact edit how = at (sheet_at earlier (sheet_index_of edit)) how
    where
      of : (sheet : Sheet) (r : Result (List RuleChange) EditError) → map_ok (with_sheet earlier (sheet_index_of edit)) (map_ok (with_changes sheet) r) ≡ Ok later
          → map_ok (diffs_of sheet) r ≡ Ok (all_diffs (map_ok (diffs_of sheet) r))
      of sheet (Ok changes) is = refl
      of sheet (Err error) is = never_accepted error later is

      diffs : Result Sheet EditError → Result (List Diff) EditError
      diffs s = and_then s (λ sheet. map_ok (diffs_of sheet) (rule_changes edit sheet.formattings))

      at : (s : Result Sheet EditError) → and_then s (λ sheet. map_ok (with_sheet earlier (sheet_index_of edit)) (rules_in edit sheet)) ≡ Ok later
          → diffs s ≡ Ok (all_diffs (diffs s))
      at (Ok sheet) is = of sheet (rule_changes edit sheet.formattings) is
      at (Err error) is = never_accepted error later is

  module _ (from to : ℕ) where
    -- a sheet that is not there is not taken away
    never_taken : slice_get earlier.worksheets from ≡ None → changed (MoveSheet from to) earlier ≡ Ok later → ⊥
    unfolding sheet_taken
    never_taken none how = go (slice_get_cases earlier.worksheets from).1
      where
        refused : nat_lt from (length earlier.worksheets) ≡ false → ◌≡◌ {A = Result Book EditError} (Err InvalidSheet) (Ok later)
        refused past =
            sym (ap (λ b. cond (b && nat_lt to (length earlier.worksheets)) (Ok (record earlier { worksheets = sheets_moved earlier.worksheets from to })) (Err InvalidSheet)) past) ∙ how

        go : ((x : Sheet) × (from < length earlier.worksheets) × (slice_get earlier.worksheets from ≡ Some x) × (get_or earlier.worksheets from x ≡ x)) ⊎ ((length earlier.worksheets ≤ from) × (slice_get earlier.worksheets from ≡ None)) → ⊥
        go (inl there) = let never : ◌≡◌ {A = Option Sheet} (Some there.0) None = sym there.2 ∙ none in cc
        go (inr past) = never_accepted InvalidSheet later (refused (le-ltb from (length earlier.worksheets) past.0))

    abbrev taken : Option Sheet → Result Diff EditError
    taken o = map_ok (move_diff from to) (ok_or InvalidSheet o)

    taken_exact : changed (MoveSheet from to) earlier ≡ Ok later → IsExact (MoveSheet from to) earlier later (taken_record from to earlier)
    taken_exact how = go (slice_get earlier.worksheets from) refl
      where
        go : (o : Option Sheet) → slice_get earlier.worksheets from ≡ o → IsOneDiff (taken o) (one_diff (taken o))
        go (Some sheet) is = refl
        go None is = absurd (never_taken is how)

  set_exact : (setting : Setting) → changed (SetSetting setting) earlier ≡ Ok later → IsExact (SetSetting setting) earlier later (setting_record setting earlier)
  set_exact setting how =
      let same : with_setting setting earlier ≡ later =
      (let is : ◌≡◌ {A = Result Book EditError} (Ok (with_setting setting earlier)) (Ok later) = how in cc) in
      subst (λ book. IsRecord earlier book (setting_record setting earlier)) same (setting_exact setting earlier)

  exact : (edit : Edit) → IsTrue (is_of_sheets edit) → changed edit earlier ≡ Ok later → IsExact edit earlier later (record_of edit earlier later)
  exact AddSheet is how = added_exact how
  exact (CopySheet index) is how = copied_exact index how
  exact (DeleteSheet index) is how = deleted_exact index how
  exact (MoveSheet from to) is how = taken_exact from to how
  exact (RenameSheet index name) is how = named_exact index name how
  exact (ChangeNames edit) is how = names_exact edit how
  exact (EditRules edit) is how = rules_exact edit how
  exact (SetSetting setting) is how = set_exact setting how
  exact (Input index row column content feeds) is how = absurd (let never : false ≡ true = is in cc)
  exact (ArrayInput index r tree) is how = absurd (let never : false ≡ true = is in cc)
  exact (SetLink index row column link) is how = absurd (let never : false ≡ true = is in cc)
  exact (Merge index r) is how = absurd (let never : false ≡ true = is in cc)
  exact (Unmerge index row column) is how = absurd (let never : false ≡ true = is in cc)
  exact (Lines index axis kind) is how = absurd (let never : false ≡ true = is in cc)
  exact (MoveLines index axis first count delta) is how = absurd (let never : false ≡ true = is in cc)
  exact (SetField index value) is how = absurd (let never : false ≡ true = is in cc)
  exact (SetSize index axis first last size) is how = absurd (let never : false ≡ true = is in cc)
  exact (SetHidden index axis first last hidden) is how = absurd (let never : false ≡ true = is in cc)
  exact (SetRangeStyle index r path value) is how = absurd (let never : false ≡ true = is in cc)
  exact (ClearRange index clearing r) is how = absurd (let never : false ≡ true = is in cc)
  exact (ClearFormatting index r) is how = absurd (let never : false ≡ true = is in cc)
  exact (PasteStyles index r styles) is how = absurd (let never : false ≡ true = is in cc)
  exact (Fill index axis source to language) is how = absurd (let never : false ≡ true = is in cc)

-- ---- what the law says of a step

module _ (law : SheetLaw) (edit : Edit) (is : IsTrue (is_of_sheets edit)) where
  pub sheets_both : (earlier later : Book) → IsWellFormed earlier → changed edit earlier ≡ Ok later → GoesBothWays edit earlier later
  sheets_both earlier later rules how =
      let it = law edit earlier later is rules how in record { rules = it.rules; forth = it.forth; back = it.back; exact = exact earlier later edit is how }

  module _ (doc : Document) (rules : IsWellFormed doc.book) where
    step_by : (list : List Diff) (later : Book) → changed edit doc.book ≡ Ok later → IsSheetPlan edit doc.book list later → IsStepBy edit doc.book list later
    step_by list later how plan =
        let it = sheets_both doc.book later rules how in
        record {
          recorded = plan.recorded;
          step = record {
            before = rules;
            after = it.rules;
            forth = it.forth;
            back = it.back;
            exact = it.exact;
            encodable = sheets_encodable doc.book rules edit is later (subst IsCanonicalList plan.recorded plan.canonical);
          };
          canonical = plan.canonical;
        }

    made_by : (list : List Diff) (r : Result Book EditError) → changed edit doc.book ≡ r → IsOkAnd r (IsSheetPlan edit doc.book list) → IsOkAnd r (IsStepBy edit doc.book list)
    made_by list (Ok later) how plan = step_by list later how plan
    made_by list (Err error) how plan = absurd plan

    -- the plan of such an edit is one of a sound step
    pub sheets_plan : (plan : Result (List Diff) EditError) (selected : ℕ) → is_silent edit doc.book ≡ false → (IsOk (changed edit doc.book) → selected_by edit doc.book doc.view.sheet ≡ selected) → PlansSheets edit plan doc.book
        → IsPlanOf edit plan selected doc
    sheets_plan plan selected loud selects plans = record { loud = loud; selects = selects; asks = λ accepted. view_kept edit (sheets_keep_range edit is) doc.book doc.view; planned = planned_by plan plans.planned; refused = plans.refused; memory = plans.memory }
      where
        planned_by : (p : Result (List Diff) EditError) → IfOk p (λ list. IsOkAnd (changed edit doc.book) (IsSheetPlan edit doc.book list)) → IfOk p (λ list. IsOkAnd (changed edit doc.book) (IsStepBy edit doc.book list))
        planned_by (Ok list) planned = made_by list (changed edit doc.book) refl planned
        planned_by (Err error) planned = tt
