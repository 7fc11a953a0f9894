-- What plans of edits of the list of the sheets return.
use Rattle.std.proofs.Common.{◌≡◌, ◌≢◌, ℕ, ◌+◌, ◌≤◌, ◌<◌, ◌==◌, Bool, true, false, cond, List, [], ◌∷◌, length, get_or, Option, Some, None, Result, Ok, Err, refl, ap, sym, subst, ◌∙◌, arith}
use Rattle.std.specs.Prelude.{◌&&◌, nat_le, nat_lt, slice_get, IfOk, IsOk, IsOkAnd, IsOkUnless, IsTrue}
use Rattle.std.proofs.lemmas.Option.{slice_get_within, slice_get-get_or}
use Rattle.base_values.specs.declared.EditError.{EditError}
use Rattle.base_values.specs.declared.EditError.TheVariants.{InvalidSheet, OnlySheet, SheetIds, SheetName, NoMemory}
use Rattle.base_values.specs.Answers.{and_then, map_ok, ok_or}
use Rattle.defined_names.specs.Names.{names_left}
use Rattle.sheet_grid.specs.Sheet.{Sheet, new_sheet}
use Rattle.sheet_grid.specs.Book.{Book, ids_of, sheet_at, sheets_moved}
use Rattle.sheet_rules.specs.WellFormed.{IsWellFormed}
use Rattle.sheet_naming.specs.NextIds.{greatest, last_id, next_id}
use Rattle.book_sheets.specs.SheetDiffs.{without_sheet_at}
use Rattle.book_names.specs.Renaming.{book_renamed}
use Rattle.book_names.specs.RenameDiffs.{may_be_named}
use Rattle.sheet_history.specs.declared.Diff.{Diff}
use Rattle.sheet_history.specs.Diffs.{book_after, IsCanonicalList}
use Rattle.edit_plans.specs.Edits.{Edit, changed, is_of_sheets, record_of}
use Rattle.edit_plans.specs.Edits.Edit.{AddSheet, CopySheet, DeleteSheet, MoveSheet, RenameSheet, SetSetting}
use Rattle.sheet_history.specs.declared.Setting.{Setting}
use Rattle.sheet_history.specs.Settings.{with_setting}
use Rattle.edit_plans.specs.SettingEdits.{setting_record}
use Rattle.edit_plans.specs.Plans.{IsSheetPlan, PlansSheets}
use Rattle.edit_plans.specs.SheetEdits.{with_new_sheet, sheet_added, with_copy, sheet_copied, sheet_deleted, sheet_taken, with_name, sheet_named, new_diff, copy_diff, deletion_diff, move_diff, rename_diff, one_diff}
use Rattle.edit_plans.specs.laws.PlanLaws.{sheet_sure}
use Rattle.edit_plans.specs.laws.SheetEditLaws.{goes_both_ways, few_sheets, sheet_there}

-- a refusal that is expected
pub sheets_refused : (edit : Edit) (book : Book) (error : EditError) → changed edit book ≡ Err error → error ≢ NoMemory → PlansSheets edit (Err error) book
sheets_refused edit book error is sure = record { planned = tt; refused = λ other. is; memory = λ short. absurd (sure short) }

-- the record of the change that is expected, or no memory
pub sheets_planned : (edit : Edit) (book later : Book) (result : Result (List Diff) EditError) → IsTrue (is_of_sheets edit) → IsWellFormed book
    → changed edit book ≡ Ok later → IsOkUnless result NoMemory → IfOk result (λ list. list ≡ record_of edit book later) → IfOk result IsCanonicalList
    → PlansSheets edit result book
sheets_planned edit book later (Ok list) of_sheets rules how only is kept =
    let goes = goes_both_ways edit book later of_sheets rules how in
    let plan : IsSheetPlan edit book list later =
    record { recorded = is; forth = ap (book_after book) is ∙ goes.forth; rules = goes.rules; canonical = kept } in
    record { planned = subst (λ e. IsOkAnd e (IsSheetPlan edit book list)) (sym how) plan; refused = tt; memory = tt }
sheets_planned edit book later (Err error) of_sheets rules how only is kept =
    record { planned = tt; refused = λ other. absurd (other only); memory = λ short. subst IsOk (sym how) refl }

-- a record of one diff is that record
pub one_planned : (edit : Edit) (book later : Book) (diff : Diff) → IsTrue (is_of_sheets edit) → IsWellFormed book → changed edit book ≡ Ok later
    → record_of edit book later ≡ diff ∷ []
    → (result : Result (List Diff) EditError) → IsOkUnless result NoMemory → IfOk result (λ list. list ≡ diff ∷ []) → IfOk result IsCanonicalList
    → PlansSheets edit result book
one_planned edit book later diff of_sheets rules how is (Ok list) only output kept =
    sheets_planned edit book later (Ok list) of_sheets rules how only (output ∙ sym is) kept
one_planned edit book later diff of_sheets rules how is (Err error) only output kept =
    sheets_planned edit book later (Err error) of_sheets rules how only tt tt

-- the record of a setting is that record
pub setting_planned : (setting : Setting) (book : Book) → IsWellFormed book
    → (result : Result (List Diff) EditError) → IsOkUnless result NoMemory → IfOk result (λ list. list ≡ setting_record setting book)
    → IfOk result IsCanonicalList → PlansSheets (SetSetting setting) result book
setting_planned setting book rules result only output kept =
    sheets_planned (SetSetting setting) book (with_setting setting book) result refl rules refl only output kept

-- no id is missing for lack of memory
no_id : (ids : List ℕ) (error : EditError) → next_id ids ≡ Err error → error ≢ NoMemory
no_id ids error missing short = go (nat_le last_id (greatest ids)) missing
  where
    go : (b : Bool) → cond b (Err SheetIds) (Ok (greatest ids + 1)) ≡ Err error → ⊥
    go true e = absurd (let never : ◌≡◌ {A = Result ℕ EditError} (Err SheetIds) (Err NoMemory) = e ∙ ap Err short in cc)
    go false e = absurd (let never : ◌≡◌ {A = Result ℕ EditError} (Ok (greatest ids + 1)) (Err error) = e in cc)

other_sheet : InvalidSheet ≢ NoMemory
other_sheet same = cc

other_only : OnlySheet ≢ NoMemory
other_only same = cc

other_name : SheetName ≢ NoMemory
other_name same = cc

-- ---- a new sheet

-- where there is no further id
pub new_refused : (book : Book) (error : EditError) → next_id (ids_of book.worksheets) ≡ Err error → PlansSheets AddSheet (Err error) book
unfolding sheet_added
new_refused book error missing = sheets_refused AddSheet book error (ap (map_ok (with_new_sheet book)) missing) (no_id (ids_of book.worksheets) error missing)

-- and else
pub new_planned : (book : Book) → IsWellFormed book → (id : ℕ) → next_id (ids_of book.worksheets) ≡ Ok id
    → (result : Result (List Diff) EditError) → IsOkUnless result NoMemory → IfOk result (λ list. list ≡ new_diff book id ∷ []) → IfOk result IsCanonicalList
    → PlansSheets AddSheet result book
unfolding sheet_added
new_planned book rules id found =
    one_planned AddSheet book (with_new_sheet book id) (new_diff book id) refl rules (ap (map_ok (with_new_sheet book)) found)
    (ap (λ r. one_diff (map_ok (new_diff book) r)) found)

-- ---- a copy

module _ (book : Book) (index : ℕ) where
  -- where there is no such sheet
  pub copy_no_sheet : (error : EditError) → sheet_at book index ≡ Err error → PlansSheets (CopySheet index) (Err error) book
  unfolding sheet_copied
  copy_no_sheet error missing =
      sheets_refused (CopySheet index) book error (ap (λ r. and_then r (λ sheet. map_ok (with_copy index book sheet) (next_id (ids_of book.worksheets)))) missing)
      (sheet_sure book index error missing)

  -- where there is no further id
  pub copy_no_id : (sheet : Sheet) (error : EditError) → sheet_at book index ≡ Ok sheet → next_id (ids_of book.worksheets) ≡ Err error
      → PlansSheets (CopySheet index) (Err error) book
  unfolding sheet_copied
  copy_no_id sheet error at missing =
      sheets_refused (CopySheet index) book error (λ i. and_then (at i) (λ s. map_ok (with_copy index book s) (missing i)))
      (no_id (ids_of book.worksheets) error missing)

  -- and else
  pub copy_planned : IsWellFormed book → (sheet : Sheet) (id : ℕ) → sheet_at book index ≡ Ok sheet → next_id (ids_of book.worksheets) ≡ Ok id
      → (result : Result (List Diff) EditError) → IsOkUnless result NoMemory → IfOk result (λ list. list ≡ copy_diff index book sheet id ∷ [])
      → IfOk result IsCanonicalList → PlansSheets (CopySheet index) result book
  unfolding sheet_copied
  copy_planned rules sheet id at found =
      one_planned (CopySheet index) book (with_copy index book sheet id) (copy_diff index book sheet id) refl rules
      (λ i. and_then (at i) (λ s. map_ok (with_copy index book s) (found i)))
      (λ i. one_diff (and_then (at i) (λ s. map_ok (copy_diff index book s) (found i))))

  -- the index of a sheet is below the last number of 32 bits
  pub copy_index : IsWellFormed book → (sheet : Sheet) (id : ℕ) → sheet_at book index ≡ Ok sheet → next_id (ids_of book.worksheets) ≡ Ok id
      → index < 4294967295
  copy_index rules sheet id at found =
      let within = slice_get_within book.worksheets index sheet (sheet_there book index sheet at) in
      let few = few_sheets book rules id found in
      omega (arith, within, few)

-- ---- a deletion

module _ (book : Book) (index : ℕ) where
  pub deletion_no_sheet : (error : EditError) → sheet_at book index ≡ Err error → PlansSheets (DeleteSheet index) (Err error) book
  unfolding sheet_deleted
  deletion_no_sheet error missing =
      sheets_refused (DeleteSheet index) book error
      (ap (λ r. and_then r (λ sheet. cond (length book.worksheets == 1) (Err OnlySheet) (Ok (without_sheet_at index (names_left sheet.id book.names) book)))) missing)
      (sheet_sure book index error missing)

  -- where there is no other
  pub deletion_of_only : (sheet : Sheet) → sheet_at book index ≡ Ok sheet → (length book.worksheets == 1) ≡ true
      → PlansSheets (DeleteSheet index) (Err OnlySheet) book
  unfolding sheet_deleted
  deletion_of_only sheet at only =
      sheets_refused (DeleteSheet index) book OnlySheet
      (λ i. and_then (at i) (λ s. cond (only i) (Err OnlySheet) (Ok (without_sheet_at index (names_left s.id book.names) book)))) other_only

  pub deletion_planned : IsWellFormed book → (sheet : Sheet) → sheet_at book index ≡ Ok sheet → (length book.worksheets == 1) ≡ false
      → (result : Result (List Diff) EditError) → IsOkUnless result NoMemory → IfOk result (λ list. list ≡ deletion_diff index book sheet ∷ [])
      → IfOk result IsCanonicalList → PlansSheets (DeleteSheet index) result book
  unfolding sheet_deleted
  deletion_planned rules sheet at others =
      one_planned (DeleteSheet index) book (without_sheet_at index (names_left sheet.id book.names) book) (deletion_diff index book sheet) refl rules
      (λ i. and_then (at i) (λ s. cond (others i) (Err OnlySheet) (Ok (without_sheet_at index (names_left s.id book.names) book))))
      (ap (λ r. one_diff (map_ok (deletion_diff index book) r)) at)

-- ---- a move

module _ (book : Book) (from to : ℕ) where
  abbrev count : ℕ
  count = length book.worksheets

  abbrev moved : Book
  moved = record book { worksheets = sheets_moved book.worksheets from to }

  -- where one of the two is not there
  not_moved : (a b : Bool) → nat_lt from count ≡ a → nat_lt to count ≡ b → (a && b) ≡ false → PlansSheets (MoveSheet from to) (Err InvalidSheet) book
  unfolding sheet_taken
  not_moved a b low high never =
      sheets_refused (MoveSheet from to) book InvalidSheet
      ((λ i. cond (low i && high i) (Ok moved) (Err InvalidSheet)) ∙ ap (λ c. cond c (Ok moved) (Err InvalidSheet)) never) other_sheet

  pub move_no_sheet : (error : EditError) → sheet_at book from ≡ Err error → PlansSheets (MoveSheet from to) (Err error) book
  move_no_sheet error missing = go (nat_lt from count) refl (slice_get book.worksheets from) refl missing
    where
      go : (b : Bool) → nat_lt from count ≡ b → (o : Option Sheet) → slice_get book.worksheets from ≡ o → ok_or InvalidSheet o ≡ Err error
          → PlansSheets (MoveSheet from to) (Err error) book
      go b low (Some sheet) there e = absurd (let never : ◌≡◌ {A = Result Sheet EditError} (Ok sheet) (Err error) = e in cc)
      go false low None there e =
          let same : InvalidSheet ≡ error = (let is : ◌≡◌ {A = Result Sheet EditError} (Err InvalidSheet) (Err error) = e in cc) in
          subst (λ one. PlansSheets (MoveSheet from to) (Err one) book) same (not_moved false (nat_lt to count) low refl refl)
      go true low None there e =
          let before : from < count = grind (arith, low) in
          absurd (let never : ◌≡◌ {A = Option Sheet} None (Some (get_or book.worksheets from (new_sheet 0 []))) =
          sym there ∙ slice_get-get_or book.worksheets from (new_sheet 0 []) before in cc)

  pub move_no_place : count ≤ to → PlansSheets (MoveSheet from to) (Err InvalidSheet) book
  move_no_place outside = not_moved (nat_lt from count) false refl (grind (arith, outside)) (none (nat_lt from count))
    where
      none : (b : Bool) → (b && false) ≡ false
      none true = refl
      none false = refl

  pub move_planned : IsWellFormed book → (sheet : Sheet) → sheet_at book from ≡ Ok sheet → to < count
      → (result : Result (List Diff) EditError) → IsOkUnless result NoMemory → IfOk result (λ list. list ≡ move_diff from to sheet ∷ [])
      → IfOk result IsCanonicalList → PlansSheets (MoveSheet from to) result book
  unfolding sheet_taken
  move_planned rules sheet at within =
      let before = slice_get_within book.worksheets from sheet (sheet_there book from sheet at) in
      let low : nat_lt from count ≡ true = grind (arith, before) in
      let high : nat_lt to count ≡ true = grind (arith, within) in
      one_planned (MoveSheet from to) book moved (move_diff from to sheet) refl rules
      (λ i. cond (low i && high i) (Ok moved) (Err InvalidSheet)) (ap (λ r. one_diff (map_ok (move_diff from to) r)) at)

-- ---- a renaming

module _ (book : Book) (index : ℕ) (name : List ℕ) where
  pub rename_no_sheet : (error : EditError) → sheet_at book index ≡ Err error → PlansSheets (RenameSheet index name) (Err error) book
  unfolding sheet_named
  rename_no_sheet error missing =
      sheets_refused (RenameSheet index name) book error (ap (λ r. and_then r (with_name name book)) missing) (sheet_sure book index error missing)

  -- where the sheet may not have that name
  pub rename_not_named : (sheet : Sheet) → sheet_at book index ≡ Ok sheet → may_be_named sheet.id name book.worksheets ≡ false
      → PlansSheets (RenameSheet index name) (Err SheetName) book
  unfolding sheet_named
  rename_not_named sheet at never =
      sheets_refused (RenameSheet index name) book SheetName
      (ap (λ r. and_then r (with_name name book)) at ∙ ap (λ b. cond b (Ok (book_renamed sheet.id sheet.name name book)) (Err SheetName)) never) other_name

  pub rename_planned : IsWellFormed book → (sheet : Sheet) → sheet_at book index ≡ Ok sheet → may_be_named sheet.id name book.worksheets ≡ true
      → (result : Result (List Diff) EditError) → IsOkUnless result NoMemory → IfOk result (λ list. list ≡ rename_diff name book sheet ∷ [])
      → IfOk result IsCanonicalList → PlansSheets (RenameSheet index name) result book
  unfolding sheet_named
  rename_planned rules sheet at may =
      one_planned (RenameSheet index name) book (book_renamed sheet.id sheet.name name book) (rename_diff name book sheet) refl rules
      (ap (λ r. and_then r (with_name name book)) at ∙ ap (λ b. cond b (Ok (book_renamed sheet.id sheet.name name book)) (Err SheetName)) may)
      (ap (λ r. one_diff (map_ok (rename_diff name book) r)) at)
