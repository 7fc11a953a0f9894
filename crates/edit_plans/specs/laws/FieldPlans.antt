-- A field that gets a value leaves a well-formed workbook, and its change is the record.
use Rattle.std.proofs.Common.{◌≡◌, ℕ, Bool, true, false, cond, List, Result, Ok, Err, refl, ap, sym, subst, ◌∙◌}
use Rattle.std.specs.Prelude.{IfOk, IsOkUnless}
use Rattle.base_values.specs.declared.EditError.{EditError}
use Rattle.base_values.specs.declared.EditError.TheVariants.{FrozenCount, NoMemory}
use Rattle.sheet_grid.specs.Sheet.{Sheet}
use Rattle.sheet_grid.specs.Book.{Book, sheet_at, with_sheet}
use Rattle.sheet_rules.specs.WellFormed.{IsWellFormed}
use Rattle.sheet_history.specs.declared.Diff.{Diff}
use Rattle.sheet_history.specs.declared.SheetField.{SheetField}
use Rattle.sheet_history.specs.Diffs.{IsCanonicalList}
use Rattle.sheet_history.specs.Entries.{EntryKey, with_sheet_entry, put_entry}
use Rattle.sheet_history.specs.Entries.EntryKey.{FieldKey}
use Rattle.sheet_history.specs.Entries.EntryValue.{FieldValue}
use Rattle.sheet_history.specs.Fields.{field_of, may_have, with_field}
use Rattle.sheet_history.specs.Records.{IsRecord}
use Rattle.sheet_history.specs.laws.FieldLaws.{own_field}
use Rattle.sheet_history.specs.laws.OneEntry.{put_record}
use Rattle.sheet_history.specs.laws.RuleLaws.{well_formed-field}
use Rattle.edit_plans.specs.Plans.{IsPlan, Plans}
use Rattle.edit_plans.specs.SheetEdits.{field_put, field_set}
use Rattle.edit_plans.specs.laws.EditRecords.{field_change}
use Rattle.edit_plans.specs.laws.AtIndex.{there, changed_at, put_changed}
use Rattle.edit_plans.specs.laws.PlanLaws.{plan_refused, plan_made, no_sheet, sheet_refuses, sheet_takes, sheet_sure}

-- a sheet takes a value that it may have
pub field_taken : (value : SheetField) (sheet : Sheet) → may_have value ≡ true → field_put value sheet ≡ Ok (with_field (field_of value) value sheet)
field_taken value sheet may = ap (λ b. cond b (Ok (with_field (field_of value) value sheet)) (Err FrozenCount)) may

-- and only such a one
pub field_may : (value : SheetField) (sheet next : Sheet) → field_put value sheet ≡ Ok next → may_have value ≡ true
field_may value sheet next taken = go (may_have value) refl taken
  where
    go : (b : Bool) → may_have value ≡ b → cond b (Ok (with_field (field_of value) value sheet)) (Err FrozenCount) ≡ Ok next → may_have value ≡ true
    go true is it = is
    go false is it = absurd (let never : ◌≡◌ {A = Result Sheet EditError} (Err FrozenCount) (Ok next) = it in cc)

module _ (w : Book) (index : ℕ) (value : SheetField) (may : may_have value ≡ true) (rules : IsWellFormed w) (sheet : Sheet) (at : sheet_at w index ≡ Ok sheet) where
  abbrev key : EntryKey
  key = FieldKey sheet.id (field_of value)

  abbrev after : Book
  after = with_sheet w index (with_field (field_of value) value sheet)

  put_is : put_entry w key (FieldValue value) ≡ after
  put_is = put_changed w key (FieldValue value) refl ∙ changed_at w rules index sheet at (with_sheet_entry key (FieldValue value))

  pub field_well_formed : IsWellFormed after
  field_well_formed = subst IsWellFormed put_is (well_formed-field w sheet.id (field_of value) value may rules)

  pub field_exact : IsRecord w after (field_change sheet value)
  field_exact =
      subst (λ later. IsRecord w later (field_change sheet value)) put_is
      (put_record w key (FieldValue value) sheet (there w rules index sheet at) (own_field value))

  field_plan : (list : List Diff) → list ≡ field_change sheet value → IsCanonicalList list → IsPlan w list after
  field_plan list is kept = record {
    exact = subst (IsRecord w after) (sym is) field_exact;
    rules = field_well_formed;
    canonical = kept;
  }

  pub field_expected : field_set index value w ≡ Ok after
  unfolding field_set
  field_expected = sheet_takes w index (field_put value) sheet (with_field (field_of value) value sheet) at (field_taken value sheet may)

  -- what the plan returns
  pub field_planned : (result : Result (List Diff) EditError) → IfOk result (λ list. list ≡ field_change sheet value) → IfOk result IsCanonicalList
      → IsOkUnless result NoMemory
      → Plans result w (field_set index value w)
  field_planned result output kept only = plan_made w after (field_set index value w) result field_expected only (plan result output kept)
    where
      plan : (r : Result (List Diff) EditError) → IfOk r (λ list. list ≡ field_change sheet value) → IfOk r IsCanonicalList → IfOk r (λ list. IsPlan w list after)
      plan (Ok list) is all = field_plan list is all
      plan (Err error) is all = tt

-- where no such sheet is there
pub field_no_sheet : (w : Book) (index : ℕ) (value : SheetField) (error : EditError) → sheet_at w index ≡ Err error
    → Plans (Err error) w (field_set index value w)
unfolding field_set
field_no_sheet w index value error missing =
    plan_refused w (field_set index value w) error (no_sheet w index (field_put value) error missing)
    (sheet_sure w index error missing)

-- where the sheet may not have the value
pub field_refused : (w : Book) (index : ℕ) (value : SheetField) (sheet : Sheet) → sheet_at w index ≡ Ok sheet → may_have value ≡ false
    → Plans (Err FrozenCount) w (field_set index value w)
unfolding field_set
field_refused w index value sheet at may =
    plan_refused w (field_set index value w) FrozenCount
    (sheet_refuses w index (field_put value) sheet FrozenCount at (ap (λ b. cond b (Ok (with_field (field_of value) value sheet)) (Err FrozenCount)) may))
    (λ short. cc)
