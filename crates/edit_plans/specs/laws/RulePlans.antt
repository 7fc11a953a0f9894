-- What plans of edits of conditional rules return.
use Rattle.std.proofs.Common.{◌≡◌, List, Result, Ok, Err, refl, ap, sym, subst, ◌∙◌}
use Rattle.std.specs.Prelude.{IfOk, IsOk, IsOkUnless}
use Rattle.base_values.specs.declared.EditError.{EditError}
use Rattle.base_values.specs.declared.EditError.TheVariants.{NoMemory}
use Rattle.base_values.specs.Answers.{Returns, and_then, map_ok}
use Rattle.sheet_grid.specs.Sheet.{Sheet}
use Rattle.sheet_grid.specs.Book.{Book, sheet_at, with_sheet}
use Rattle.sheet_rules.specs.WellFormed.{IsWellFormed}
use Rattle.rule_edits.specs.declared.RuleChange.{RuleChange}
use Rattle.rule_edits.specs.RuleEdits.{RuleEdit, rule_changes, sheet_index_of}
use Rattle.sheet_history.specs.declared.Diff.{Diff}
use Rattle.sheet_history.specs.Diffs.{IsCanonicalList}
use Rattle.edit_plans.specs.Edits.Edit.{EditRules}
use Rattle.edit_plans.specs.Plans.{PlansSheets}
use Rattle.edit_plans.specs.RuleEdits.{all_diffs, diffs_of, rules_edited, rules_in, rules_record, with_changes}
use Rattle.edit_plans.specs.laws.PlanLaws.{no_sheet, sheet_sure}
use Rattle.edit_plans.specs.laws.SheetPlans.{sheets_planned, sheets_refused}

-- ---- answers with a function of their value

still_ok : {A B : Type 0} (f : A → B) (r : Result A EditError) → IsOk r → IsOk (map_ok f r)
still_ok f (Ok value) ok = refl
still_ok f (Err error) ok = absurd (cc)

-- a call that is refused is refused with it too
pub mapped_refused : {A B : Type 0} (f : A → B) (expected : Result A EditError) (error : EditError) → Returns {T = A} (Err error) expected
    → Returns {T = B} (Err error) (map_ok f expected)
mapped_refused f expected error returned = record {
  done = tt;
  refused = λ other. ap (map_ok f) (returned.refused other);
  memory = λ short. still_ok f expected (returned.memory short);
}

-- ---- plans

module _ (edit : RuleEdit) (book : Book) where
  -- where there is no such sheet
  pub rules_no_sheet : (error : EditError) → sheet_at book (sheet_index_of edit) ≡ Err error → PlansSheets (EditRules edit) (Err error) book
  unfolding rules_edited
  rules_no_sheet error missing =
      sheets_refused (EditRules edit) book error (no_sheet book (sheet_index_of edit) (rules_in edit) error missing)
      (sheet_sure book (sheet_index_of edit) error missing)

  module _ (sheet : Sheet) (at : sheet_at book (sheet_index_of edit) ≡ Ok sheet) where
    abbrev with_next : Sheet → Book
    with_next next = with_sheet book (sheet_index_of edit) next

    edited_is : rules_edited edit book ≡ map_ok with_next (rules_in edit sheet)
    unfolding rules_edited
    edited_is = ap (λ r. and_then r (λ s. map_ok (with_sheet book (sheet_index_of edit)) (rules_in edit s))) at

    -- where the changes are not made
    pub rules_refused : (error : EditError) → Returns {T = List RuleChange} (Err error) (rule_changes edit sheet.formattings)
        → PlansSheets (EditRules edit) (Err error) book
    rules_refused error returned = record {
      planned = tt;
      refused = λ other. edited_is ∙ ap (λ r. map_ok with_next (map_ok (with_changes sheet) r)) (returned.refused other);
      memory = λ short. subst IsOk (sym edited_is)
          (still_ok with_next (rules_in edit sheet) (still_ok (with_changes sheet) (rule_changes edit sheet.formattings) (returned.memory short)));
    }

    module _ (changes : List RuleChange) (found : rule_changes edit sheet.formattings ≡ Ok changes) where
      accepted_is : rules_edited edit book ≡ Ok (with_next (with_changes sheet changes))
      accepted_is = edited_is ∙ ap (λ r. map_ok with_next (map_ok (with_changes sheet) r)) found

      record_is : rules_record edit book ≡ diffs_of sheet changes
      record_is =
          ap (λ r. all_diffs (and_then r (λ (s : Sheet). map_ok (diffs_of s) (rule_changes edit s.formattings)))) at
          ∙ ap (λ r. all_diffs (map_ok (diffs_of sheet) r)) found

      -- the record of the changes is that record
      record_made : (result : Result (List Diff) EditError) → IfOk result (λ list. list ≡ diffs_of sheet changes)
          → IfOk result (λ list. list ≡ rules_record edit book)
      record_made (Ok list) output = output ∙ sym record_is
      record_made (Err error) output = tt

      -- and where they are made
      pub rules_planned : IsWellFormed book → (result : Result (List Diff) EditError) → IsOkUnless result NoMemory
          → IfOk result (λ list. list ≡ diffs_of sheet changes) → IfOk result IsCanonicalList → PlansSheets (EditRules edit) result book
      rules_planned rules result only output kept =
          sheets_planned (EditRules edit) book (with_next (with_changes sheet changes)) result refl rules accepted_is only (record_made result output) kept
