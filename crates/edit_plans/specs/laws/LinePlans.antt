-- Lines that are changed: the refusals, and the record.
use Rattle.std.proofs.Common.{◌≡◌, ◌≢◌, ℕ, ℤ, Bool, true, false, cond, List, Result, Ok, Err, ap, sym, subst, ◌∙◌}
use Rattle.std.specs.Prelude.{IfOk, IsOkUnless}
use Rattle.base_values.specs.declared.EditError.{EditError}
use Rattle.base_values.specs.declared.EditError.TheVariants.{InvalidArea, NoMemory}
use Rattle.base_values.specs.Answers.{and_then, map_ok}
use Rattle.line_sizes.specs.declared.LineChange.{LineChange}
use Rattle.line_sizes.specs.LineChanges.{has_lines, line_count, lines_from}
use Rattle.sheet_grid.specs.Sheet.{Sheet}
use Rattle.sheet_grid.specs.Book.{Book, sheet_at, with_sheet}
use Rattle.sheet_rules.specs.WellFormed.{IsWellFormed}
use Rattle.sheet_history.specs.declared.Diff.{Diff}
use Rattle.sheet_history.specs.declared.LineAxis.{LineAxis}
use Rattle.sheet_history.specs.LineDiffs.{along_of}
use Rattle.sheet_history.specs.Diffs.{IsCanonicalList}
use Rattle.sheet_history.specs.Records.{IsRecord}
use Rattle.edit_plans.specs.LineRecords.{change_fits, line_diffs, lines_of, lines_set}
use Rattle.edit_plans.specs.laws.LineRecordLaws.{attrs_exact, attrs_well_formed, lines_inside}
use Rattle.edit_plans.specs.Plans.{IsPlan, Plans}
use Rattle.edit_plans.specs.LineEdits.{attrs_in, attrs_set}
use Rattle.edit_plans.specs.laws.PlanLaws.{plan_refused, plan_made, no_sheet, sheet_refuses, sheet_takes, sheet_sure}

-- lines are not refused since memory is short
lines_sure : (end first last : ℤ) (error : EditError) → lines_from end first last ≡ Err error → error ≢ NoMemory
unfolding lines_from
lines_sure end first last error is short = go (has_lines end first last) is
  where
    go : (b : Bool) → ◌≡◌ {A = Result ℕ EditError} (cond b (Ok (line_count first last)) (Err InvalidArea)) (Err error) → ⊥
    go true e = absurd (let never : ◌≡◌ {A = Result ℕ EditError} (Ok (line_count first last)) (Err error) = e in cc)
    go false e = absurd (let never : ◌≡◌ {A = Result ℕ EditError} (Err InvalidArea) (Err NoMemory) = e ∙ ap Err short in cc)

module _ (w : Book) (index : ℕ) (axis : LineAxis) (first last : ℤ) where
  -- where no such sheet is there
  pub attrs_no_sheet : (change : Result LineChange EditError) (error : EditError) → sheet_at w index ≡ Err error → Plans (Err error) w (attrs_set index axis first last change w)
  unfolding attrs_set
  attrs_no_sheet change error missing =
      plan_refused w (attrs_set index axis first last change w) error (no_sheet w index (attrs_in axis first last change) error missing) (sheet_sure w index error missing)

  module _ (sheet : Sheet) (at : sheet_at w index ≡ Ok sheet) where
    -- where these are not lines of the axis
    pub attrs_refused : (change : Result LineChange EditError) (error : EditError) → lines_from (along_of axis).last first last ≡ Err error
        → Plans (Err error) w (attrs_set index axis first last change w)
    unfolding attrs_set
    attrs_refused change error outside =
        plan_refused w (attrs_set index axis first last change w) error
        (sheet_refuses w index (attrs_in axis first last change) sheet error at (ap (λ r. and_then r (λ count. map_ok (λ output. lines_set axis output first count sheet) change)) outside))
        (lines_sure (along_of axis).last first last error outside)

    module _ (count : ℕ) (from : lines_from (along_of axis).last first last ≡ Ok count) where
      taken : (change : Result LineChange EditError) → attrs_in axis first last change sheet ≡ map_ok (λ output. lines_set axis output first count sheet) change
      taken change = ap (λ r. and_then r (λ count. map_ok (λ output. lines_set axis output first count sheet) change)) from

      -- where there is no such change
      pub attrs_unchanged : (error : EditError) → error ≢ NoMemory → Plans (Err error) w (attrs_set index axis first last (Err error) w)
      unfolding attrs_set
      attrs_unchanged error sure =
          plan_refused w (attrs_set index axis first last (Err error) w) error (sheet_refuses w index (attrs_in axis first last (Err error)) sheet error at (taken (Err error))) sure

      -- and else
      pub attrs_planned : IsWellFormed w → (change : LineChange) → change_fits axis change ≡ true → (result : Result (List Diff) EditError)
          → IfOk result (λ list. list ≡ line_diffs sheet.id axis change (lines_of axis sheet) first count) → IfOk result IsCanonicalList → IsOkUnless result NoMemory
          → Plans result w (attrs_set index axis first last (Ok change) w)
      unfolding attrs_set
      attrs_planned rules change fits result output kept only =
          plan_made w after (attrs_set index axis first last (Ok change) w) result
          (sheet_takes w index (attrs_in axis first last (Ok change)) sheet (lines_set axis change first count sheet) at (taken (Ok change))) only (plan result output kept)
        where
          after : Book
          after = with_sheet w index (lines_set axis change first count sheet)

          plan : (r : Result (List Diff) EditError) → IfOk r (λ list. list ≡ line_diffs sheet.id axis change (lines_of axis sheet) first count) → IfOk r IsCanonicalList
              → IfOk r (λ list. IsPlan w list (with_sheet w index (lines_set axis change first count sheet)))
          plan (Ok list) is all = record {
            exact = subst (IsRecord w (with_sheet w index (lines_set axis change first count sheet))) (sym is)
                (attrs_exact w rules index sheet at axis change fits first count (lines_inside (along_of axis).last first last count from));
            rules = attrs_well_formed w rules index sheet at axis change fits first count (lines_inside (along_of axis).last first last count from);
            canonical = all;
          }
          plan (Err error) is all = tt
