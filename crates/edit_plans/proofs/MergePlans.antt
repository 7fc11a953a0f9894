-- The plans of a merge and of its end: the refusals, and the record.
use Rattle.std.proofs.Common.{◌≡◌, ◌≢◌, ℕ, ℤ, Bool, true, false, not, cond, List, [], ◌∷◌, Option, Some, None, Result, Ok, Err, refl, ap, sym, subst, ◌∙◌}
use Rattle.std.specs.Prelude.{IfOk, IsOkUnless}
use Rattle.base_values.specs.declared.EditError.{EditError}
use Rattle.base_values.specs.declared.EditError.TheVariants.{NoMemory, InvalidArea, MergeOverlap, ArrayCell, NoMerge}
use Rattle.base_values.specs.declared.Position.{Position}
use Rattle.base_values.specs.Answers.{and_then}
use Rattle.base_values.specs.Places.{place_of}
use Rattle.base_axis.specs.declared.MergedCell.{MergedCell}
use Rattle.sheet_grid.specs.Arrays.{large_arrays_of}
use Rattle.sheet_grid.specs.Merges.{merge_holding}
use Rattle.sheet_grid.specs.Sheet.{Sheet}
use Rattle.sheet_grid.specs.Book.{Book, sheet_at, with_sheet}
use Rattle.sheet_rules.specs.Occupied.{is_merge, meets_any}
use Rattle.sheet_rules.specs.WellFormed.{IsWellFormed}
use Rattle.sheet_history.specs.declared.Diff.{Diff}
use Rattle.sheet_history.specs.declared.Diff.TheVariants.{Merges as MergesDiff}
use Rattle.sheet_history.specs.Diffs.{IsCanonicalList}
use Rattle.sheet_history.specs.Records.{IsRecord}
use Rattle.edit_plans.specs.Merging.{with_merge, merged_in, merge_made, merges_without, without_merge, unmerged_at, unmerged_in, merge_undone}
use Rattle.edit_plans.specs.laws.EditRecords.{merge_diffs}
use Rattle.edit_plans.specs.Plans.{IsPlan, Plans}
use Rattle.edit_plans.specs.laws.PlanLaws.{plan_refused, plan_made, no_sheet, sheet_refuses, sheet_sure, sheet_takes}
use Rattle.edit_plans.proofs.Merges.{merge_well_formed, merge_exact, unmerge_well_formed, unmerge_exact}

-- what a rectangle has that may be merged
pub record MayMerge (sheet : Sheet) (r : MergedCell) : Type 0 where
  pub is : is_merge r ≡ true
  pub free : meets_any sheet.merges r ≡ false
  pub clear : meets_any (large_arrays_of sheet) r ≡ false

pub may_merge : (sheet : Sheet) (r : MergedCell) (next : Sheet) → merged_in r sheet ≡ Ok next → MayMerge sheet r
may_merge sheet r next done = go (is_merge r) refl (meets_any sheet.merges r) refl (meets_any (large_arrays_of sheet) r) refl done
  where
    go : (a : Bool) → is_merge r ≡ a → (b : Bool) → meets_any sheet.merges r ≡ b → (c : Bool) → meets_any (large_arrays_of sheet) r ≡ c
        → cond (not a) (Err InvalidArea) (cond b (Err MergeOverlap) (cond c (Err ArrayCell) (Ok (with_merge sheet r)))) ≡ Ok next → MayMerge sheet r
    go true is false free false clear it = record { is = is; free = free; clear = clear }
    go true is false free true clear it = absurd (let never : ◌≡◌ {A = Result Sheet EditError} (Err ArrayCell) (Ok next) = it in cc)
    go true is true free c clear it = absurd (let never : ◌≡◌ {A = Result Sheet EditError} (Err MergeOverlap) (Ok next) = it in cc)
    go false is b free c clear it = absurd (let never : ◌≡◌ {A = Result Sheet EditError} (Err InvalidArea) (Ok next) = it in cc)

module _ (w : Book) (index : ℕ) where
  pub merge_no_sheet : (r : MergedCell) (error : EditError) → sheet_at w index ≡ Err error → Plans (Err error) w (merge_made index r w)
  unfolding merge_made
  merge_no_sheet r error none = plan_refused w _ error (no_sheet w index (merged_in r) error none) (sheet_sure w index error none)

  pub unmerge_no_sheet : (row column : ℤ) (error : EditError) → sheet_at w index ≡ Err error → Plans (Err error) w (merge_undone index row column w)
  unfolding merge_undone
  unmerge_no_sheet row column error none = plan_refused w _ error (no_sheet w index _ error none) (sheet_sure w index error none)

  module _ (sheet : Sheet) (at : sheet_at w index ≡ Ok sheet) where
    pub merge_refused : (r : MergedCell) (error : EditError) → error ≢ NoMemory → merged_in r sheet ≡ Err error → Plans (Err error) w (merge_made index r w)
    unfolding merge_made
    merge_refused r error other is = plan_refused w _ error (sheet_refuses w index (merged_in r) sheet error at is) other

    pub unmerge_refused : (row column : ℤ) (error : EditError) → error ≢ NoMemory
        → unmerged_in row column sheet ≡ Err error
        → Plans (Err error) w (merge_undone index row column w)
    unfolding merge_undone
    unmerge_refused row column error other is = plan_refused w _ error (sheet_refuses w index _ sheet error at is) other

    module _ (rules : IsWellFormed w) (result : Result (List Diff) EditError) (kept : IfOk result IsCanonicalList) (only : IsOkUnless result NoMemory) where
      made_plan : (later : Book) (diffs : List Diff) → IsWellFormed later → IsRecord w later diffs → (answer : Result (List Diff) EditError)
          → IfOk answer (λ list. list ≡ diffs) → IfOk answer IsCanonicalList → IfOk answer (λ list. IsPlan w list later)
      made_plan later diffs well exact (Ok list) output fit = record { exact = subst (IsRecord w later) (sym output) exact; rules = well; canonical = fit }
      made_plan later diffs well exact (Err error) output fit = tt

      pub merge_planned : (r : MergedCell) → merged_in r sheet ≡ Ok (with_merge sheet r) → IfOk result (λ list. list ≡ merge_diffs r sheet)
          → Plans result w (merge_made index r w)
      unfolding merge_made
      merge_planned r done output =
          let may = may_merge sheet r (with_merge sheet r) done in
          plan_made w (with_sheet w index (with_merge sheet r)) _ result (sheet_takes w index (merged_in r) sheet (with_merge sheet r) at done) only
          (made_plan (with_sheet w index (with_merge sheet r)) (merge_diffs r sheet)
          (merge_well_formed w rules index sheet at r may.is may.free may.clear) (merge_exact w rules index sheet at r) result output kept)

      -- a merge holds the place that was found
      holding : (row column : ℤ) (place : Position)
          → unmerged_in row column sheet ≡ Ok (without_merge sheet place)
          → place_of row column ≡ Ok place → (merge : MergedCell) × (merge_holding sheet.merges place ≡ Some merge)
      holding row column place done named = go (merge_holding sheet.merges place) refl
          (sym (ap (λ p. and_then p (λ q. unmerged_at sheet q (merge_holding sheet.merges q))) named) ∙ done)
        where
          go : (o : Option MergedCell) → merge_holding sheet.merges place ≡ o → unmerged_at sheet place o ≡ Ok (without_merge sheet place)
              → (merge : MergedCell) × (merge_holding sheet.merges place ≡ Some merge)
          go None is it = absurd (let never : ◌≡◌ {A = Result Sheet EditError} (Err NoMerge) (Ok (without_merge sheet place)) = it in cc)
          go (Some merge) is it = (merge, is)

      pub unmerge_planned : (row column : ℤ) (place : Position) → place_of row column ≡ Ok place
          → unmerged_in row column sheet ≡ Ok (without_merge sheet place)
          → IfOk result (λ list. list ≡ MergesDiff sheet.id sheet.merges (merges_without place sheet.merges) ∷ [])
          → Plans result w (merge_undone index row column w)
      unfolding merge_undone
      unmerge_planned row column place named done output =
          let held = holding row column place done named in
          plan_made w (with_sheet w index (without_merge sheet place)) _ result (sheet_takes w index _ sheet (without_merge sheet place) at done) only
          (made_plan (with_sheet w index (without_merge sheet place)) (MergesDiff sheet.id sheet.merges (merges_without place sheet.merges) ∷ [])
          (unmerge_well_formed w rules index sheet at place) (unmerge_exact w rules index sheet at place held.0 held.1) result output kept)
