-- Plans of ranges of styles and of clearing: the refusals, and the records of accepted edits.
use Rattle.std.proofs.Common.{◌≡◌, ◌≢◌, ℕ, Bool, true, false, cond, List, Result, Ok, Err, refl, ap, sym, subst, ◌∙◌}
use Rattle.std.specs.Prelude.{IfOk, IsOk, IsOkUnless, not}
use Rattle.base_values.specs.declared.EditError.{EditError}
use Rattle.base_values.specs.declared.EditError.TheVariants.{InvalidArea, NoMemory, PartialArray, StylesShape}
use Rattle.base_values.specs.Answers.{Returns, Returns, and_then, map_ok}
use Rattle.base_axis.specs.declared.MergedCell.{MergedCell}
use Rattle.base_axis.specs.Rectangles.{IsInside, anchor_place, is_inside}
use Rattle.base_axis.specs.laws.RectangleLaws.{inside_found}
use Rattle.base_styles.specs.declared.Style.{Style}
use Rattle.base_styles.specs.DefaultStyle.{default_style}
use Rattle.sheet_grid.specs.Sheet.{Sheet}
use Rattle.sheet_grid.specs.Book.{Book, sheet_at, sheet_edit, with_sheet}
use Rattle.sheet_rules.specs.WellFormed.{IsWellFormed}
use Rattle.range_styles.specs.declared.Clearing.{Clearing}
use Rattle.range_styles.specs.declared.SheetPlan.{SheetPlan}
use Rattle.range_styles.specs.declared.StyleRange.{StyleRange}
use Rattle.range_styles.specs.Clearing.{clear_area, clear_plan, cuts_array}
use Rattle.range_styles.specs.Styled.{Accepts, StyleAt, all_accept, planned_styles, style_plan}
use Rattle.range_styles.specs.Tiles.{tiles}
use Rattle.range_styles.specs.laws.TileLaws.{tiles_sized}
use Rattle.sheet_history.specs.declared.Diff.{Diff}
use Rattle.sheet_history.specs.Diffs.{IsCanonicalList}
use Rattle.sheet_history.specs.Records.{IsRecord}
use Rattle.edit_plans.specs.SheetPlans.{plan_diffs, with_plan}
use Rattle.edit_plans.specs.laws.AtIndex.{keeps}
use Rattle.edit_plans.specs.laws.PlanRules.{PlanKeeps}
use Rattle.edit_plans.specs.Plans.{HasRecord, Plans}
use Rattle.edit_plans.specs.RangeEdits.{cleared_in, formats_cleared, formats_in, inside_area, is_tile, pasted_in, planned_in, range_cleared, styles_in, styles_pasted, styles_set, updates}
use Rattle.edit_plans.specs.laws.PlanLaws.{no_sheet, plan_refused, sheet_refuses, sheet_sure, sheet_takes}
use Rattle.edit_plans.specs.laws.RangePlans.{carried_record, carried_rules, plan_carried}
use Rattle.edit_plans.specs.laws.RangeRules.{IsSized, cleared_keeps, styled_keeps}
use Rattle.edit_plans.specs.laws.UpdateLaws.{update_sized}

-- ---- rectangles inside

pub inside_is : (r area : MergedCell) → inside_area r ≡ Ok area → IsInside area
inside_is r area is = go (is_inside r) refl is
  where
    go : (b : Bool) → is_inside r ≡ b → ◌≡◌ {A = Result MergedCell EditError} (cond b (Ok r) (Err InvalidArea)) (Ok area) → IsInside area
    go true inside e = let same : r ≡ area = cc in subst IsInside same (inside_found r inside)
    go false inside e = absurd (let never : ◌≡◌ {A = Result MergedCell EditError} (Err InvalidArea) (Ok area) = e in cc)

pub clear_is : (r area : MergedCell) (sheet : Sheet) → clear_area r sheet ≡ Ok area → IsInside area
clear_is r area sheet is = go (is_inside r) refl (cuts_array r sheet) is
  where
    go : (b : Bool) → is_inside r ≡ b → (cut : Bool)
        → ◌≡◌ {A = Result MergedCell EditError} (cond (not b) (Err InvalidArea) (cond cut (Err PartialArray) (Ok r))) (Ok area) → IsInside area
    go true inside true e = absurd (let never : ◌≡◌ {A = Result MergedCell EditError} (Err PartialArray) (Ok area) = e in cc)
    go true inside false e = let same : r ≡ area = cc in subst IsInside same (inside_found r inside)
    go false inside cut e = absurd (let never : ◌≡◌ {A = Result MergedCell EditError} (Err InvalidArea) (Ok area) = e in cc)

-- ---- where the plan of a sheet is refused, or memory is short

module _ (w : Book) (index : ℕ) (sheet : Sheet) (at : sheet_at w index ≡ Ok sheet) (edit : Sheet → Result Sheet EditError) (plan : Result SheetPlan EditError)
    (is : edit sheet ≡ planned_in sheet plan) where
  pub plan_stopped : (error : EditError) → (error ≢ NoMemory → plan ≡ Err error) → (error ≡ NoMemory → IsOk plan) → Plans (Err error) w (sheet_edit w index edit)
  plan_stopped error refused memory = record {
    planned = tt;
    refused = λ other. sheet_refuses w index edit sheet error at (is ∙ ap (planned_in sheet) (refused other));
    memory = λ short. go plan refl (memory short);
  }
    where
      go : (p : Result SheetPlan EditError) → plan ≡ p → IsOk p → IsOk (sheet_edit w index edit)
      go (Ok planned) output ok = subst IsOk (sym (sheet_takes w index edit sheet (with_plan planned sheet) at (is ∙ ap (planned_in sheet) output))) refl
      go (Err other) output ok = absurd (let never : false ≡ true = ok in cc)

-- ---- clearing

module _ (w : Book) (index : ℕ) (clearing : Clearing) (r : MergedCell) where
  -- where no such sheet is there
  pub cleared_no_sheet : (error : EditError) → sheet_at w index ≡ Err error → Plans (Err error) w (range_cleared index clearing r w)
  unfolding range_cleared
  cleared_no_sheet error missing =
      plan_refused w (range_cleared index clearing r w) error (no_sheet w index (cleared_in clearing r) error missing) (sheet_sure w index error missing)

  module _ (sheet : Sheet) (at : sheet_at w index ≡ Ok sheet) where
    -- where the rectangle may not be cleared
    pub cleared_refused : (error : EditError) → clear_area r sheet ≡ Err error → error ≢ NoMemory → Plans (Err error) w (range_cleared index clearing r w)
    unfolding range_cleared
    cleared_refused error refused sure =
        plan_refused w (range_cleared index clearing r w) error
        (sheet_refuses w index (cleared_in clearing r) sheet error at (ap (map_ok (λ area. with_plan (clear_plan clearing area sheet) sheet)) refused)) sure

    -- where memory is short for the plan
    pub cleared_short : (area : MergedCell) → clear_area r sheet ≡ Ok area → (error : EditError) → Returns {T = SheetPlan} (Err error) (Ok (clear_plan clearing area sheet))
        → Plans (Err error) w (range_cleared index clearing r w)
    unfolding range_cleared
    cleared_short area free error answer = record {
      planned = tt;
      refused = λ other. absurd (let never : ◌≡◌ {A = Result SheetPlan EditError} (Ok (clear_plan clearing area sheet)) (Err error) = answer.refused other in cc);
      memory = λ short. subst IsOk
          (sym (sheet_takes w index (cleared_in clearing r) sheet (with_plan (clear_plan clearing area sheet) sheet) at (ap (map_ok (λ a. with_plan (clear_plan clearing a sheet) sheet)) free)))
          refl;
    }

    -- and else
    pub cleared_planned : IsWellFormed w → (area : MergedCell) → clear_area r sheet ≡ Ok area → (plan : SheetPlan) → clear_plan clearing area sheet ≡ plan
        → (result : Result (List Diff) EditError) → IfOk result (λ list. list ≡ plan_diffs plan sheet) → IfOk result IsCanonicalList → IsOkUnless result NoMemory
        → Plans result w (range_cleared index clearing r w)
    unfolding range_cleared
    cleared_planned rules area free plan is result output canonical only =
        plan_carried w rules index sheet at plan
        (subst (λ p. PlanKeeps p sheet) is (cleared_keeps clearing area (clear_is r area sheet free) sheet (keeps w rules index sheet at))) (cleared_in clearing r)
        (ap (map_ok (λ a. with_plan (clear_plan clearing a sheet) sheet)) free ∙ ap (λ p. Ok (with_plan p sheet)) is) result output canonical only

-- a plan of styles that is made is that of the range
pub styles_made : (range : StyleRange) (output : StyleAt) (accepts : Accepts) (refusal : EditError) (sheet : Sheet) (plan : SheetPlan)
    → planned_styles range output accepts refusal sheet ≡ Ok plan → style_plan range output sheet ≡ plan
unfolding planned_styles
styles_made range output accepts refusal sheet plan is = go (all_accept range accepts sheet) is
  where
    go : (b : Bool) → ◌≡◌ {A = Result SheetPlan EditError} (cond b (Ok (style_plan range output sheet)) (Err refusal)) (Ok plan) → style_plan range output sheet ≡ plan
    go true e = cc
    go false e = absurd (let never : ◌≡◌ {A = Result SheetPlan EditError} (Err refusal) (Ok plan) = e in cc)

-- ---- accepted edits

module _ (earlier later : Book) (rules : IsWellFormed earlier) (index : ℕ) (sheet : Sheet) (at : sheet_at earlier index ≡ Ok sheet) (plan : SheetPlan)
    (keeping : PlanKeeps plan sheet) (is : with_sheet earlier index (with_plan plan sheet) ≡ later) where
  pub carried_has_record : HasRecord earlier later
  carried_has_record = record {
    list = plan_diffs plan sheet;
    exact = subst (λ book. IsRecord earlier book (plan_diffs plan sheet)) is (carried_record earlier rules index sheet at plan keeping);
    rules = subst IsWellFormed is (carried_rules earlier rules index sheet at plan keeping);
  }

-- each style that is updated, given or laid keeps its font
pub updates_sized : (path value : List ℕ) → IsSized (updates path value)
updates_sized path value place style font = update_sized path value style font

pub default_sized : IsSized (λ place style. default_style)
default_sized place style font = refl

pub tiles_keep : (styles : List (List Style)) (r : MergedCell) → IsSized (tiles styles (anchor_place r))
tiles_keep styles r place style font = tiles_sized styles (anchor_place r) place style font

-- ---- edits of the styles of a rectangle

module _ (w : Book) (index : ℕ) (r : MergedCell) (range : MergedCell → StyleRange) (output : StyleAt) (sized : IsSized output) (accepts : Accepts) (refusal : EditError) where
  -- what such an edit makes of a sheet
  abbrev pub area_edit : Sheet → Result Sheet EditError
  area_edit sheet = and_then (inside_area r) (λ area. planned_in sheet (planned_styles (range area) output accepts refusal sheet))

  -- where no such sheet is there
  pub area_no_sheet : (error : EditError) → sheet_at w index ≡ Err error → Plans (Err error) w (sheet_edit w index area_edit)
  area_no_sheet error missing = plan_refused w (sheet_edit w index area_edit) error (no_sheet w index area_edit error missing) (sheet_sure w index error missing)

  module _ (sheet : Sheet) (at : sheet_at w index ≡ Ok sheet) where
    -- where the rectangle is empty or reaches outside
    pub area_outside : (error : EditError) → inside_area r ≡ Err error → error ≢ NoMemory → Plans (Err error) w (sheet_edit w index area_edit)
    area_outside error outside sure =
        plan_refused w (sheet_edit w index area_edit) error
        (sheet_refuses w index area_edit sheet error at (ap (λ a. and_then a (λ area. planned_in sheet (planned_styles (range area) output accepts refusal sheet))) outside)) sure

    module _ (area : MergedCell) (from : inside_area r ≡ Ok area) where
      taken : area_edit sheet ≡ planned_in sheet (planned_styles (range area) output accepts refusal sheet)
      taken = ap (λ a. and_then a (λ area. planned_in sheet (planned_styles (range area) output accepts refusal sheet))) from

      -- where one of the styles is refused, or memory is short
      pub area_stopped : (error : EditError) → (error ≢ NoMemory → planned_styles (range area) output accepts refusal sheet ≡ Err error)
          → (error ≡ NoMemory → IsOk (planned_styles (range area) output accepts refusal sheet)) → Plans (Err error) w (sheet_edit w index area_edit)
      area_stopped error refused memory = plan_stopped w index sheet at area_edit (planned_styles (range area) output accepts refusal sheet) taken error refused memory

      -- and else
      pub area_planned : IsWellFormed w → (range area).area ≡ area → (plan : SheetPlan) → planned_styles (range area) output accepts refusal sheet ≡ Ok plan
          → (result : Result (List Diff) EditError) → IfOk result (λ list. list ≡ plan_diffs plan sheet) → IfOk result IsCanonicalList → IsOkUnless result NoMemory
          → Plans result w (sheet_edit w index area_edit)
      area_planned rules same plan is result recorded canonical only =
          plan_carried w rules index sheet at plan
          (subst (λ p. PlanKeeps p sheet) (styles_made (range area) output accepts refusal sheet plan is)
          (styled_keeps (range area) (subst IsInside (sym same) (inside_is r area from)) output sized sheet (keeps w rules index sheet at)))
          area_edit (taken ∙ ap (planned_in sheet) is) result recorded canonical only

      -- the same of a range that is the one of the rectangle
      pub given_stopped : (given : StyleRange) → given ≡ range area → (error : EditError) → Returns {T = SheetPlan} (Err error) (planned_styles given output accepts refusal sheet)
          → Plans (Err error) w (sheet_edit w index area_edit)
      given_stopped given same error answer =
          let of_range : Returns {T = SheetPlan} (Err error) (planned_styles (range area) output accepts refusal sheet) =
          subst (λ (g : StyleRange). Returns {T = SheetPlan} (Err error) (planned_styles g output accepts refusal sheet)) same answer in
          area_stopped error of_range.refused of_range.memory

      pub given_planned : (given : StyleRange) → given ≡ range area → IsWellFormed w → (range area).area ≡ area → (plan : SheetPlan)
          → Returns {T = SheetPlan} (Ok plan) (planned_styles given output accepts refusal sheet)
          → (result : Result (List Diff) EditError) → IfOk result (λ list. list ≡ plan_diffs plan sheet) → IfOk result IsCanonicalList → IsOkUnless result NoMemory
          → Plans result w (sheet_edit w index area_edit)
      given_planned given same rules whole plan answer result recorded canonical only =
          let of_range : Returns {T = SheetPlan} (Ok plan) (planned_styles (range area) output accepts refusal sheet) =
          subst (λ (g : StyleRange). Returns {T = SheetPlan} (Ok plan) (planned_styles g output accepts refusal sheet)) same answer in
          area_planned rules whole plan of_range.done result recorded canonical only

-- these are plans of the edits
pub styles_plans : (w : Book) (index : ℕ) (r : MergedCell) (path value : List ℕ) (result : Result (List Diff) EditError)
    → Plans result w (sheet_edit w index (styles_in r path value)) → Plans result w (styles_set index r path value w)
unfolding styles_set
styles_plans w index r path value result h = h

pub formats_plans : (w : Book) (index : ℕ) (r : MergedCell) (result : Result (List Diff) EditError)
    → Plans result w (sheet_edit w index (formats_in r)) → Plans result w (formats_cleared index r w)
unfolding formats_cleared
formats_plans w index r result h = h

pub pasted_plans : (w : Book) (index : ℕ) (r : MergedCell) (styles : List (List Style)) (result : Result (List Diff) EditError) → is_tile styles ≡ true
    → Plans result w (sheet_edit w index (pasted_in r styles)) → Plans result w (styles_pasted index r styles w)
unfolding styles_pasted
pasted_plans w index r styles result tile h = subst (λ b. Plans result w (cond b (sheet_edit w index (pasted_in r styles)) (Err StylesShape))) (sym tile) h
