-- Plans of ranges: the record of a plan that keeps the rules, and that those of styles and of clearing keep them.
use Rattle.std.proofs.Common.{◌≡◌, ℕ, Bool, true, false, ◌&&◌, List, [], ◌∷◌, Option, Some, None, Result, Ok, Err, inl, inr, refl, ap, sym, subst, ◌∙◌}
use Rattle.std.specs.Prelude.{IfOk, IsOkUnless}
use Rattle.std.specs.List.{AllByRecursion, list_all}
use Rattle.std.specs.Option.{option_and_then}
use Rattle.std.specs.Ordering.{int_cmp}
use Rattle.std.specs.Cmp.{int_cmp_total}
use Rattle.std.specs.FinMap.{empty, entries, get}
use Rattle.std.proofs.lemmas.Map.Lookups.{exact_signed}
use Rattle.base_values.specs.declared.EditError.{EditError}
use Rattle.base_values.specs.declared.EditError.TheVariants.{NoMemory}
use Rattle.base_values.specs.declared.Position.{Position}
use Rattle.base_values.specs.Places.{position_cmp, is_place}
use Rattle.base_values.specs.laws.Places.{position_total, exact_positions}
use Rattle.cell_content.specs.declared.Content.{Content}
use Rattle.cell_content.specs.declared.Content.TheVariants.{Empty}
use Rattle.cell_content.specs.Fitting.{fits_at}
use Rattle.sheet_grid.specs.declared.Cell.{Cell}
use Rattle.sheet_grid.specs.declared.Link.{Link}
use Rattle.sheet_grid.specs.Arrays.{array_at}
use Rattle.sheet_grid.specs.Merges.{is_empty}
use Rattle.sheet_grid.specs.Sheet.{Sheet}
use Rattle.sheet_grid.specs.Book.{Book, sheet_at, sheet_edit, with_sheet}
use Rattle.sheet_rules.specs.WellFormed.{IsWellFormed}
use Rattle.sheet_rules.specs.laws.EntryLaws.{both}
use Rattle.sheet_rules.specs.laws.OccupiedLaws.{keeps_arrays}
use Rattle.sheet_rules.specs.laws.WellFormedLaws.{cells_fit_from_trees}
use Rattle.sheet_grid.specs.laws.FittingCells.{entry_fits_at}
use Rattle.range_styles.specs.declared.SheetPlan.{SheetPlan}
use Rattle.sheet_history.specs.declared.Diff.{Diff}
use Rattle.sheet_history.specs.declared.LineAxis.TheVariants.{Rows, Columns}
use Rattle.sheet_history.specs.Diffs.{IsCanonicalList}
use Rattle.sheet_history.specs.Entries.{cell_stands_at, is_inside_if_any}
use Rattle.sheet_history.specs.Records.{IsRecord}
use Rattle.sheet_history.specs.laws.Entries.{all_entries}
use Rattle.sheet_history.specs.laws.RuleLaws.{KeepsSheetRules}
use Rattle.edit_plans.specs.SheetPlans.{plan_diffs, with_plan}
use Rattle.edit_plans.specs.laws.AtIndex.{keeps, there}
use Rattle.edit_plans.specs.laws.AttrRules.{own_kept}
use Rattle.edit_plans.specs.laws.PlanRecords.{PlanFits, plan_exact}
use Rattle.edit_plans.specs.laws.PlanRules.{IsLeft, PlanKeeps, plan_keeps}
use Rattle.edit_plans.specs.Plans.{IsPlan, Plans}
use Rattle.edit_plans.specs.laws.PlanLaws.{plan_made, sheet_takes}
use Rattle.edit_plans.specs.laws.SheetRecords.{sheet_keeps}

-- what passes in a list passes one by one
all_listed : {E : Type 0} (P : E → Bool) (es : List E) → list_all P es ≡ true → AllByRecursion (λ e. P e ≡ true) es
all_listed P [] all = tt
all_listed P (e ∷ es) all = let parts = both (P e) (list_all P es) all in (parts.0, all_listed P es parts.1)

module _ (plan : SheetPlan) (sheet : Sheet) (keeping : PlanKeeps plan sheet) (rules : KeepsSheetRules sheet) where
  empty_is : (content : Content) → is_empty content ≡ true → content ≡ Empty
  empty_is Empty h = refl
  empty_is content h = absurd (let never : false ≡ true = h in cc)

  -- a content that is left may stand at its place
  stands_left : (place : Position) (content : Content) → IsLeft (get sheet.cells place) content → (fits_at place content && is_inside_if_any (array_at place content)) ≡ true
  stands_left place content (inl empty) = ap (λ c. fits_at place c && is_inside_if_any (array_at place c)) (empty_is content empty)
  stands_left place content (inr had) =
      ap (λ c. fits_at place c && is_inside_if_any (array_at place c)) had.is
      ∙ (λ i. fits i && inside (array_at place had.cell.content) refl i)
    where
      fits : fits_at place had.cell.content ≡ true
      fits = sym (ap (entry_fits_at place) had.found) ∙ cells_fit_from_trees sheet rules.trees place

      inside : (o : Option _) → array_at place had.cell.content ≡ o → is_inside_if_any o ≡ true
      inside None at = refl
      inside (Some array) at = (keeps_arrays sheet rules.arrays).inside place array (ap (option_and_then (λ (c : Cell). array_at place c.content)) had.found ∙ at)

  entry_stands : (place : Position) (entry : Option Cell) → get plan.cells place ≡ Some entry → (is_place place && cell_stands_at place entry) ≡ true
  entry_stands place None planned = λ i. (keeping.cells place None planned).0 i && true
  entry_stands place (Some cell) planned =
      let kept = keeping.cells place (Some cell) planned in λ i. kept.0 i && stands_left place cell.content kept.1.0 i

  -- each planned entry may stand at its key
  pub plan_fits : (id : ℕ) → PlanFits plan id
  plan_fits id = record {
    cells = all_listed (λ (e : Position × Option Cell). is_place e.0 && cell_stands_at e.0 e.1) (entries plan.cells)
        (all_entries position_cmp position_total exact_positions (λ (e : Position × Option Cell). is_place e.0 && cell_stands_at e.0 e.1) plan.cells entry_stands);
    links = all_listed (λ (e : Position × Option Link). is_place e.0) (entries plan.links)
        (all_entries position_cmp position_total exact_positions (λ (e : Position × Option Link). is_place e.0) plan.links keeping.links);
    columns = all_listed _ (entries plan.columns)
        (all_entries int_cmp int_cmp_total exact_signed _ plan.columns (λ line entry planned. let kept = keeping.columns line entry planned in λ i. kept.0 i && own_kept Columns entry kept.1 i));
    rows = all_listed _ (entries plan.rows)
        (all_entries int_cmp int_cmp_total exact_signed _ plan.rows (λ line entry planned. let kept = keeping.rows line entry planned in λ i. kept.0 i && own_kept Rows entry kept.1 i));
  }

module _ (w : Book) (rules : IsWellFormed w) (index : ℕ) (sheet : Sheet) (at : sheet_at w index ≡ Ok sheet) (plan : SheetPlan) (keeping : PlanKeeps plan sheet) where
  abbrev after : Book
  after = with_sheet w index (with_plan plan sheet)

  one : (s : Sheet) → ◌≡◌ {A = Option Sheet} (Some sheet) (Some s) → sheet ≡ s
  one s same = cc

  -- the changes of the plan are the record, and the later workbook keeps the rules
  pub carried_record : IsRecord w after (plan_diffs plan sheet)
  carried_record = plan_exact w rules index sheet at plan (plan_fits plan sheet keeping (keeps w rules index sheet at) sheet.id)

  pub carried_rules : IsWellFormed after
  carried_rules = sheet_keeps (with_plan plan) (λ s. refl) w rules index sheet at (λ s found kept.
      subst (λ (t : Sheet). KeepsSheetRules (with_plan plan t)) (one s (sym (there w rules index sheet at) ∙ found)) (plan_keeps plan sheet keeping (keeps w rules index sheet at)))

  carried_exact : (list : List Diff) → list ≡ plan_diffs plan sheet → IsCanonicalList list → IsPlan w list after
  carried_exact list is canonical = record { exact = subst (IsRecord w after) (sym is) carried_record; rules = carried_rules; canonical = canonical }

  -- so the call that carries the plan out returns a plan of the edit
  pub plan_carried : (edit : Sheet → Result Sheet EditError) → edit sheet ≡ Ok (with_plan plan sheet) → (result : Result (List Diff) EditError)
      → IfOk result (λ list. list ≡ plan_diffs plan sheet) → IfOk result IsCanonicalList → IsOkUnless result NoMemory → Plans result w (sheet_edit w index edit)
  plan_carried edit done result output canonical only =
      plan_made w after (sheet_edit w index edit) result (sheet_takes w index edit sheet (with_plan plan sheet) at done) only (plan_of result output canonical)
    where
      plan_of : (r : Result (List Diff) EditError) → IfOk r (λ list. list ≡ plan_diffs plan sheet) → IfOk r IsCanonicalList → IfOk r (λ list. IsPlan w list after)
      plan_of (Ok list) is kept = carried_exact list is kept
      plan_of (Err error) is kept = tt
