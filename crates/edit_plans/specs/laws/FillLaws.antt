-- Fills: the record is exact, the later workbook is well-formed, and a plan is what was expected.
use Rattle.std.proofs.Common.{◌≡◌, ℕ, ℤ, true, List, [], ◌∷◌, ◌++◌, Option, Some, Result, Ok, Err, option_map, refl, ap, sym, subst, ◌∙◌}
use Rattle.std.specs.Prelude.{IfOk, IsOk, IsOkUnless}
use Rattle.std.specs.List.{AllByRecursion, list_all}
use Rattle.std.specs.Ordering.{int_cmp, is_lt}
use Rattle.std.specs.FinMap.{FinMap, empty, entries}
use Rattle.base_values.specs.declared.EditError.{EditError}
use Rattle.base_values.specs.declared.EditError.TheVariants.{NoMemory}
use Rattle.base_values.specs.Answers.{Returns, and_then, map_ok}
use Rattle.base_values.specs.Places.{position_cmp}
use Rattle.base_axis.specs.declared.Area.{Area}
use Rattle.base_axis.specs.declared.MergedCell.{MergedCell}
use Rattle.base_axis.specs.Rectangles.{has_many, is_inside}
use Rattle.base_tables.specs.declared.Language.{Language}
use Rattle.sheet_grid.specs.declared.LineAttr.{LineAttr}
use Rattle.sheet_grid.specs.Sheet.{Sheet}
use Rattle.sheet_grid.specs.Book.{Book, sheet_at, with_sheet}
use Rattle.sheet_fill.specs.declared.FillPlan.{FillPlan}
use Rattle.sheet_fill.specs.FillRanges.{source_of}
use Rattle.sheet_fill.specs.Plans.{fill_planned, planned_in}
use Rattle.sheet_fill.specs.laws.RangedFills.{IsPlanned, plan_found}
use Rattle.sheet_rules.specs.Occupied.{is_merge}
use Rattle.sheet_rules.specs.WellFormed.{IsWellFormed}
use Rattle.sheet_rules.specs.laws.EntryLaws.{both}
use Rattle.sheet_rules.specs.laws.OccupiedLaws.{keeps_merges}
use Rattle.sheet_ids.specs.Ids.{sheet_of}
use Rattle.book_sheets.specs.laws.ListTests.{all_others}
use Rattle.sheet_history.specs.declared.Diff.{Diff}
use Rattle.sheet_history.specs.declared.LineAxis.{LineAxis}
use Rattle.sheet_history.specs.declared.LineAxis.TheVariants.{Rows, Columns}
use Rattle.sheet_history.specs.LineDiffs.{along_of}
use Rattle.sheet_history.specs.Diffs.{IsCanonicalList}
use Rattle.sheet_history.specs.Entries.{EntryKey, key_cmp, put_entry, with_changed, with_sheet_entry}
use Rattle.sheet_history.specs.Entries.EntryKey.{AttrKey, CellKey, LinkKey, MergesKey}
use Rattle.sheet_history.specs.Entries.EntryValue.{AttrValue, CellValue, LinkValue, MergesValue}
use Rattle.sheet_history.specs.Records.{IsRecord}
use Rattle.sheet_history.specs.laws.EntryLaws.{found-changed}
use Rattle.sheet_history.specs.laws.LineRecords.{along_lawful}
use Rattle.sheet_history.specs.laws.RuleLaws.{KeepsSheetRules}
use Rattle.edit_plans.specs.SheetPlans.{attr_diffs, cell_diffs, link_diffs, plan_diffs, with_plan}
use Rattle.edit_plans.specs.laws.Appended.{come_before, come_before-append, put_after}
use Rattle.edit_plans.specs.laws.AtIndex.{changed_at, changed_twice, keeps, put_changed, there}
use Rattle.edit_plans.specs.laws.PlanRecords.{PlanFits, cell_kind, column_kind, diffs_before, link_kind, plan_exact, row_kind}
use Rattle.edit_plans.specs.Fills.{fill_made, places_plan, with_fill}
use Rattle.edit_plans.specs.laws.EditRecords.{fill_record}
use Rattle.edit_plans.specs.Plans.{IsPlan, Plans}
use Rattle.edit_plans.specs.laws.FillRules.{fill_fits, fill_keeps}
use Rattle.edit_plans.specs.laws.PlanLaws.{plan_made}
use Rattle.edit_plans.specs.laws.SheetRecords.{sheet_keeps}

-- ---- the record of a plan of places, and of merges

module _ (w : Book) (rules : IsWellFormed w) (index : ℕ) (sheet : Sheet) (at : sheet_at w index ≡ Ok sheet) (plan : FillPlan)
    (fits : PlanFits (places_plan plan.cells plan.links) sheet.id) (inside : list_all is_inside plan.merges ≡ true) where
  -- the sheet where the places have what is planned
  abbrev carried : Sheet → Sheet
  carried = with_plan (places_plan plan.cells plan.links)

  abbrev key : EntryKey
  key = MergesKey sheet.id

  abbrev changes : List Diff
  changes = plan_diffs (places_plan plan.cells plan.links) sheet

  -- the workbook then, by the sheet's id
  abbrev places_put : Book
  places_put = record w { worksheets = with_changed sheet.id carried w.worksheets }

  places_exact : IsRecord w places_put changes
  places_exact = subst (λ later. IsRecord w later changes) (sym (changed_at w rules index sheet at carried))
      (plan_exact w rules index sheet at (places_plan plan.cells plan.links) fits)

  found : sheet_of places_put sheet.id ≡ Some (carried sheet)
  found = found-changed carried (λ s. refl) sheet.id w.worksheets ∙ ap (option_map carried) (there w rules index sheet at)

  any_of : {E : Type 0} (P : E → Type 0) → ((e : E) → P e) → (es : List E) → AllByRecursion P es
  any_of P each [] = tt
  any_of P each (e ∷ es) = (each e, any_of P each es)

  -- no line is planned
  abbrev no_lines : FinMap int_cmp (Option LineAttr)
  no_lines = empty

  cells_before : come_before key (cell_diffs sheet.id plan.cells sheet.cells) ≡ true
  cells_before = diffs_before position_cmp sheet.id (CellKey sheet.id) CellValue (cell_kind sheet.id) (entries plan.cells) sheet key
      (any_of (λ e. is_lt (key_cmp (CellKey sheet.id e.0) key) ≡ true) (λ e. refl) (entries plan.cells))

  links_before : come_before key (link_diffs sheet.id plan.links sheet.links) ≡ true
  links_before = diffs_before position_cmp sheet.id (LinkKey sheet.id) LinkValue (link_kind sheet.id) (entries plan.links) sheet key
      (any_of (λ e. is_lt (key_cmp (LinkKey sheet.id e.0) key) ≡ true) (λ e. refl) (entries plan.links))

  columns_before : come_before key (attr_diffs sheet.id Columns no_lines sheet.columns) ≡ true
  columns_before = diffs_before int_cmp sheet.id (AttrKey sheet.id Columns) AttrValue (column_kind sheet.id) (entries no_lines) sheet key
      (any_of (λ e. is_lt (key_cmp (AttrKey sheet.id Columns e.0) key) ≡ true) (λ e. refl) (entries no_lines))

  rows_before : come_before key (attr_diffs sheet.id Rows no_lines sheet.rows) ≡ true
  rows_before = diffs_before int_cmp sheet.id (AttrKey sheet.id Rows) AttrValue (row_kind sheet.id) (entries no_lines) sheet key
      (any_of (λ e. is_lt (key_cmp (AttrKey sheet.id Rows e.0) key) ≡ true) (λ e. refl) (entries no_lines))

  -- every change of a place comes before that of the merges
  before : come_before key changes ≡ true
  before =
      come_before-append key (cell_diffs sheet.id plan.cells sheet.cells)
      (link_diffs sheet.id plan.links sheet.links ++ (attr_diffs sheet.id Columns no_lines sheet.columns ++ attr_diffs sheet.id Rows no_lines sheet.rows))
      cells_before
      (come_before-append key (link_diffs sheet.id plan.links sheet.links)
      (attr_diffs sheet.id Columns no_lines sheet.columns ++ attr_diffs sheet.id Rows no_lines sheet.rows)
      links_before
      (come_before-append key (attr_diffs sheet.id Columns no_lines sheet.columns) (attr_diffs sheet.id Rows no_lines sheet.rows) columns_before rows_before))

  -- the merges that are put change the sheet once more
  after_is : put_entry places_put key (MergesValue plan.merges) ≡ with_sheet w index (with_fill sheet plan)
  after_is =
      put_changed places_put key (MergesValue plan.merges) refl
      ∙ ap (λ ss. record w { worksheets = ss }) (changed_twice sheet.id carried (with_sheet_entry key (MergesValue plan.merges)) (λ s. refl) w.worksheets)
      ∙ changed_at w rules index sheet at (λ s. with_sheet_entry key (MergesValue plan.merges) (carried s))

  pub places_and_merges : IsRecord w (with_sheet w index (with_fill sheet plan)) (fill_record sheet plan)
  places_and_merges = subst (λ later. IsRecord w later (fill_record sheet plan)) after_is
      (put_after w places_put changes places_exact key (MergesValue plan.merges) (carried sheet) found inside before)

-- ---- a fill

module _ (w : Book) (rules : IsWellFormed w) (index : ℕ) (sheet : Sheet) (at : sheet_at w index ≡ Ok sheet)
    (axis : LineAxis) (source : MergedCell) (to : ℤ) (language : Language) (plan : FillPlan)
    (planned : planned_in (along_of axis) source to w.locale language sheet ≡ Ok plan) where
  made_of : IsPlanned (along_of axis) w.locale language sheet plan
  made_of = plan_found (along_of axis) (along_lawful axis) source to w.locale language sheet plan planned

  sheet_rules : KeepsSheetRules (with_fill sheet plan)
  sheet_rules = subst (λ p. KeepsSheetRules (with_fill sheet p)) made_of.is
      (fill_keeps (along_of axis) (along_lawful axis) made_of.range made_of.beside sheet made_of.free (keeps w rules index sheet at) w.locale language)

  one : (s : Sheet) → ◌≡◌ {A = Option Sheet} (Some sheet) (Some s) → sheet ≡ s
  one s same = cc

  -- the later workbook is well-formed
  pub fill_well_formed : IsWellFormed (with_sheet w index (with_fill sheet plan))
  fill_well_formed = sheet_keeps (λ s. with_fill s plan) (λ s. refl) w rules index sheet at (λ s found kept.
      subst (λ (t : Sheet). KeepsSheetRules (with_fill t plan)) (one s (sym (there w rules index sheet at) ∙ found)) sheet_rules)

  plan_fits : PlanFits (places_plan plan.cells plan.links) sheet.id
  plan_fits = subst (λ (p : FillPlan). PlanFits (places_plan p.cells p.links) sheet.id) made_of.is
      (fill_fits (along_of axis) (along_lawful axis) made_of.range made_of.beside sheet made_of.free (keeps w rules index sheet at) w.locale language sheet.id)

  merges_inside : list_all is_inside plan.merges ≡ true
  merges_inside = all_others is_merge is_inside plan.merges (λ m is. (both (has_many m) (is_inside m) is).1) (keeps_merges (with_fill sheet plan) sheet_rules.merges).merges

  -- the record has the entries that differ
  pub fill_exact : IsRecord w (with_sheet w index (with_fill sheet plan)) (fill_record sheet plan)
  fill_exact = places_and_merges w rules index sheet at plan plan_fits merges_inside

-- ---- what a fill is expected to make, by its plan

module _ (axis : LineAxis) (area : Area) (to : ℤ) (language : Language) (w : Book) where
  -- the workbook after a plan of a sheet
  abbrev made_in : Sheet → Result FillPlan EditError → Result Book EditError
  made_in sheet plan = map_ok (with_sheet w area.sheet) (map_ok (with_fill sheet) plan)

  -- without the sheet there is no plan
  pub never_without : (error : EditError) (plan : FillPlan) → sheet_at w area.sheet ≡ Err error → fill_planned (along_of axis) area to language w ≡ Ok plan → ⊥
  unfolding fill_planned
  never_without error plan missing is =
      let never : ◌≡◌ {A = Result FillPlan EditError} (Err error) (Ok plan) =
      sym (ap (λ r. and_then r (planned_in (along_of axis) (source_of area) to w.locale language)) missing) ∙ is in cc

  -- a refused plan is a refused fill
  pub refused_made : (error : EditError) → fill_planned (along_of axis) area to language w ≡ Err error → fill_made area.sheet axis (source_of area) to language w ≡ Err error
  unfolding fill_planned fill_made
  refused_made error refused = at_sheet (sheet_at w area.sheet) refused
    where
      in_sheet : (sheet : Sheet) (plan : Result FillPlan EditError) → plan ≡ Err error → made_in sheet plan ≡ Err error
      in_sheet sheet plan is = ap (made_in sheet) is

      at_sheet : (r : Result Sheet EditError) → and_then r (planned_in (along_of axis) (source_of area) to w.locale language) ≡ Err error
          → and_then r (λ sheet. made_in sheet (planned_in (along_of axis) (source_of area) to w.locale language sheet)) ≡ Err error
      at_sheet (Ok sheet) is = in_sheet sheet (planned_in (along_of axis) (source_of area) to w.locale language sheet) is
      at_sheet (Err other) is = let same : ◌≡◌ {A = Result FillPlan EditError} (Err other) (Err error) = is in cc

  -- a fill with a plan is made
  pub planned_made : IsOk (fill_planned (along_of axis) area to language w) → IsOk (fill_made area.sheet axis (source_of area) to language w)
  unfolding fill_planned fill_made
  planned_made ok = at_sheet (sheet_at w area.sheet) ok
    where
      in_sheet : (sheet : Sheet) (plan : Result FillPlan EditError) → IsOk plan → IsOk (made_in sheet plan)
      in_sheet sheet (Ok plan) is = refl
      in_sheet sheet (Err error) is = absurd (cc)

      at_sheet : (r : Result Sheet EditError) → IsOk (and_then r (planned_in (along_of axis) (source_of area) to w.locale language))
          → IsOk (and_then r (λ sheet. made_in sheet (planned_in (along_of axis) (source_of area) to w.locale language sheet)))
      at_sheet (Ok sheet) is = in_sheet sheet (planned_in (along_of axis) (source_of area) to w.locale language sheet) is
      at_sheet (Err other) is = absurd (cc)

  -- a plan that is refused, or out of memory
  pub fill_refused : (error : EditError) → Returns (Err error) (fill_planned (along_of axis) area to language w) → Plans (Err error) w (fill_made area.sheet axis (source_of area) to language w)
  fill_refused error returns = record {
    planned = tt;
    refused = λ other. refused_made error (returns.refused other);
    memory = λ short. planned_made (returns.memory short);
  }

  -- and one that is not
  pub fill_taken : IsWellFormed w → (sheet : Sheet) → sheet_at w area.sheet ≡ Ok sheet → (plan : FillPlan) → Returns (Ok plan) (fill_planned (along_of axis) area to language w)
      → (result : Result (List Diff) EditError) → IfOk result (λ list. list ≡ fill_record sheet plan) → IfOk result IsCanonicalList → IsOkUnless result NoMemory
      → Plans result w (fill_made area.sheet axis (source_of area) to language w)
  unfolding fill_planned fill_made
  fill_taken rules sheet at plan returns result output kept only =
      plan_made w after (fill_made area.sheet axis (source_of area) to language w) result expected only (each result output kept)
    where
      after : Book
      after = with_sheet w area.sheet (with_fill sheet plan)

      planned : planned_in (along_of axis) (source_of area) to w.locale language sheet ≡ Ok plan
      planned = ap (λ r. and_then r (planned_in (along_of axis) (source_of area) to w.locale language)) (sym at) ∙ returns.done

      expected : fill_made area.sheet axis (source_of area) to language w ≡ Ok (with_sheet w area.sheet (with_fill sheet plan))
      expected =
          ap (λ r. and_then r (λ s. made_in s (planned_in (along_of axis) (source_of area) to w.locale language s))) at
          ∙ ap (made_in sheet) planned

      each : (r : Result (List Diff) EditError) → IfOk r (λ list. list ≡ fill_record sheet plan) → IfOk r IsCanonicalList
          → IfOk r (λ list. IsPlan w list (with_sheet w area.sheet (with_fill sheet plan)))
      each (Ok list) is all = record {
        exact = subst (IsRecord w (with_sheet w area.sheet (with_fill sheet plan))) (sym is) (fill_exact w rules area.sheet sheet at axis (source_of area) to language plan planned);
        rules = fill_well_formed w rules area.sheet sheet at axis (source_of area) to language plan planned;
        canonical = all;
      }
      each (Err error) is all = tt
