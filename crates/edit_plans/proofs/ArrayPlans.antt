-- The plan of an array: the refusals, and the record.
use Rattle.std.proofs.Common.{◌≡◌, ◌≢◌, ℕ, List, Result, Ok, Err, refl, ap, sym, subst, ◌∙◌}
use Rattle.std.specs.Prelude.{IfOk, IsOkUnless, IsTrue}
use Rattle.std.proofs.lemmas.Option.{same_Some}
use Rattle.base_values.specs.declared.EditError.{EditError}
use Rattle.base_values.specs.declared.EditError.TheVariants.{NoMemory}
use Rattle.base_values.specs.declared.Position.{Position}
use Rattle.base_values.specs.Answers.{and_then, map_ok}
use Rattle.base_values.specs.Places.{place_of}
use Rattle.base_axis.specs.declared.MergedCell.{MergedCell}
use Rattle.base_axis.specs.Rectangles.{anchor_place}
use Rattle.formula_tree.specs.declared.Node.{Node}
use Rattle.cell_content.specs.declared.Content.TheVariants.{Array}
use Rattle.cell_content.specs.Fitting.{fits_at}
use Rattle.sheet_grid.specs.Sheet.{Sheet}
use Rattle.sheet_grid.specs.Book.{Book, sheet_at, with_sheet}
use Rattle.sheet_grid.specs.laws.FittingLaws.{place_is}
use Rattle.sheet_rules.specs.WellFormed.{IsWellFormed}
use Rattle.sheet_history.specs.declared.Diff.{Diff}
use Rattle.sheet_history.specs.Diffs.{IsCanonicalList}
use Rattle.sheet_history.specs.Records.{IsRecord}
use Rattle.sheet_history.specs.laws.RuleLaws.{KeepsSheetRules}
use Rattle.edit_plans.specs.ArrayInputs.{free_area, array_area, with_array, array_put}
use Rattle.edit_plans.specs.laws.EditRecords.{array_diffs}
use Rattle.edit_plans.specs.Plans.{IsPlan, Plans}
use Rattle.edit_plans.specs.laws.ArrayRecords.{array_changes, array_record, array_made}
use Rattle.edit_plans.specs.laws.ArrayRules.{MayFill, may_fill, array_rules}
use Rattle.edit_plans.specs.laws.AtIndex.{there}
use Rattle.edit_plans.specs.laws.Fonts.{place_inside}
use Rattle.edit_plans.specs.laws.PlanLaws.{plan_refused, plan_made, no_sheet, sheet_refuses, sheet_takes, sheet_sure}
use Rattle.edit_plans.specs.laws.SheetRecords.{sheet_record, sheet_keeps}

-- a rectangle that an array may fill: its first place is one of the sheet
pub array_goes : (sheet : Sheet) (r area : MergedCell) → array_area sheet r ≡ Ok area
    → (place_of r.row r.column ≡ Ok (anchor_place r)) × (free_area sheet r ≡ Ok area)
array_goes sheet r area goes = go (place_of r.row r.column) refl goes
  where
    go : (o : Result Position EditError) → place_of r.row r.column ≡ o → and_then o (λ place. free_area sheet r) ≡ Ok area
        → (place_of r.row r.column ≡ Ok (anchor_place r)) × (free_area sheet r ≡ Ok area)
    go (Ok place) named it = (named ∙ ap Ok (sym (place_is r.row r.column place named)), it)
    go (Err error) named it = absurd (let never : ◌≡◌ {A = Result MergedCell EditError} (Err error) (Ok area) = it in cc)

-- it is the one that was asked for
pub array_named : (sheet : Sheet) (r area : MergedCell) → array_area sheet r ≡ Ok area → place_of area.row area.column ≡ Ok (anchor_place area)
array_named sheet r area goes =
    let parts = array_goes sheet r area goes in
    subst (λ (a : MergedCell). place_of a.row a.column ≡ Ok (anchor_place a)) (may_fill sheet r area parts.1).1 parts.0

module _ (w : Book) (index : ℕ) (r : MergedCell) (tree : Node) where
  abbrev edit : Sheet → Result Sheet EditError
  edit sheet = map_ok (λ area. with_array sheet area tree) (array_area sheet r)

  -- where no such sheet is there
  pub array_no_sheet : (error : EditError) → sheet_at w index ≡ Err error → Plans (Err error) w (array_put index r tree w)
  unfolding array_put
  array_no_sheet error missing = plan_refused w _ error (no_sheet w index edit error missing) (sheet_sure w index error missing)

  module _ (sheet : Sheet) (at : sheet_at w index ≡ Ok sheet) where
    -- where the sheet refuses it
    pub array_refused : (error : EditError) → array_area sheet r ≡ Err error → error ≢ NoMemory → Plans (Err error) w (array_put index r tree w)
    unfolding array_put
    array_refused error refused sure = plan_refused w _ error (sheet_refuses w index edit sheet error at (ap (map_ok (λ area. with_array sheet area tree)) refused)) sure

    module _ (rules : IsWellFormed w) (fits : IsTrue (fits_at (anchor_place r) (Array tree r.width r.height))) (area : MergedCell) (goes : array_area sheet r ≡ Ok area) where
      parts : (place_of r.row r.column ≡ Ok (anchor_place r)) × (free_area sheet r ≡ Ok area)
      parts = array_goes sheet r area goes

      may : MayFill sheet r × (r ≡ area)
      may = may_fill sheet r area parts.1

      pub array_is : r ≡ area
      array_is = may.1

      pub array_well_formed : IsWellFormed (with_sheet w index (with_array sheet r tree))
      array_well_formed = sheet_keeps (λ s. with_array s r tree) (λ s. refl) w rules index sheet at (λ s found h.
          let same : sheet ≡ s = same_Some sheet s (sym (there w rules index sheet at) ∙ found) in
          subst (λ t. KeepsSheetRules (with_array t r tree)) same
          (array_rules r sheet may.0 (subst KeepsSheetRules (sym same) h) tree (place_inside r.row r.column (anchor_place r) parts.0) fits))

      pub array_exact : IsRecord w (with_sheet w index (with_array sheet r tree)) (array_diffs r tree sheet)
      array_exact = sheet_record (λ s. with_array s r tree) (λ s. refl) w rules index sheet at (array_changes r tree sheet) (array_diffs r tree sheet) (array_made r tree sheet) (array_record r tree sheet)

      abbrev later : Book
      later = with_sheet w index (with_array sheet area tree)

      plan : (list : List Diff) → list ≡ array_diffs area tree sheet → IsCanonicalList list → IsPlan w list later
      plan list is kept =
          subst (λ a. IsPlan w list (with_sheet w index (with_array sheet a tree))) may.1
          (record {
            exact = subst (IsRecord w (with_sheet w index (with_array sheet r tree))) (sym (is ∙ ap (λ a. array_diffs a tree sheet) (sym may.1))) array_exact;
            rules = array_well_formed;
            canonical = kept;
          })

      of_result : (result : Result (List Diff) EditError) → IfOk result (λ list. list ≡ array_diffs area tree sheet) → IfOk result IsCanonicalList
          → IfOk result (λ list. IsPlan w list later)
      of_result (Ok list) is kept = plan list is kept
      of_result (Err error) is kept = tt

      -- where it takes it
      pub array_planned : (result : Result (List Diff) EditError) → IfOk result (λ list. list ≡ array_diffs area tree sheet) → IfOk result IsCanonicalList
          → IsOkUnless result NoMemory
          → Plans result w (array_put index r tree w)
      unfolding array_put
      array_planned result is kept only =
          plan_made w later _ result (sheet_takes w index edit sheet (with_array sheet area tree) at (ap (map_ok (λ a. with_array sheet a tree)) goes)) only (of_result result is kept)
