-- The changes of the conditional rules of a sheet lead from a well-formed workbook to a well-formed one, diff by diff, and back.
use Rattle.std.proofs.Common.{◌≡◌, ℕ, suc, ◌+◌, true, cond, ◌&&◌, List, [], ◌∷◌, length, map, Option, Some, Result, Ok, Err, option_map, refl, ap, sym, subst, ◌∙◌}
use Rattle.std.specs.Prelude.{◌==◌, nat_lt}
use Rattle.std.specs.List.{AllByRecursion, list_all}
use Rattle.base_values.specs.declared.EditError.{EditError}
use Rattle.base_values.specs.Answers.{and_then, map_ok}
use Rattle.base_tables.specs.Folding.{same_folded}
use Rattle.sheet_grid.specs.Sheet.{Sheet}
use Rattle.sheet_grid.specs.Book.{Book, ids_of, names_of, sheet_at, with_sheet}
use Rattle.sheet_rules.specs.Distinct.{are_distinct}
use Rattle.sheet_rules.specs.Names.{are_names}
use Rattle.sheet_rules.specs.SheetNames.{is_sheet_name}
use Rattle.sheet_rules.specs.Occupied.{have_arrays, have_merges, are_hidden_blank}
use Rattle.sheet_rules.specs.WellFormed.{are_sheets, have_attributes, have_trees, has_keys_inside, IsWellFormed}
use Rattle.sheet_rules.specs.laws.EntryLaws.{both}
use Rattle.sheet_rules.specs.laws.WellFormedLaws.{well_formed_parts}
use Rattle.sheet_ids.specs.Ids.{sheet_of}
use Rattle.book_sheets.specs.laws.SheetRules.{KeepsSheetRules, all_keep, well_formed_by}
use Rattle.format_rules.specs.declared.ConditionalFormatting.{ConditionalFormatting}
use Rattle.format_rules.specs.Fitting.{has_fitting_trees, has_parts}
use Rattle.rule_edits.specs.declared.RuleChange.{RuleChange}
use Rattle.rule_edits.specs.RuleChanges.{may_stand}
use Rattle.rule_edits.specs.RuleEdits.{RuleEdit, rule_changes, rules_after, sheet_index_of}
use Rattle.rule_edits.specs.Made.{ChangesGo}
use Rattle.rule_edits.specs.laws.EditLaws.{all_later_stand, edited_go}
use Rattle.rule_edits.specs.laws.Lists.{later_stand}
use Rattle.sheet_history.specs.declared.Diff.TheVariants.{Rule as RuleDiff}
use Rattle.sheet_history.specs.Diffs.{back_from, book_after, book_before, forward_from, step_back, tested}
use Rattle.sheet_history.specs.Entries.{with_changed}
use Rattle.sheet_history.specs.RuleDiffs.{with_rules_changed}
use Rattle.sheet_history.specs.laws.EntryLaws.{by_id, decide, found-changed, map-changed}
use Rattle.sheet_history.specs.laws.RuleDiffLaws.{rule_made, rule_unmade}
use Rattle.sheet_history.specs.laws.StandingRules.{sheet_rules_stand}
use Rattle.sheet_history.specs.laws.TestedLaws.{by_rule-kept}
use Rattle.edit_plans.specs.laws.AtIndex.{changed_at, changed_same, changed_twice, keeps, there}
use Rattle.edit_plans.specs.Edits.Edit.{EditRules}
use Rattle.edit_plans.specs.Plans.{GoesBothWays}
use Rattle.edit_plans.specs.RuleEdits.{all_diffs, diffs_of, rules_edited, rules_in, rules_record, with_changes}

-- ---- one sheet of a list

same_length : (id : ℕ) (f : Sheet → Sheet) (ss : List Sheet) → length (with_changed id f ss) ≡ length ss
same_length id f [] = refl
same_length id f (s ∷ ss) =
    decide (s.id == id)
    (λ hit. λ i. length (cond (hit i) (f s ∷ ss) (s ∷ with_changed id f ss)))
    (λ miss. (λ i. length (cond (miss i) (f s ∷ ss) (s ∷ with_changed id f ss))) ∙ ap suc (same_length id f ss))

-- the others keep the rules of a sheet where the changed one does
each_keeps : (id : ℕ) (f : Sheet → Sheet) (ss : List Sheet) → ((s : Sheet) → by_id id ss ≡ Some s → KeepsSheetRules (f s)) → AllByRecursion KeepsSheetRules ss
    → AllByRecursion KeepsSheetRules (with_changed id f ss)
each_keeps id f [] one all = tt
each_keeps id f (s ∷ ss) one all =
    decide (s.id == id)
    (λ hit. subst (AllByRecursion KeepsSheetRules) (λ i. cond (sym hit i) (f s ∷ ss) (s ∷ with_changed id f ss))
    (one s (λ j. cond (hit j) (Some s) (by_id id ss)), all.1))
    (λ miss. subst (AllByRecursion KeepsSheetRules) (λ i. cond (sym miss i) (f s ∷ ss) (s ∷ with_changed id f ss))
    (all.0, each_keeps id f ss (λ t found. one t ((λ j. cond (miss j) (Some s) (by_id id ss)) ∙ found)) all.1))

-- ---- diff by diff

abbrev changed_all : List RuleChange → Sheet → Sheet
changed_all changes sheet = with_changes sheet changes

abbrev book_with : ℕ → (Sheet → Sheet) → Book → Book
book_with id f w = record w { worksheets = with_changed id f w.worksheets }

module _ (id : ℕ) where
  still_there : (f : Sheet → Sheet) → ((s : Sheet) → (f s).id ≡ s.id) → (w : Book) (sheet : Sheet) → sheet_of w id ≡ Some sheet → sheet_of (book_with id f w) id ≡ Some (f sheet)
  still_there f same w sheet found = found-changed f same id w.worksheets ∙ ap (option_map f) found

  -- changes that can be made one after the other lead to the workbook after all of them
  forward_all : (at : ℕ) (cs : List RuleChange) (w : Book) (sheet : Sheet) → sheet_of w id ≡ Some sheet → ChangesGo cs sheet.formattings
      → forward_from at w (map (RuleDiff id) cs) ≡ Ok (book_with id (changed_all cs) w)
  forward_all at [] w sheet found go = ap (λ ss. Ok (record w { worksheets = ss })) (sym (changed_same id w.worksheets))
  forward_all at (c ∷ cs) w sheet found go =
      let next : Book = book_with id (with_rules_changed c) w in
      ap (λ r. and_then r (λ later. forward_from (at + 1) later (map (RuleDiff id) cs)))
      (rule_made at id c.index c.old c.new w sheet found go.0)
      ∙ forward_all (at + 1) cs next (with_rules_changed c sheet) (still_there (with_rules_changed c) (λ s. refl) w sheet found) go.1
      ∙ ap (λ ss. Ok (record w { worksheets = ss })) (changed_twice id (with_rules_changed c) (changed_all cs) (λ s. refl) w.worksheets)

  -- and back
  back_all : (at : ℕ) (cs : List RuleChange) (w : Book) (sheet : Sheet) → sheet_of w id ≡ Some sheet → list_all may_stand sheet.formattings ≡ true
      → ChangesGo cs sheet.formattings → back_from at (book_with id (changed_all cs) w) (map (RuleDiff id) cs) ≡ Ok w
  back_all at [] w sheet found stand go = ap (λ ss. Ok (record w { worksheets = ss })) (changed_same id w.worksheets)
  back_all at (c ∷ cs) w sheet found stand go =
      let next : Book = book_with id (with_rules_changed c) w in
      let stand_later = later_stand c.index c.old c.new sheet.formattings stand go.0 in
      ap (λ ss. and_then (back_from (at + 1) (record w { worksheets = ss }) (map (RuleDiff id) cs)) (λ earlier. step_back at earlier (RuleDiff id c)))
      (sym (changed_twice id (with_rules_changed c) (changed_all cs) (λ s. refl) w.worksheets))
      ∙ ap (λ r. and_then r (λ earlier. step_back at earlier (RuleDiff id c)))
      (back_all (at + 1) cs next (with_rules_changed c sheet) (still_there (with_rules_changed c) (λ s. refl) w sheet found) stand_later go.1)
      ∙ rule_unmade at id c.index c.old c.new w sheet found go.0 stand

-- ---- the rules of the workbook

-- conditional rules that may stand have their parts, and their formulas fit
parts_and_trees : (fs : List ConditionalFormatting) → list_all may_stand fs ≡ true → (list_all has_parts fs ≡ true) × (list_all has_fitting_trees fs ≡ true)
parts_and_trees [] stand = (refl, refl)
parts_and_trees (f ∷ fs) stand =
    let first = both (may_stand f) (list_all may_stand fs) stand in
    let own = both (has_parts f) (has_fitting_trees f) first.0 in
    let rest = parts_and_trees fs first.1 in
    (λ i. own.0 i && rest.0 i, λ i. own.1 i && rest.1 i)

-- a sheet keeps its rules where each of its later ones may
later_keeps : (sheet : Sheet) (changes : List RuleChange) → KeepsSheetRules sheet → list_all may_stand (rules_after changes sheet.formattings) ≡ true
    → KeepsSheetRules (with_changes sheet changes)
unfolding has_keys_inside have_arrays have_merges are_hidden_blank have_trees have_attributes
later_keeps sheet changes h stand =
    let own = parts_and_trees (rules_after changes sheet.formattings) stand in
    record {
      inside = h.inside;
      arrays = h.arrays;
      merges = h.merges;
      hidden = h.hidden;
      trees = h.trees;
      rule_trees = own.1;
      attributes = h.attributes;
      frozen = h.frozen;
      rule_parts = own.0;
    }

module _ (w : Book) (rules : IsWellFormed w) (id : ℕ) (f : Sheet → Sheet) (same_id : (s : Sheet) → (f s).id ≡ s.id) (same_name : (s : Sheet) → (f s).name ≡ s.name)
    (one : (s : Sheet) → sheet_of w id ≡ Some s → KeepsSheetRules (f s)) where
  ids_stay : ids_of (with_changed id f w.worksheets) ≡ ids_of w.worksheets
  ids_stay = map-changed f same_id (λ (s : Sheet). s.id) same_id id w.worksheets

  names_stay : names_of (with_changed id f w.worksheets) ≡ names_of w.worksheets
  names_stay = map-changed f same_id (λ (s : Sheet). s.name) same_name id w.worksheets

  sheets_stay : are_sheets (with_changed id f w.worksheets) ≡ are_sheets w.worksheets
  unfolding are_sheets
  sheets_stay = λ i. nat_lt 0 (same_length id f w.worksheets i) && are_distinct (λ a b. a == b) (ids_stay i) && list_all is_sheet_name (names_stay i)
      && are_distinct same_folded (names_stay i)

  -- a workbook stays well-formed where one of its sheets changes and keeps its rules, its id and its name
  with_one_well_formed : IsWellFormed (book_with id f w)
  with_one_well_formed =
      let parts = well_formed_parts w rules in
      well_formed_by (book_with id f w) (sheets_stay ∙ parts.sheets) (each_keeps id f w.worksheets one (all_keep w rules)) parts.name_trees
      (ap (λ ids. are_names ids w.names) ids_stay ∙ parts.names)

-- ---- an accepted edit

module _ (edit : RuleEdit) (w : Book) (rules : IsWellFormed w) (sheet : Sheet) (at : sheet_at w (sheet_index_of edit) ≡ Ok sheet)
    (changes : List RuleChange) (output : rule_changes edit sheet.formattings ≡ Ok changes) where
  abbrev later : Book
  later = book_with sheet.id (changed_all changes) w

  found : sheet_of w sheet.id ≡ Some sheet
  found = there w rules (sheet_index_of edit) sheet at

  own : KeepsSheetRules sheet
  own = keeps w rules (sheet_index_of edit) sheet at

  stand : list_all may_stand sheet.formattings ≡ true
  stand = sheet_rules_stand w rules sheet.id sheet found

  go : ChangesGo changes sheet.formattings
  go = edited_go sheet.formattings stand edit changes output

  later_well_formed : IsWellFormed later
  later_well_formed = with_one_well_formed w rules sheet.id (changed_all changes) (λ s. refl) (λ s. refl)
      (λ s is.
      let one : ◌≡◌ {A = Option Sheet} (Some sheet) (Some s) = sym found ∙ is in
      let same : sheet ≡ s = cc in
      subst (λ t. KeepsSheetRules (changed_all changes t)) same (later_keeps sheet changes own (all_later_stand changes sheet.formattings stand go)))

  recorded : rules_record edit w ≡ diffs_of sheet changes
  recorded = ap (λ r. all_diffs (and_then r (λ (s : Sheet). map_ok (diffs_of s) (rule_changes edit s.formattings)))) at
      ∙ ap (λ r. all_diffs (map_ok (diffs_of sheet) r)) output

  -- it leads to that workbook and back
  rules_lead : GoesBothWays (EditRules edit) w later
  rules_lead =
      let count : ℕ = length (diffs_of sheet changes) in
      record {
        rules = later_well_formed;
        forth = ap (book_after w) recorded ∙ ap (tested count) (forward_all sheet.id 0 changes w sheet found go) ∙ by_rule-kept count later later_well_formed;
        back = ap (book_before later) recorded ∙ ap (tested count) (back_all sheet.id 0 changes w sheet found stand go) ∙ by_rule-kept count w rules;
      }

  pub rules_goes : GoesBothWays (EditRules edit) w (with_sheet w (sheet_index_of edit) (with_changes sheet changes))
  rules_goes = subst (GoesBothWays (EditRules edit) w) (changed_at w rules (sheet_index_of edit) sheet at (changed_all changes)) rules_lead

pub rules_go : (w : Book) → IsWellFormed w → (edit : RuleEdit) (later : Book) → rules_edited edit w ≡ Ok later → GoesBothWays (EditRules edit) w later
unfolding rules_edited
rules_go w rules edit later how = on_sheet (sheet_at w (sheet_index_of edit)) refl how
  where
    on_changes : (sheet : Sheet) → sheet_at w (sheet_index_of edit) ≡ Ok sheet → (r : Result (List RuleChange) EditError) → rule_changes edit sheet.formattings ≡ r
        → map_ok (with_sheet w (sheet_index_of edit)) (map_ok (with_changes sheet) r) ≡ Ok later → GoesBothWays (EditRules edit) w later
    on_changes sheet at (Ok changes) output e =
        subst (GoesBothWays (EditRules edit) w) (let same : with_sheet w (sheet_index_of edit) (with_changes sheet changes) ≡ later = cc in same)
        (rules_goes edit w rules sheet at changes output)
    on_changes sheet at (Err error) output e = absurd (let never : ◌≡◌ {A = Result Book EditError} (Err error) (Ok later) = e in cc)

    on_sheet : (r : Result Sheet EditError) → sheet_at w (sheet_index_of edit) ≡ r
        → and_then r (λ sheet. map_ok (with_sheet w (sheet_index_of edit)) (rules_in edit sheet)) ≡ Ok later → GoesBothWays (EditRules edit) w later
    on_sheet (Ok sheet) at e = on_changes sheet at (rule_changes edit sheet.formattings) refl e
    on_sheet (Err error) at e = absurd (let never : ◌≡◌ {A = Result Book EditError} (Err error) (Ok later) = e in cc)
