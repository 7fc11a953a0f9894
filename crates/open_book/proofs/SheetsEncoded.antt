-- The record of an edit of the list of the sheets, of the defined names, or of the conditional rules of a sheet can be encoded.
use Rattle.std.proofs.Common.{◌≡◌, ℕ, true, false, Bool, cond, length, map, Option, Some, None, Result, Ok, Err, List, [], ◌∷◌, refl, sym, subst}
use Rattle.std.specs.Prelude.{slice_get, IfSome, IsTrue}
use Rattle.std.specs.Cmp.{nat_cmp_total}
use Rattle.std.specs.List.{AllByRecursion, list_all}
use Rattle.std.specs.Option.{option_map_or}
use Rattle.std.specs.FinMap.{get, get-empty}
use Rattle.std.specs.Ordering.{nat_cmp}
use Rattle.std.proofs.lemmas.List.Elements.{recursion_from_All}
use Rattle.std.proofs.lemmas.Map.Lookups.{exact_unsigned}
use Rattle.base_values.specs.declared.EditError.{EditError}
use Rattle.base_values.specs.declared.EditError.TheVariants.{DiffRefused, InvalidSheet}
use Rattle.base_values.specs.declared.Position.{Position}
use Rattle.base_values.specs.Answers.{and_then, map_ok, ok_or}
use Rattle.base_maps.specs.declared.SheetPlace.{SheetPlace}
use Rattle.base_maps.specs.declared.SheetIndex.{SheetIndex}
use Rattle.formula_tree.specs.declared.Node.{Node}
use Rattle.formula_tree.specs.Depth.{is_within}
use Rattle.cell_content.specs.Fitting.{tree_fits_at}
use Rattle.format_rules.specs.declared.ConditionalFormatting.{ConditionalFormatting}
use Rattle.format_rules.specs.Fitting.{has_fitting_trees, has_parts}
use Rattle.defined_names.specs.declared.DefinedName.{DefinedName}
use Rattle.defined_names.specs.Names.{names_left}
use Rattle.sheet_grid.specs.Sheet.{Sheet}
use Rattle.sheet_grid.specs.Book.{Book, ids_of, sheet_at}
use Rattle.sheet_grid.specs.laws.FittingLaws.{shallow_entry}
use Rattle.sheet_rules.specs.Names.{first_place}
use Rattle.sheet_rules.specs.WellFormed.{IsWellFormed}
use Rattle.sheet_rules.specs.laws.EntryLaws.{both}
use Rattle.sheet_rules.specs.laws.WellFormedLaws.{cells_fit_from_trees, distinct_ids_from_well_formed, well_formed_parts}
use Rattle.sheet_ids.specs.Ids.{sheet_of}
use Rattle.sheet_naming.specs.NextIds.{next_id}
use Rattle.book_sheets.specs.declared.KeptSheet.{KeptSheet}
use Rattle.book_sheets.specs.SheetDiffs.{deletion_back, kept_of, may_come_back, names_fit}
use Rattle.book_sheets.specs.laws.SheetRules.{rules_at}
use Rattle.book_names.specs.declared.KeptTrees.{KeptTrees}
use Rattle.book_names.specs.Renaming.{everywhere, trees_kept}
use Rattle.book_names.specs.laws.Stands.{kept_name_fits, kept_rule_fits, kept_tree_fits}
use Rattle.book_sheets.specs.laws.BothWays.{deletion_both_ways}
use Rattle.book_sheets.specs.laws.ListTests.{passes_at}
use Rattle.book_sheets.specs.laws.SheetDiffLaws.{found_at}
use Rattle.sheet_history.specs.declared.Diff.{Diff}
use Rattle.sheet_history.specs.declared.Diff.TheVariants.{DeleteSheet as DeletionDiff, RenameSheet as RenameDiff, ChangeName as NameDiff, Rule as RuleDiff, Setting as SettingDiff}
use Rattle.sheet_history.specs.declared.Setting.{Setting}
use Rattle.sheet_history.specs.Settings.{change_to}
use Rattle.edit_plans.specs.SettingEdits.{has_setting, setting_record}
use Rattle.sheet_history.specs.laws.Depth.{AreShallowTrees, IsShallowSheet, is_shallow_rule}
use Rattle.sheet_history.specs.Diffs.{IsCanonicalDiff, IsCanonicalList}
use Rattle.sheet_history.specs.laws.Entries.{entry_holds}
use Rattle.sheet_history.specs.laws.StandingRules.{all_shallow, rule_shallow, sheet_rules_stand}
use Rattle.edit_plans.specs.laws.AtIndex.{there}
use Rattle.sheet_wire.specs.QueueBytes.{IsKnownDiff}
use Rattle.sheet_wire.specs.laws.Fitting.{known_diff}
use Rattle.edit_plans.specs.Edits.{Edit, is_of_sheets, record_of}
use Rattle.edit_plans.specs.Edits.Edit.{Input, ArrayInput, SetLink, Merge, Unmerge, Lines, MoveLines, AddSheet, CopySheet, DeleteSheet, MoveSheet, RenameSheet, ChangeNames, EditRules, SetField, SetSize, SetHidden, SetRangeStyle, ClearRange, ClearFormatting, PasteStyles, SetSetting, Fill}
use Rattle.name_edits.specs.declared.NameChange.{NameChange}
use Rattle.name_edits.specs.NameChanges.{trees_lost}
use Rattle.name_edits.specs.NameEdits.{NameEdit, name_change}
use Rattle.name_edits.specs.laws.BothWays.{IsMade, lost_rule_fits, lost_tree_fits, old_fits}
use Rattle.name_edits.specs.laws.LaterRules.{edited}
use Rattle.edit_plans.specs.NamedEdits.{name_diff}
use Rattle.rule_edits.specs.declared.RuleChange.{RuleChange}
use Rattle.rule_edits.specs.RuleChanges.{may_stand, rules_changed}
use Rattle.rule_edits.specs.RuleEdits.{RuleEdit, rule_changes, sheet_index_of}
use Rattle.rule_edits.specs.Made.{ChangesGo, IsAt}
use Rattle.rule_edits.specs.laws.EditLaws.{edited_go}
use Rattle.rule_edits.specs.laws.Lists.{later_stand}
use Rattle.edit_plans.specs.RuleEdits.{all_diffs, diffs_of, rules_record}
use Rattle.edit_plans.specs.SheetEdits.{copy_diff, deletion_diff, move_diff, new_diff, one_diff, rename_diff}
use Rattle.open_book.specs.Encodable.{AreEncodable}
use Rattle.sheet_wire.specs.laws.KnownBooks.{own_lines, shallow_tree}

-- ---- a deleted sheet

comes_back : (b : Bool) (r : Result Book EditError) (w : Book) → cond b r (Err (DiffRefused 0 0)) ≡ Ok w → b ≡ true
comes_back true r w is = refl
comes_back false r w is = absurd (let never : ◌≡◌ {A = Result Book EditError} (Err (DiffRefused 0 0)) (Ok w) = is in cc)

module _ (index : ℕ) (sheet : Sheet) (w : Book) (rules : IsWellFormed w) (found : slice_get w.worksheets index ≡ Some sheet) where
  abbrev kept : KeptSheet
  kept = kept_of sheet w.names

  may_return : may_come_back (length (names_left sheet.id w.names)) kept ≡ true
  unfolding deletion_back
  may_return = comes_back (may_come_back (length (names_left sheet.id w.names)) kept) _ w (deletion_both_ways 0 index sheet w rules found).back

  kept_names_fit : names_fit kept.names ≡ true
  unfolding may_come_back
  kept_names_fit = (both _ _ (both _ _ may_return).1).1

  shallow_names : (place : ℕ) → IfSome (get kept.names place) (λ name. IsTrue (is_within 64 name.formula))
  shallow_names place = go (get kept.names place) refl
    where
      go : (o : Option DefinedName) → get kept.names place ≡ o → IfSome o (λ name. IsTrue (is_within 64 name.formula))
      go None is = tt
      go (Some name) is =
          shallow_tree first_place name.formula (entry_holds nat_cmp nat_cmp_total exact_unsigned (λ (entry : ℕ × DefinedName). tree_fits_at first_place entry.1.formula) kept.names kept_names_fit place name is)

  shallow : IsShallowSheet kept
  shallow = record {
    cells = λ place. shallow_entry place (get sheet.cells place) (cells_fit_from_trees sheet (rules_at w rules index sheet found).trees place);
    names = shallow_names;
    formattings = all_shallow sheet.formattings
        (sheet_rules_stand w rules sheet.id sheet (found_at index w.worksheets sheet (distinct_ids_from_well_formed w rules) found));
  }

  -- what is kept of it can be encoded
  deletion_known : IsCanonicalDiff (DeletionDiff index kept) → IsKnownDiff (DeletionDiff index kept)
  deletion_known numbers =
      known_diff (DeletionDiff index kept) numbers shallow
      (record { rows = own_lines sheet (rules_at w rules index sheet found).attributes true; columns = own_lines sheet (rules_at w rules index sheet found).attributes false })

-- ---- a renamed sheet

module _ (sheet : Sheet) (name : List ℕ) (w : Book) (rules : IsWellFormed w) (found : sheet_of w sheet.id ≡ Some sheet) where
  abbrev trees : KeptTrees
  trees = trees_kept sheet.name name w

  shallow_cells : (key : SheetPlace) → IfSome (get trees.formulas key) (λ tree. IsTrue (is_within 64 tree))
  shallow_cells key = go (get trees.formulas key) refl
    where
      go : (o : Option Node) → get trees.formulas key ≡ o → IfSome o (λ tree. IsTrue (is_within 64 tree))
      go None is = tt
      go (Some tree) is = shallow_tree key.place tree (kept_tree_fits everywhere everywhere sheet.name name w rules key tree is)

  shallow_defined : (place : ℕ) → IfSome (get trees.names place) (λ tree. IsTrue (is_within 64 tree))
  shallow_defined place = go (get trees.names place) refl
    where
      go : (o : Option Node) → get trees.names place ≡ o → IfSome o (λ tree. IsTrue (is_within 64 tree))
      go None is = tt
      go (Some tree) is = shallow_tree first_place tree (kept_name_fits sheet.name name w.names (well_formed_parts w rules).name_trees place tree is)

  shallow_rules : (key : SheetIndex) → IfSome (get trees.formattings key) (λ formatting. IsTrue (is_shallow_rule formatting))
  shallow_rules key = go (get trees.formattings key) refl
    where
      go : (o : Option ConditionalFormatting) → get trees.formattings key ≡ o → IfSome o (λ formatting. IsTrue (is_shallow_rule formatting))
      go None is = tt
      go (Some formatting) is = rule_shallow formatting (kept_rule_fits everywhere everywhere sheet.name name w rules key formatting is)

  shallow_trees : AreShallowTrees trees
  shallow_trees = record { formulas = shallow_cells; names = shallow_defined; formattings = shallow_rules }

  -- what is kept of the trees can be encoded
  rename_known : IsCanonicalDiff (rename_diff name w sheet) → IsKnownDiff (rename_diff name w sheet)
  rename_known numbers = known_diff (RenameDiff sheet.id sheet.name name trees) numbers shallow_trees tt

-- ---- a changed name

module _ (change : NameChange) (w : Book) (rules : IsWellFormed w) (output : IsMade change.index change.old change.new w) where
  abbrev lost : KeptTrees
  lost = trees_lost change w

  shallow_name : (o : Option DefinedName) → option_map_or (λ (name : DefinedName). tree_fits_at first_place name.formula) o true ≡ true → IfSome o (λ name. IsTrue (is_within 64 name.formula))
  shallow_name None fits = tt
  shallow_name (Some name) fits = shallow_tree first_place name.formula fits

  shallow_lost : (key : SheetPlace) → IfSome (get lost.formulas key) (λ tree. IsTrue (is_within 64 tree))
  shallow_lost key = go (get lost.formulas key) refl
    where
      go : (o : Option Node) → get lost.formulas key ≡ o → IfSome o (λ tree. IsTrue (is_within 64 tree))
      go None is = tt
      go (Some tree) is = shallow_tree key.place tree (lost_tree_fits change.index w change.old change.new rules key tree is)

  shallow_lost_rules : (key : SheetIndex) → IfSome (get lost.formattings key) (λ formatting. IsTrue (is_shallow_rule formatting))
  shallow_lost_rules key = go (get lost.formattings key) refl
    where
      go : (o : Option ConditionalFormatting) → get lost.formattings key ≡ o → IfSome o (λ formatting. IsTrue (is_shallow_rule formatting))
      go None is = tt
      go (Some formatting) is = rule_shallow formatting (lost_rule_fits change.index w change.old change.new rules key formatting is)

  -- a change and what is kept of it can be encoded
  name_known : IsCanonicalDiff (name_diff w change) → IsKnownDiff (name_diff w change)
  name_known numbers =
      known_diff (NameDiff change lost) numbers (
        record { old = shallow_name change.old (old_fits change.index w change.old change.new rules output.at); new = shallow_name change.new output.fits },
        record {
          formulas = shallow_lost;
          names = λ place. subst (λ o. IfSome o (λ tree. IsTrue (is_within 64 tree))) (sym (get-empty nat_cmp place)) tt;
          formattings = shallow_lost_rules;
        },
      ) tt

-- ---- changed conditional rules

-- a rule that comes and may stand is not deep
shallow_coming : (o : Option ConditionalFormatting) → option_map_or may_stand o true ≡ true → IfSome o (λ formatting. IsTrue (is_shallow_rule formatting))
shallow_coming None fits = tt
shallow_coming (Some formatting) fits = rule_shallow formatting (both (has_parts formatting) (has_fitting_trees formatting) fits).1

-- nor is one that goes from others that may
shallow_going : (index : ℕ) (o : Option ConditionalFormatting) (formattings : List ConditionalFormatting) → list_all may_stand formattings ≡ true → IsAt o index formattings
    → IfSome o (λ formatting. IsTrue (is_shallow_rule formatting))
shallow_going index None formattings stand at = tt
shallow_going index (Some formatting) formattings stand at =
    rule_shallow formatting (both (has_parts formatting) (has_fitting_trees formatting) (passes_at may_stand formattings index formatting stand at)).1

-- changes that can be made one after the other can be encoded
changes_known : (id : ℕ) (changes : List RuleChange) (formattings : List ConditionalFormatting) → list_all may_stand formattings ≡ true → ChangesGo changes formattings
    → AllByRecursion IsCanonicalDiff (map (RuleDiff id) changes) → AreEncodable (map (RuleDiff id) changes)
changes_known id [] formattings stand go numbers = tt
changes_known id (c ∷ changes) formattings stand go numbers = (
  known_diff (RuleDiff id c) numbers.0 (record { old = shallow_going c.index c.old formattings stand go.0.at; new = shallow_coming c.new go.0.fits }) tt,
  changes_known id changes (rules_changed c formattings) (later_stand c.index c.old c.new formattings stand go.0) go.1 numbers.1,
)

-- ---- records

module _ (w : Book) (rules : IsWellFormed w) where
  new_encodable : (id : Result ℕ EditError) → AreEncodable (one_diff (map_ok (new_diff w) id))
  new_encodable (Ok id) = (tt, tt)
  new_encodable (Err error) = tt

  copy_encodable : (index : ℕ) (s : Result Sheet EditError) → AreEncodable (one_diff (and_then s (λ sheet. map_ok (copy_diff index w sheet) (next_id (ids_of w.worksheets)))))
  copy_encodable index (Ok sheet) = of (next_id (ids_of w.worksheets))
    where
      of : (id : Result ℕ EditError) → AreEncodable (one_diff (map_ok (copy_diff index w sheet) id))
      of (Ok id) = (tt, tt)
      of (Err error) = tt
  copy_encodable index (Err error) = tt

  deletion_encodable : (index : ℕ) (o : Option Sheet) → slice_get w.worksheets index ≡ o → IsCanonicalList (one_diff (map_ok (deletion_diff index w) (ok_or InvalidSheet o)))
      → AreEncodable (one_diff (map_ok (deletion_diff index w) (ok_or InvalidSheet o)))
  deletion_encodable index None found numbers = tt
  deletion_encodable index (Some sheet) found numbers = (deletion_known index sheet w rules found (recursion_from_All IsCanonicalDiff (one_diff (Ok (deletion_diff index w sheet))) numbers).0, tt)

  move_encodable : (from to : ℕ) (s : Result Sheet EditError) → AreEncodable (one_diff (map_ok (move_diff from to) s))
  move_encodable from to (Ok sheet) = (tt, tt)
  move_encodable from to (Err error) = tt

  rename_encodable : (index : ℕ) (name : List ℕ) (o : Option Sheet) → slice_get w.worksheets index ≡ o → IsCanonicalList (one_diff (map_ok (rename_diff name w) (ok_or InvalidSheet o)))
      → AreEncodable (one_diff (map_ok (rename_diff name w) (ok_or InvalidSheet o)))
  rename_encodable index name None found numbers = tt
  rename_encodable index name (Some sheet) found numbers = (
    rename_known sheet name w rules (found_at index w.worksheets sheet (distinct_ids_from_well_formed w rules) found)
        (recursion_from_All IsCanonicalDiff (one_diff (Ok (rename_diff name w sheet))) numbers).0,
    tt,
  )

  names_encodable : (edit : NameEdit) (r : Result NameChange EditError) → name_change edit w ≡ r → IsCanonicalList (one_diff (map_ok (name_diff w) r)) → AreEncodable (one_diff (map_ok (name_diff w) r))
  names_encodable edit (Err error) found numbers = tt
  names_encodable edit (Ok change) found numbers =
      (name_known change w rules (edited w rules edit change found).output (recursion_from_All IsCanonicalDiff (one_diff (Ok (name_diff w change))) numbers).0, tt)

  rules_encodable : (edit : RuleEdit) → IsCanonicalList (rules_record edit w) → AreEncodable (rules_record edit w)
  rules_encodable edit numbers = on_sheet (sheet_at w (sheet_index_of edit)) refl numbers
    where
      on_changes : (sheet : Sheet) → sheet_at w (sheet_index_of edit) ≡ Ok sheet → (r : Result (List RuleChange) EditError) → rule_changes edit sheet.formattings ≡ r
          → IsCanonicalList (all_diffs (map_ok (diffs_of sheet) r)) → AreEncodable (all_diffs (map_ok (diffs_of sheet) r))
      on_changes sheet at (Err error) output numbers = tt
      on_changes sheet at (Ok changes) output numbers =
          let stand = sheet_rules_stand w rules sheet.id sheet (there w rules (sheet_index_of edit) sheet at) in
          changes_known sheet.id changes sheet.formattings stand (edited_go sheet.formattings stand edit changes output)
          (recursion_from_All IsCanonicalDiff (diffs_of sheet changes) numbers)

      diffs : Result Sheet EditError → List Diff
      diffs s = all_diffs (and_then s (λ sheet. map_ok (diffs_of sheet) (rule_changes edit sheet.formattings)))

      on_sheet : (s : Result Sheet EditError) → sheet_at w (sheet_index_of edit) ≡ s → IsCanonicalList (diffs s) → AreEncodable (diffs s)
      on_sheet (Err error) at numbers = tt
      on_sheet (Ok sheet) at numbers = on_changes sheet at (rule_changes edit sheet.formattings) refl numbers

  setting_encodable : (setting : Setting) → AreEncodable (setting_record setting w)
  setting_encodable setting = go (has_setting setting w)
    where
      go : (b : Bool) → AreEncodable (cond b [] (SettingDiff (change_to setting w) ∷ []))
      go true = tt
      go false = (tt, tt)

  pub sheets_encodable : (edit : Edit) → IsTrue (is_of_sheets edit) → (later : Book) → IsCanonicalList (record_of edit w later) → AreEncodable (record_of edit w later)
  sheets_encodable AddSheet is later numbers = new_encodable (next_id (ids_of w.worksheets))
  sheets_encodable (CopySheet index) is later numbers = copy_encodable index (sheet_at w index)
  sheets_encodable (DeleteSheet index) is later numbers = deletion_encodable index (slice_get w.worksheets index) refl numbers
  sheets_encodable (MoveSheet from to) is later numbers = move_encodable from to (sheet_at w from)
  sheets_encodable (RenameSheet index name) is later numbers = rename_encodable index name (slice_get w.worksheets index) refl numbers
  sheets_encodable (ChangeNames edit) is later numbers = names_encodable edit (name_change edit w) refl numbers
  sheets_encodable (EditRules edit) is later numbers = rules_encodable edit numbers
  sheets_encodable (SetSetting setting) is later numbers = setting_encodable setting
  sheets_encodable (Input index row column content feeds) is later numbers = absurd (let never : false ≡ true = is in cc)
  sheets_encodable (ArrayInput index r tree) is later numbers = absurd (let never : false ≡ true = is in cc)
  sheets_encodable (SetLink index row column link) is later numbers = absurd (let never : false ≡ true = is in cc)
  sheets_encodable (Merge index r) is later numbers = absurd (let never : false ≡ true = is in cc)
  sheets_encodable (Unmerge index row column) is later numbers = absurd (let never : false ≡ true = is in cc)
  sheets_encodable (Lines index axis kind) is later numbers = absurd (let never : false ≡ true = is in cc)
  sheets_encodable (MoveLines index axis first count delta) is later numbers = absurd (let never : false ≡ true = is in cc)
  sheets_encodable (SetField index value) is later numbers = absurd (let never : false ≡ true = is in cc)
  sheets_encodable (SetSize index axis first last size) is later numbers = absurd (let never : false ≡ true = is in cc)
  sheets_encodable (SetHidden index axis first last hidden) is later numbers = absurd (let never : false ≡ true = is in cc)
  sheets_encodable (SetRangeStyle index r path value) is later numbers = absurd (let never : false ≡ true = is in cc)
  sheets_encodable (ClearRange index clearing r) is later numbers = absurd (let never : false ≡ true = is in cc)
  sheets_encodable (ClearFormatting index r) is later numbers = absurd (let never : false ≡ true = is in cc)
  sheets_encodable (PasteStyles index r styles) is later numbers = absurd (let never : false ≡ true = is in cc)
  sheets_encodable (Fill index axis source to language) is later numbers = absurd (let never : false ≡ true = is in cc)
