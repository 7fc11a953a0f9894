-- An edit of the list of the sheets leaves a well-formed workbook, and its record leads there and back.
use Rattle.std.proofs.Common.{◌≡◌, ℕ, zero, suc, ◌+◌, ◌^◌, ◌≤◌, ◌<◌, ◌==◌, Bool, true, false, cond, List, [], ◌∷◌, length, get_or, Option, Some, None, Result, Ok, Err, refl, ap, sym, subst, ◌∙◌, arith}
use Rattle.std.specs.Prelude.{◌&&◌, nat_lt, slice_get, IsTrue}
use Rattle.std.specs.List.{AllByRecursion, list_all}
use Rattle.std.proofs.lemmas.Bool.{and_parts}
use Rattle.std.proofs.lemmas.List.{length-map}
use Rattle.std.proofs.lemmas.Option.{slice_get_within, slice_get-get_or}
use Rattle.base_values.specs.declared.EditError.{EditError}
use Rattle.base_values.specs.declared.EditError.TheVariants.{InvalidSheet, OnlySheet, SheetName}
use Rattle.base_values.specs.Answers.{and_then, map_ok, ok_or}
use Rattle.base_tables.specs.Folding.{same_folded}
use Rattle.defined_names.specs.Names.{names_left}
use Rattle.sheet_grid.specs.Sheet.{Sheet, new_sheet}
use Rattle.sheet_grid.specs.Book.{Book, ids_of, index_of, names_of, sheet_at, sheets_moved}
use Rattle.sheet_rules.specs.Distinct.{are_distinct}
use Rattle.sheet_rules.specs.SheetNames.{is_sheet_name}
use Rattle.sheet_rules.specs.WellFormed.{are_sheets, IsWellFormed}
use Rattle.sheet_rules.specs.laws.WellFormedLaws.{distinct_ids_from_well_formed, well_formed_parts}
use Rattle.sheet_ids.specs.Ids.{sheet_of}
use Rattle.sheet_naming.specs.FreeNames.{new_name, copy_name}
use Rattle.sheet_naming.specs.NextIds.{next_id}
use Rattle.sheet_naming.specs.laws.IdLaws.{below_next, count_small, next_id_is}
use Rattle.sheet_naming.specs.laws.LegalNames.{new_name_is_legal, copy_name_is_legal}
use Rattle.sheet_naming.specs.laws.Numbered.{new_name_is_free, copy_name_is_free}
use Rattle.book_sheets.specs.SheetDiffs.{without_sheet_at}
use Rattle.book_names.specs.Renaming.{book_renamed}
use Rattle.book_names.specs.RenameDiffs.{may_be_named}
use Rattle.book_names.specs.laws.LaterRules.{renamed_well_formed}
use Rattle.book_names.specs.laws.Stands.{rename_made, rename_taken_back}
use Rattle.name_edits.specs.declared.NameChange.{NameChange}
use Rattle.name_edits.specs.NameChanges.{name_made}
use Rattle.name_edits.specs.NameEdits.{NameEdit, name_change}
use Rattle.name_edits.specs.laws.BothWays.{name_both_ways}
use Rattle.name_edits.specs.laws.LaterRules.{edited, later_well_formed}
use Rattle.edit_plans.specs.NamedEdits.{names_edited, name_diff}
use Rattle.edit_plans.specs.laws.RuleSteps.{rules_go}
use Rattle.book_sheets.specs.Ways.{LeadsBothWays}
use Rattle.book_sheets.specs.laws.BothWays.{new_both_ways, copy_both_ways, deletion_both_ways, move_both_ways}
use Rattle.book_sheets.specs.laws.LaterRules.{free_above, new_well_formed, copy_well_formed, deletion_well_formed, move_well_formed}
use Rattle.book_sheets.specs.laws.SheetDiffLaws.{found_at}
use Rattle.sheet_history.specs.declared.Diff.{Diff}
use Rattle.sheet_history.specs.Diffs.{step_forward, step_back, by_rule, tested, book_after, book_before}
use Rattle.sheet_history.specs.declared.Diff.TheVariants.{Setting as SettingDiff}
use Rattle.sheet_history.specs.declared.Setting.{Setting}
use Rattle.sheet_history.specs.Settings.{with_setting, change_to}
use Rattle.sheet_history.specs.laws.SettingLaws.{change_goes, change_returns, setting_well_formed}
use Rattle.sheet_history.specs.laws.TestedLaws.{by_rule-kept}
use Rattle.edit_plans.specs.SettingEdits.{has_setting, setting_record}
use Rattle.edit_plans.specs.laws.SettingStays.{setting_stays}
use Rattle.edit_plans.specs.Edits.{Edit, changed, is_of_sheets, record_of}
use Rattle.edit_plans.specs.Edits.Edit.{Input, ArrayInput, SetLink, Merge, Unmerge, Lines, MoveLines, AddSheet, CopySheet, DeleteSheet, MoveSheet, RenameSheet, ChangeNames, EditRules, SetField, SetSize, SetHidden, SetRangeStyle, ClearRange, ClearFormatting, PasteStyles, SetSetting, Fill}
use Rattle.edit_plans.specs.Plans.{GoesBothWays}
use Rattle.edit_plans.specs.SheetEdits.{with_new_sheet, sheet_added, with_copy, sheet_copied, sheet_deleted, sheet_taken, with_name, sheet_named, new_diff, copy_diff, deletion_diff, move_diff, rename_diff, one_diff}

-- ---- a record of one diff

module _ (edit : Edit) (diff : Diff) (earlier later : Book) (rules : IsWellFormed earlier) (later_rules : IsWellFormed later) where
  whole : (book : Book) → IsWellFormed book → tested 1 (Ok book) ≡ Ok book
  unfolding by_rule
  whole book own = ap (by_rule 1 book) own

  -- a diff that leads there and back does so as the record of an edit
  one_both_ways : record_of edit earlier later ≡ diff ∷ [] → LeadsBothWays (λ book. step_forward 0 book diff) (λ book. step_back 0 book diff) earlier later
      → GoesBothWays edit earlier later
  one_both_ways is ways = record {
    rules = later_rules;
    forth = ap (book_after earlier) is ∙ ap (λ r. tested 1 (and_then r (λ next. Ok next))) ways.forth ∙ whole later later_rules;
    back = ap (book_before later) is ∙ ap (tested 1) ways.back ∙ whole earlier rules;
  }

-- ---- what is known of a well-formed workbook

-- its ids are distinct, and its names are legal
record HasSheets (sheets : List Sheet) : Type 0 where
  ids : are_distinct (λ a b. a == b) (ids_of sheets) ≡ true
  names : list_all is_sheet_name (names_of sheets) ≡ true

sheet_parts : (a b c d : Bool) → (a && b && c && d) ≡ true → (b ≡ true) × (c ≡ true)
sheet_parts true true true d h = (refl, refl)
sheet_parts true true false d h = (refl, h)
sheet_parts true false c d h = absurd (let never : false ≡ true = h in cc)
sheet_parts false b c d h = absurd (let never : false ≡ true = h in cc)

has_sheets : (w : Book) → IsWellFormed w → HasSheets w.worksheets
unfolding are_sheets
has_sheets w rules =
    let sheets = w.worksheets in
    let parts = sheet_parts (nat_lt 0 (length sheets)) (are_distinct (λ a b. a == b) (ids_of sheets)) (list_all is_sheet_name (names_of sheets))
    (are_distinct same_folded (names_of sheets)) (well_formed_parts w rules).sheets in
    record { ids = parts.0; names = parts.1 }

-- the name of each sheet is legal
name_legal : (sheets : List Sheet) (index : ℕ) (sheet : Sheet) → slice_get sheets index ≡ Some sheet → list_all is_sheet_name (names_of sheets) ≡ true
    → is_sheet_name sheet.name ≡ true
name_legal [] index sheet there all = absurd (let never : ◌≡◌ {A = Option Sheet} None (Some sheet) = there in cc)
name_legal (one ∷ sheets) zero sheet there all =
    let same : one ≡ sheet = cc in
    ap (λ (s : Sheet). is_sheet_name s.name) (sym same) ∙ (and_parts (is_sheet_name one.name) (list_all is_sheet_name (names_of sheets)) all).0
name_legal (one ∷ sheets) (suc index) sheet there all =
    name_legal sheets index sheet there (and_parts (is_sheet_name one.name) (list_all is_sheet_name (names_of sheets)) all).1

-- where there is a next id, it is free, and the sheets are few
module _ (w : Book) (rules : IsWellFormed w) (id : ℕ) (found : next_id (ids_of w.worksheets) ≡ Ok id) where
  next_free : index_of w id ≡ None
  next_free =
      free_above id w (subst (λ n. AllByRecursion (λ other. other < n) (ids_of w.worksheets)) (sym (next_id_is (ids_of w.worksheets) id found).is)
      (below_next (ids_of w.worksheets)))

  pub few_sheets : length w.worksheets ≤ 4294967295
  few_sheets =
      let few = count_small (ids_of w.worksheets) id (has_sheets w rules).ids found in
      let same = length-map w.worksheets (λ (sheet : Sheet). sheet.id) in
      omega (arith, few, same)

  few_names : length (names_of w.worksheets) < 2 ^ 63
  few_names =
      let few = few_sheets in
      let same = length-map w.worksheets (λ (sheet : Sheet). sheet.name) in
      omega (arith, few, same)

-- the sheet at an index, if it is one
pub sheet_there : (w : Book) (index : ℕ) (sheet : Sheet) → sheet_at w index ≡ Ok sheet → slice_get w.worksheets index ≡ Some sheet
sheet_there w index sheet at = go (slice_get w.worksheets index) refl at
  where
    go : (o : Option Sheet) → slice_get w.worksheets index ≡ o → ok_or InvalidSheet o ≡ Ok sheet → slice_get w.worksheets index ≡ Some sheet
    go None is e = absurd (let never : ◌≡◌ {A = Result Sheet EditError} (Err InvalidSheet) (Ok sheet) = e in cc)
    go (Some one) is e = is ∙ ap Some (let same : ◌≡◌ {A = Result Sheet EditError} (Ok one) (Ok sheet) = e in cc)

-- ---- each edit

module _ (w : Book) (rules : IsWellFormed w) where
  -- a new sheet
  pub new_goes : (id : ℕ) → next_id (ids_of w.worksheets) ≡ Ok id → GoesBothWays AddSheet w (with_new_sheet w id)
  new_goes id found =
      let name = new_name (names_of w.worksheets) in
      let count = length w.worksheets in
      let free = next_free w rules id found in
      let few = few_names w rules id found in
      one_both_ways AddSheet (new_diff w id) w (with_new_sheet w id) rules
      (new_well_formed id count name w rules free (new_name_is_legal (names_of w.worksheets) few) (new_name_is_free (names_of w.worksheets) few))
      (ap (λ r. one_diff (map_ok (new_diff w) r)) found) (new_both_ways 0 id count name w free (omega arith))

  -- a copy of the sheet at an index
  pub copy_goes : (index : ℕ) (sheet : Sheet) (id : ℕ) → sheet_at w index ≡ Ok sheet → next_id (ids_of w.worksheets) ≡ Ok id
      → GoesBothWays (CopySheet index) w (with_copy index w sheet id)
  copy_goes index sheet id at found =
      let name = copy_name (names_of w.worksheets) sheet.name in
      let there = sheet_there w index sheet at in
      let free = next_free w rules id found in
      let few = few_names w rules id found in
      let legal = name_legal w.worksheets index sheet there (has_sheets w rules).names in
      let within = slice_get_within w.worksheets index sheet there in
      one_both_ways (CopySheet index) (copy_diff index w sheet id) w (with_copy index w sheet id) rules
      (copy_well_formed id (index + 1) index name sheet w rules there free (copy_name_is_legal (names_of w.worksheets) sheet.name few legal)
      (copy_name_is_free (names_of w.worksheets) sheet.name few))
      (λ i. one_diff (and_then (at i) (λ s. map_ok (copy_diff index w s) (found i))))
      (copy_both_ways 0 id (index + 1) index name sheet w rules there free (omega (arith, within)))

  -- the sheet at an index goes
  pub deletion_goes : (index : ℕ) (sheet : Sheet) → sheet_at w index ≡ Ok sheet → (length w.worksheets == 1) ≡ false
      → GoesBothWays (DeleteSheet index) w (without_sheet_at index (names_left sheet.id w.names) w)
  deletion_goes index sheet at others =
      let there = sheet_there w index sheet at in
      let within = slice_get_within w.worksheets index sheet there in
      let many : 1 < length w.worksheets = grind (arith, within, others) in
      one_both_ways (DeleteSheet index) (deletion_diff index w sheet) w (without_sheet_at index (names_left sheet.id w.names) w) rules
      (deletion_well_formed index sheet w rules there many) (ap (λ r. one_diff (map_ok (deletion_diff index w) r)) at)
      (deletion_both_ways 0 index sheet w rules there)

  -- the sheet at an index is taken to another one
  pub move_goes : (from to : ℕ) (sheet : Sheet) → sheet_at w from ≡ Ok sheet → to < length w.worksheets
      → GoesBothWays (MoveSheet from to) w (record w { worksheets = sheets_moved w.worksheets from to })
  move_goes from to sheet at within =
      one_both_ways (MoveSheet from to) (move_diff from to sheet) w (record w { worksheets = sheets_moved w.worksheets from to }) rules
      (move_well_formed from to w rules) (ap (λ r. one_diff (map_ok (move_diff from to) r)) at)
      (move_both_ways 0 from to sheet w rules (sheet_there w from sheet at) within)

  -- the sheet at an index gets another name
  pub rename_goes : (index : ℕ) (name : List ℕ) (sheet : Sheet) → sheet_at w index ≡ Ok sheet → may_be_named sheet.id name w.worksheets ≡ true
      → GoesBothWays (RenameSheet index name) w (book_renamed sheet.id sheet.name name w)
  rename_goes index name sheet at may =
      let found : sheet_of w sheet.id ≡ Some sheet = found_at index w.worksheets sheet (distinct_ids_from_well_formed w rules) (sheet_there w index sheet at) in
      one_both_ways (RenameSheet index name) (rename_diff name w sheet) w (book_renamed sheet.id sheet.name name w) rules
      (renamed_well_formed sheet.id sheet.name name w rules may) (ap (λ r. one_diff (map_ok (rename_diff name w) r)) at)
      (record { forth = rename_made sheet.id name w rules sheet found 0; back = rename_taken_back sheet.id name w rules sheet found 0 })

  -- ---- each accepted one

  added_goes : (later : Book) → sheet_added w ≡ Ok later → GoesBothWays AddSheet w later
  unfolding sheet_added
  added_goes later how = go (next_id (ids_of w.worksheets)) refl how
    where
      go : (r : Result ℕ EditError) → next_id (ids_of w.worksheets) ≡ r → map_ok (with_new_sheet w) r ≡ Ok later → GoesBothWays AddSheet w later
      go (Ok id) found e = subst (GoesBothWays AddSheet w) (let same : with_new_sheet w id ≡ later = cc in same) (new_goes id found)
      go (Err error) found e = absurd (let never : ◌≡◌ {A = Result Book EditError} (Err error) (Ok later) = e in cc)

  copied_goes : (index : ℕ) (later : Book) → sheet_copied index w ≡ Ok later → GoesBothWays (CopySheet index) w later
  unfolding sheet_copied
  copied_goes index later how = on_sheet (sheet_at w index) refl how
    where
      on_id : (sheet : Sheet) → sheet_at w index ≡ Ok sheet → (r : Result ℕ EditError) → next_id (ids_of w.worksheets) ≡ r
          → map_ok (with_copy index w sheet) r ≡ Ok later → GoesBothWays (CopySheet index) w later
      on_id sheet at (Ok id) found e =
          subst (GoesBothWays (CopySheet index) w) (let same : with_copy index w sheet id ≡ later = cc in same) (copy_goes index sheet id at found)
      on_id sheet at (Err error) found e = absurd (let never : ◌≡◌ {A = Result Book EditError} (Err error) (Ok later) = e in cc)

      on_sheet : (r : Result Sheet EditError) → sheet_at w index ≡ r
          → and_then r (λ sheet. map_ok (with_copy index w sheet) (next_id (ids_of w.worksheets))) ≡ Ok later → GoesBothWays (CopySheet index) w later
      on_sheet (Ok sheet) at e = on_id sheet at (next_id (ids_of w.worksheets)) refl e
      on_sheet (Err error) at e = absurd (let never : ◌≡◌ {A = Result Book EditError} (Err error) (Ok later) = e in cc)

  deleted_goes : (index : ℕ) (later : Book) → sheet_deleted index w ≡ Ok later → GoesBothWays (DeleteSheet index) w later
  unfolding sheet_deleted
  deleted_goes index later how = on_sheet (sheet_at w index) refl how
    where
      on_count : (sheet : Sheet) → sheet_at w index ≡ Ok sheet → (b : Bool) → (length w.worksheets == 1) ≡ b
          → cond b (Err OnlySheet) (Ok (without_sheet_at index (names_left sheet.id w.names) w)) ≡ Ok later → GoesBothWays (DeleteSheet index) w later
      on_count sheet at true is e = absurd (let never : ◌≡◌ {A = Result Book EditError} (Err OnlySheet) (Ok later) = e in cc)
      on_count sheet at false is e =
          subst (GoesBothWays (DeleteSheet index) w)
          (let same : ◌≡◌ {A = Result Book EditError} (Ok (without_sheet_at index (names_left sheet.id w.names) w)) (Ok later) = e in cc)
          (deletion_goes index sheet at is)

      on_sheet : (r : Result Sheet EditError) → sheet_at w index ≡ r
          → and_then r (λ sheet. cond (length w.worksheets == 1) (Err OnlySheet) (Ok (without_sheet_at index (names_left sheet.id w.names) w))) ≡ Ok later
          → GoesBothWays (DeleteSheet index) w later
      on_sheet (Ok sheet) at e = on_count sheet at (length w.worksheets == 1) refl e
      on_sheet (Err error) at e = absurd (let never : ◌≡◌ {A = Result Book EditError} (Err error) (Ok later) = e in cc)

  taken_goes : (from to : ℕ) (later : Book) → sheet_taken from to w ≡ Ok later → GoesBothWays (MoveSheet from to) w later
  unfolding sheet_taken
  taken_goes from to later how = go (nat_lt from (length w.worksheets)) (nat_lt to (length w.worksheets)) refl refl how
    where
      moved : Book
      moved = record w { worksheets = sheets_moved w.worksheets from to }

      sheet : Sheet
      sheet = get_or w.worksheets from (new_sheet 0 [])

      go : (a b : Bool) → nat_lt from (length w.worksheets) ≡ a → nat_lt to (length w.worksheets) ≡ b
          → cond (a && b) (Ok (record w { worksheets = sheets_moved w.worksheets from to })) (Err InvalidSheet) ≡ Ok later → GoesBothWays (MoveSheet from to) w later
      go true true low high e =
          let before : from < length w.worksheets = grind (arith, low) in
          let behind : to < length w.worksheets = grind (arith, high) in
          let at : sheet_at w from ≡ Ok sheet = ap (ok_or InvalidSheet) (slice_get-get_or w.worksheets from (new_sheet 0 []) before) in
          subst (GoesBothWays (MoveSheet from to) w) (let same : ◌≡◌ {A = Result Book EditError} (Ok moved) (Ok later) = e in cc)
          (move_goes from to sheet at behind)
      go true false low high e = absurd (let never : ◌≡◌ {A = Result Book EditError} (Err InvalidSheet) (Ok later) = e in cc)
      go false b low high e = absurd (let never : ◌≡◌ {A = Result Book EditError} (Err InvalidSheet) (Ok later) = e in cc)

  named_goes : (index : ℕ) (name : List ℕ) (later : Book) → sheet_named index name w ≡ Ok later → GoesBothWays (RenameSheet index name) w later
  unfolding sheet_named
  named_goes index name later how = on_sheet (sheet_at w index) refl how
    where
      on_name : (sheet : Sheet) → sheet_at w index ≡ Ok sheet → (b : Bool) → may_be_named sheet.id name w.worksheets ≡ b
          → cond b (Ok (book_renamed sheet.id sheet.name name w)) (Err SheetName) ≡ Ok later → GoesBothWays (RenameSheet index name) w later
      on_name sheet at true may e =
          subst (GoesBothWays (RenameSheet index name) w)
          (let same : ◌≡◌ {A = Result Book EditError} (Ok (book_renamed sheet.id sheet.name name w)) (Ok later) = e in cc)
          (rename_goes index name sheet at may)
      on_name sheet at false never e = absurd (let no : ◌≡◌ {A = Result Book EditError} (Err SheetName) (Ok later) = e in cc)

      on_sheet : (r : Result Sheet EditError) → sheet_at w index ≡ r → and_then r (with_name name w) ≡ Ok later
          → GoesBothWays (RenameSheet index name) w later
      on_sheet (Ok sheet) at e = on_name sheet at (may_be_named sheet.id name w.worksheets) refl e
      on_sheet (Err error) at e = absurd (let never : ◌≡◌ {A = Result Book EditError} (Err error) (Ok later) = e in cc)

  names_go : (edit : NameEdit) (later : Book) → names_edited edit w ≡ Ok later → GoesBothWays (ChangeNames edit) w later
  unfolding names_edited
  names_go edit later how = go (name_change edit w) refl how
    where
      go : (r : Result NameChange EditError) → name_change edit w ≡ r → map_ok (λ change. name_made change w) r ≡ Ok later → GoesBothWays (ChangeNames edit) w later
      go (Ok change) found e =
          let it = edited w rules edit change found in
          subst (GoesBothWays (ChangeNames edit) w) (let same : name_made change w ≡ later = cc in same)
          (one_both_ways (ChangeNames edit) (name_diff w change) w (name_made change w) rules (later_well_formed change.index w rules change.old change.new it.may)
          (ap (λ r. one_diff (map_ok (name_diff w) r)) found) (name_both_ways change.index w change.old change.new it.output 0))
      go (Err error) found e = absurd (let never : ◌≡◌ {A = Result Book EditError} (Err error) (Ok later) = e in cc)

module _ (setting : Setting) (w : Book) (rules : IsWellFormed w) where
  abbrev with_it : Book
  with_it = with_setting setting w

  -- the workbook has the setting already
  setting_kept : has_setting setting w ≡ true → GoesBothWays (SetSetting setting) w with_it
  setting_kept has =
      let none : setting_record setting w ≡ [] = ap (λ b. cond b [] (SettingDiff (change_to setting w) ∷ [])) has in
      let same : with_it ≡ w = setting_stays setting w has in
      let kept : IsWellFormed with_it = setting_well_formed setting w rules in
      record {
        rules = kept;
        forth = ap (book_after w) none ∙ by_rule-kept 0 w rules ∙ ap Ok (sym same);
        back = ap (book_before with_it) none ∙ by_rule-kept 0 with_it kept ∙ ap Ok same;
      }

  -- or gets it
  setting_changed : has_setting setting w ≡ false → GoesBothWays (SetSetting setting) w with_it
  setting_changed has_not =
      one_both_ways (SetSetting setting) (SettingDiff (change_to setting w)) w with_it rules (setting_well_formed setting w rules)
      (ap (λ b. cond b [] (SettingDiff (change_to setting w) ∷ [])) has_not)
      (record { forth = ap Ok (change_goes setting w); back = ap Ok (change_returns setting w) })

  setting_goes : GoesBothWays (SetSetting setting) w with_it
  setting_goes = go (has_setting setting w) refl
    where
      go : (b : Bool) → has_setting setting w ≡ b → GoesBothWays (SetSetting setting) w with_it
      go true is = setting_kept is
      go false is = setting_changed is

  set_goes : (later : Book) → ◌≡◌ {A = Result Book EditError} (Ok with_it) (Ok later) → GoesBothWays (SetSetting setting) w later
  set_goes later how = subst (GoesBothWays (SetSetting setting) w) (let same : with_it ≡ later = cc in same) setting_goes

-- an accepted edit of the list of the sheets, of the defined names, of conditional rules or of a setting of a well-formed workbook
pub goes_both_ways : (edit : Edit) (earlier later : Book) → IsTrue (is_of_sheets edit) → IsWellFormed earlier → changed edit earlier ≡ Ok later
    → GoesBothWays edit earlier later
goes_both_ways AddSheet earlier later is rules how = added_goes earlier rules later how
goes_both_ways (CopySheet index) earlier later is rules how = copied_goes earlier rules index later how
goes_both_ways (DeleteSheet index) earlier later is rules how = deleted_goes earlier rules index later how
goes_both_ways (MoveSheet from to) earlier later is rules how = taken_goes earlier rules from to later how
goes_both_ways (RenameSheet index name) earlier later is rules how = named_goes earlier rules index name later how
goes_both_ways (ChangeNames edit) earlier later is rules how = names_go earlier rules edit later how
goes_both_ways (EditRules edit) earlier later is rules how = rules_go earlier rules edit later how
goes_both_ways (SetSetting setting) earlier later is rules how = set_goes setting earlier rules later how
goes_both_ways (Input index row column content feeds) earlier later is rules how = absurd (let never : false ≡ true = is in cc)
goes_both_ways (ArrayInput index r tree) earlier later is rules how = absurd (let never : false ≡ true = is in cc)
goes_both_ways (SetLink index row column link) earlier later is rules how = absurd (let never : false ≡ true = is in cc)
goes_both_ways (Merge index r) earlier later is rules how = absurd (let never : false ≡ true = is in cc)
goes_both_ways (Unmerge index row column) earlier later is rules how = absurd (let never : false ≡ true = is in cc)
goes_both_ways (Lines index axis kind) earlier later is rules how = absurd (let never : false ≡ true = is in cc)
goes_both_ways (MoveLines index axis first count delta) earlier later is rules how = absurd (let never : false ≡ true = is in cc)
goes_both_ways (SetField index value) earlier later is rules how = absurd (let never : false ≡ true = is in cc)
goes_both_ways (SetSize index axis first last size) earlier later is rules how = absurd (let never : false ≡ true = is in cc)
goes_both_ways (SetHidden index axis first last hidden) earlier later is rules how = absurd (let never : false ≡ true = is in cc)
goes_both_ways (SetRangeStyle index r path value) earlier later is rules how = absurd (let never : false ≡ true = is in cc)
goes_both_ways (ClearRange index clearing r) earlier later is rules how = absurd (let never : false ≡ true = is in cc)
goes_both_ways (ClearFormatting index r) earlier later is rules how = absurd (let never : false ≡ true = is in cc)
goes_both_ways (PasteStyles index r styles) earlier later is rules how = absurd (let never : false ≡ true = is in cc)
goes_both_ways (Fill index axis source to language) earlier later is rules how = absurd (let never : false ≡ true = is in cc)
