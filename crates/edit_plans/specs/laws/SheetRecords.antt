-- A change of one sheet of a well-formed workbook: its record, and its rules.
use Rattle.std.proofs.Common.{◌≡◌, ◌≢◌, ℕ, List, Option, Some, None, Ok, option_map, map, refl, ap, sym, subst, ◌∙◌, true≢false}
use Rattle.std.specs.Prelude.{◌==◌, slice_set, IsTrue}
use Rattle.std.specs.Cmp.{unsigned_Decides}
use Rattle.std.specs.FinMap as fin
use Rattle.sheet_grid.specs.Sheet.{Sheet}
use Rattle.sheet_grid.specs.Book.{Book, sheet_at, with_sheet}
use Rattle.sheet_rules.specs.WellFormed.{IsWellFormed}
use Rattle.sheet_ids.specs.Ids.{sheet_of}
use Rattle.sheet_history.specs.declared.Diff.{Diff}
use Rattle.sheet_history.specs.Entries.{EntryKey, key_cmp, setting_of, sheet_id_of, sheet_entry, with_changed, entry_found, entry_at, bare_sheet, frame_of}
use Rattle.sheet_history.specs.Entries.EntryKey.{SettingKey}
use Rattle.sheet_history.specs.Entries.EntryValue.{SettingValue}
use Rattle.sheet_history.specs.Settings.{SettingKind, without_settings}
use Rattle.sheet_history.specs.Records.{Change, change_of, changed_entry, IsRecord}
use Rattle.sheet_history.specs.laws.EntryLaws.{decide, key_of_setting, found-changed, found-changed_other, map-changed}
use Rattle.sheet_history.specs.laws.SettingLaws.{setting_in-with_sheets}
use Rattle.sheet_history.specs.laws.OneEntry.{changed_entry-same}
use Rattle.sheet_history.specs.laws.PutLaws.{entry_at-found}
use Rattle.sheet_history.specs.laws.RuleLaws.{KeepsSheetRules, well_formed-changed}
use Rattle.edit_plans.specs.laws.AtIndex.{there, changed_at}

-- some changes are those of the entries of a sheet, in the order of their keys
pub record IsSheetRecord (change : Sheet → Sheet) (sheet : Sheet) (changes : List Change) : Type 0 where
  pub ordered : IsTrue (fin.is_sorted key_cmp changes)
  pub here : (key : EntryKey) → sheet_id_of key ≡ sheet.id
      → fin.find key_cmp key changes ≡ changed_entry (Some (sheet_entry key sheet)) (Some (sheet_entry key (change sheet)))
  pub elsewhere : (key : EntryKey) → sheet_id_of key ≢ sheet.id → fin.find key_cmp key changes ≡ None

module _ (change : Sheet → Sheet) (bare : (s : Sheet) → bare_sheet (change s) ≡ bare_sheet s) (w : Book) (rules : IsWellFormed w)
    (index : ℕ) (sheet : Sheet) (at : sheet_at w index ≡ Ok sheet) where
  keeps_id : (s : Sheet) → (change s).id ≡ s.id
  keeps_id s = ap (λ (t : Sheet). t.id) (bare s)

  abbrev after : Book
  after = with_sheet w index (change sheet)

  book_is : after ≡ record w { worksheets = with_changed sheet.id change w.worksheets }
  book_is = sym (changed_at w rules index sheet at change)

  entry_before : (key : EntryKey) → setting_of key ≡ None → sheet_id_of key ≡ sheet.id → entry_at w key ≡ Some (sheet_entry key sheet)
  entry_before key none own = entry_at-found w key none sheet (ap (sheet_of w) own ∙ there w rules index sheet at)

  entry_after : (key : EntryKey) → setting_of key ≡ None → sheet_id_of key ≡ sheet.id → entry_at after key ≡ Some (sheet_entry key (change sheet))
  entry_after key none own =
      entry_at-found after key none (change sheet)
      (ap (λ (b : Book). sheet_of b (sheet_id_of key)) book_is
      ∙ ap (sheet_of (record w { worksheets = with_changed sheet.id change w.worksheets })) own
      ∙ found-changed change keeps_id sheet.id w.worksheets ∙ ap (option_map change) (there w rules index sheet at))

  entry_other : (key : EntryKey) → setting_of key ≡ None → sheet_id_of key ≢ sheet.id → entry_at after key ≡ entry_at w key
  unfolding entry_at
  entry_other key none other = (λ i. entry_found (none i) key after)
      ∙ ap (λ (b : Book). option_map (sheet_entry key) (sheet_of b (sheet_id_of key))) book_is
      ∙ ap (option_map (sheet_entry key)) (found-changed_other change keeps_id sheet.id (sheet_id_of key) other w.worksheets)
      ∙ (λ i. entry_found (sym none i) key w)

  entry_setting : (kind : SettingKind) → entry_at after (SettingKey kind) ≡ entry_at w (SettingKey kind)
  unfolding entry_at
  entry_setting kind = λ i. Some (SettingValue (setting_in-with_sheets kind w (slice_set w.worksheets index (change sheet)) i))

  frame_stays : frame_of after ≡ frame_of w
  unfolding frame_of
  frame_stays = ap frame_of book_is ∙ (λ i. record (without_settings w) { worksheets = map-changed change keeps_id bare_sheet bare sheet.id w.worksheets i })

  module _ (changes : List Change) (is : IsSheetRecord change sheet changes) where
    -- no setting is among them
    no_setting : (kind : SettingKind) → fin.find key_cmp (SettingKey kind) changes ≡ None
    no_setting kind = decide (sheet_id_of (SettingKey kind) == sheet.id)
        (λ hit. is.here (SettingKey kind) ((unsigned_Decides (sheet_id_of (SettingKey kind)) sheet.id).0 hit)
        ∙ changed_entry-same (Some (sheet_entry (SettingKey kind) sheet)))
        (λ miss. is.elsewhere (SettingKey kind) (λ same. true≢false (sym ((unsigned_Decides (sheet_id_of (SettingKey kind)) sheet.id).1 same) ∙ miss)))

    exact_setting : (kind : SettingKind) → fin.find key_cmp (SettingKey kind) changes ≡ changed_entry (entry_at w (SettingKey kind)) (entry_at after (SettingKey kind))
    exact_setting kind =
        no_setting kind
        ∙ sym (ap (changed_entry (entry_at w (SettingKey kind))) (entry_setting kind) ∙ changed_entry-same (entry_at w (SettingKey kind)))

    exact_at : (key : EntryKey) (o : Option SettingKind) → setting_of key ≡ o → fin.find key_cmp key changes ≡ changed_entry (entry_at w key) (entry_at after key)
    exact_at key None none = decide (sheet_id_of key == sheet.id)
        (λ hit. let own = (unsigned_Decides (sheet_id_of key) sheet.id).0 hit in is.here key own
        ∙ sym (λ i. changed_entry (entry_before key none own i) (entry_after key none own i)))
        (λ miss. let other = λ (same : sheet_id_of key ≡ sheet.id). true≢false (sym ((unsigned_Decides (sheet_id_of key) sheet.id).1 same) ∙ miss) in
        is.elsewhere key other ∙ sym (ap (changed_entry (entry_at w key)) (entry_other key none other) ∙ changed_entry-same (entry_at w key)))
    exact_at key (Some kind) one =
        subst (λ k. fin.find key_cmp k changes ≡ changed_entry (entry_at w k) (entry_at after k)) (sym (key_of_setting key kind one)) (exact_setting kind)

  -- changes of a sheet are those of its workbook
  pub sheet_record : (changes : List Change) (list : List Diff) → map change_of list ≡ map Some changes → IsSheetRecord change sheet changes
      → IsRecord w after list
  sheet_record changes list output is = record {
    changes = changes;
    made_of = output;
    frame = frame_stays;
    ordered = is.ordered;
    exact = λ key. exact_at changes is key (setting_of key) refl;
  }

  -- and a sheet that keeps its rules keeps those of the workbook
  pub sheet_keeps : ((s : Sheet) → sheet_of w sheet.id ≡ Some s → KeepsSheetRules s → KeepsSheetRules (change s)) → IsWellFormed after
  sheet_keeps keeps = subst IsWellFormed (sym book_is) (well_formed-changed w rules sheet.id change bare keeps)
