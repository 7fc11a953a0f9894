-- The record of a change of a sheet that changes its merges too, and the rules of other merges.
use Rattle.std.proofs.Common.{◌≡◌, ◌≢◌, true, false, cond, List, [], ◌∷◌, ◌++◌, map, Some, None, refl, ap, sym, ◌∙◌}
use Rattle.std.specs.List.{AllByRecursion}
use Rattle.std.specs.Cmp.{eq_by_cmp_equiv}
use Rattle.std.specs.Ordering.{eq_by_cmp, is_lt}
use Rattle.std.specs.FinMap as fin
use Rattle.std.specs.FinMap.Entries.{find-append}
use Rattle.std.proofs.lemmas.List.{map-append}
use Rattle.std.proofs.lemmas.Map.Views.{tells_apart}
use Rattle.base_axis.specs.declared.MergedCell.{MergedCell}
use Rattle.sheet_grid.specs.Sheet.{Sheet}
use Rattle.sheet_history.specs.declared.Diff.{Diff}
use Rattle.sheet_history.specs.Entries.{EntryKey, EntryValue, key_cmp, sheet_id_of, sheet_entry}
use Rattle.sheet_history.specs.declared.LineAxis.TheVariants.{Rows, Columns}
use Rattle.sheet_history.specs.Entries.EntryKey.{AttrKey}
use Rattle.sheet_history.specs.Entries.EntryKey.{CellKey, LinkKey, MergesKey, FieldKey, SettingKey}
use Rattle.sheet_history.specs.Entries.EntryValue.{MergesValue, FieldValue}
use Rattle.sheet_history.specs.Records.{Change, change_of, changed_entry, same_entry_value}
use Rattle.sheet_history.specs.laws.EntryLaws.{decide}
use Rattle.sheet_history.specs.laws.FieldLaws.{fields_stay}
use Rattle.sheet_history.specs.laws.OneEntry.{changed_entry-same}
use Rattle.sheet_history.specs.laws.RecordLaws.{key_total, exact_keys}
use Rattle.sheet_history.specs.laws.ValueEquals.{same_value_decides}
use Rattle.edit_plans.specs.laws.MappedMaps.{sorted_more}
use Rattle.edit_plans.specs.laws.SheetRecords.{IsSheetRecord}

-- merges that are others are told to be
pub merges_differ : (a b : List MergedCell) → (a ≢ b) → same_entry_value (MergesValue a) (MergesValue b) ≡ false
merges_differ a b other = decide (same_entry_value (MergesValue a) (MergesValue b))
    (λ hit. absurd (let same : ◌≡◌ {A = EntryValue} (MergesValue a) (MergesValue b) = (same_value_decides _ _).0 hit in let one : a ≡ b = cc in other one))
    (λ miss. miss)

-- one more diff has one more change
pub made_more : (ds : List Diff) (cs : List Change) (d : Diff) (c : Change) → map change_of ds ≡ map Some cs → change_of d ≡ Some c
    → map change_of (ds ++ d ∷ []) ≡ map Some (cs ++ c ∷ [])
made_more ds cs d c output is = map-append change_of ds (d ∷ []) ∙ (λ i. output i ++ is i ∷ []) ∙ sym (map-append Some cs (c ∷ []))

-- what stays has no change
pub no_changes : (sheet : Sheet) → IsSheetRecord (λ s. s) sheet []
no_changes sheet = record { ordered = refl; here = λ key own. sym (changed_entry-same (Some (sheet_entry key sheet))); elsewhere = λ key other. refl }

-- the change of the merges of a sheet
abbrev pub merges_change : Sheet → List MergedCell → Change
merges_change sheet merges = (MergesKey sheet.id, (MergesValue sheet.merges, MergesValue merges))

module _ (change : Sheet → Sheet) (merges : Sheet → List MergedCell) (sheet : Sheet) (cs : List Change) (is : IsSheetRecord change sheet cs)
    (stay : (change sheet).merges ≡ sheet.merges)
    (below : AllByRecursion (λ c. is_lt (key_cmp c.0 (MergesKey sheet.id)) ≡ true) cs)
    (differ : same_entry_value (MergesValue sheet.merges) (MergesValue (merges sheet)) ≡ false) where
  abbrev and_merges : Sheet → Sheet
  and_merges s = record (change s) { merges = merges s }

  abbrev last : Change
  last = merges_change sheet (merges sheet)

  none_yet : fin.find key_cmp (MergesKey sheet.id) cs ≡ None
  none_yet = is.here (MergesKey sheet.id) refl ∙ ap (λ ms. changed_entry (Some (MergesValue sheet.merges)) (Some (MergesValue ms))) stay
      ∙ changed_entry-same (Some (MergesValue sheet.merges))

  found_more : (key : EntryKey)
      → fin.find key_cmp key (cs ++ last ∷ []) ≡ cond (eq_by_cmp key_cmp key (MergesKey sheet.id)) (Some last.1) (fin.find key_cmp key cs)
  found_more key = find-append key_cmp key_total cs (MergesKey sheet.id) last.1 key none_yet

  itself : eq_by_cmp key_cmp (MergesKey sheet.id) (MergesKey sheet.id) ≡ true
  itself = (eq_by_cmp_equiv key_total).refl (MergesKey sheet.id)

  apart : (key : EntryKey) → (key ≢ MergesKey sheet.id) → eq_by_cmp key_cmp key (MergesKey sheet.id) ≡ false
  apart key other = decide (eq_by_cmp key_cmp key (MergesKey sheet.id)) (λ hit. absurd (other (tells_apart exact_keys key (MergesKey sheet.id) hit)))
      (λ miss. miss)

  others : (key : EntryKey) → (key ≢ MergesKey sheet.id) → fin.find key_cmp key (cs ++ last ∷ []) ≡ fin.find key_cmp key cs
  others key other = found_more key ∙ ap (λ b. cond b (Some last.1) (fin.find key_cmp key cs)) (apart key other)

  at_merges : fin.find key_cmp (MergesKey sheet.id) (cs ++ last ∷ []) ≡ changed_entry (Some (MergesValue sheet.merges)) (Some (MergesValue (merges sheet)))
  at_merges =
      found_more (MergesKey sheet.id) ∙ ap (λ b. cond b (Some last.1) (fin.find key_cmp (MergesKey sheet.id) cs)) itself
      ∙ sym (ap (λ b. cond b None (Some (MergesValue sheet.merges, MergesValue (merges sheet)))) differ)

  here : (key : EntryKey) → sheet_id_of key ≡ sheet.id
      → fin.find key_cmp key (cs ++ last ∷ []) ≡ changed_entry (Some (sheet_entry key sheet)) (Some (sheet_entry key (and_merges sheet)))
  here (CellKey id place) own = others (CellKey id place) (λ same. let never : CellKey id place ≡ MergesKey sheet.id = same in cc)
      ∙ is.here (CellKey id place) own
  here (LinkKey id place) own = others (LinkKey id place) (λ same. let never : LinkKey id place ≡ MergesKey sheet.id = same in cc)
      ∙ is.here (LinkKey id place) own
  here (MergesKey id) own = ap (λ n. fin.find key_cmp (MergesKey n) (cs ++ last ∷ [])) own ∙ at_merges
  here (FieldKey id field) own = others (FieldKey id field) (λ same. let never : FieldKey id field ≡ MergesKey sheet.id = same in cc)
      ∙ is.here (FieldKey id field) own
      ∙ ap (λ v. changed_entry (Some (sheet_entry (FieldKey id field) sheet)) (Some (FieldValue v))) (fields_stay field (change sheet) (and_merges sheet) refl refl refl refl refl)
  here (AttrKey id Rows line) own = others (AttrKey id Rows line) (λ same. let never : AttrKey id Rows line ≡ MergesKey sheet.id = same in cc)
      ∙ is.here (AttrKey id Rows line) own
  here (AttrKey id Columns line) own = others (AttrKey id Columns line) (λ same. let never : AttrKey id Columns line ≡ MergesKey sheet.id = same in cc)
      ∙ is.here (AttrKey id Columns line) own
  here (SettingKey kind) own = others (SettingKey kind) (λ same. let never : SettingKey kind ≡ MergesKey sheet.id = same in cc)
      ∙ is.here (SettingKey kind) own

  -- the changes and that of the merges are the record
  pub merges_record : IsSheetRecord (λ s. record (change s) { merges = merges s }) sheet (cs ++ merges_change sheet (merges sheet) ∷ [])
  merges_record = record {
    ordered = sorted_more key_cmp (MergesKey sheet.id) last.1 cs is.ordered below;
    here = here;
    elsewhere = λ key other. others key (λ same. other (ap sheet_id_of same)) ∙ is.elsewhere key other;
  }
