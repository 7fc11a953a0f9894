-- The record of one entry that was put: one of a sheet, or a setting.
use Rattle.std.proofs.Common.{◌≡◌, ◌≢◌, Bool, true, false, cond, ◌&&◌, List, [], ◌∷◌, map, Option, Some, None, is_some, refl, ap, sym, subst, ◌∙◌, true≢false}
use Rattle.std.specs.Prelude.{IsTrue}
use Rattle.std.specs.Ordering.{eq_by_cmp}
use Rattle.std.specs.Cmp.{eq_by_cmp_equiv}
use Rattle.std.proofs.lemmas.Map.Views.{tells_apart}
use Rattle.std.specs.FinMap as fin
use Rattle.sheet_grid.specs.Sheet.{Sheet}
use Rattle.sheet_grid.specs.Book.{Book}
use Rattle.sheet_ids.specs.Ids.{sheet_of}
use Rattle.sheet_history.specs.Entries.{EntryKey, EntryValue, key_cmp, sheet_id_of, sheet_entry, value_fits, entry_accepted, entry_at, put_entry, accepts}
use Rattle.sheet_history.specs.Entries.EntryKey.{CellKey, LinkKey, MergesKey, FieldKey, AttrKey, SettingKey}
use Rattle.sheet_history.specs.Entries.EntryValue.{CellValue, LinkValue, MergesValue, FieldValue, AttrValue, SettingValue}
use Rattle.sheet_history.specs.declared.diff.LineAxis.TheVariants.{Rows, Columns}
use Rattle.sheet_history.specs.declared.field.SheetField.TheVariants as value
use Rattle.sheet_history.specs.Fields.Field.{ColorField, StateField, GridField, FrozenRowsField, FrozenColumnsField}
use Rattle.sheet_history.specs.declared.setting.Setting.{Setting}
use Rattle.sheet_history.specs.declared.setting.Setting.TheVariants as setting
use Rattle.sheet_history.specs.Settings.{SettingKind, kind_of, is_of_kind, setting_in, with_setting}
use Rattle.sheet_history.specs.Settings.SettingKind.{ThemeSetting, NameSetting, LocaleSetting, ZoneSetting}
use Rattle.sheet_history.specs.Records.{same_entry_value, changed_entry, Change, change_of, diff_of, entry_record, IsRecord}
use Rattle.sheet_history.specs.laws.EntryLaws.{decide, accepts-setting, entry_at-put_entry, entry_at-put_entry_other, entry_at-setting, frame_of-put_entry, of_sheet}
use Rattle.sheet_history.specs.laws.PutLaws.{entry_at-found}
use Rattle.sheet_history.specs.laws.RecordLaws.{key_total, exact_keys}
use Rattle.sheet_history.specs.laws.SettingLaws.{own_kind, with_kind-own}
use Rattle.sheet_history.specs.laws.ValueEquals.{same_value_decides}

-- a diff of values of the key's kind is the change
diff_is : (k : EntryKey) (s : Sheet) (v : EntryValue) → value_fits k v ≡ true → map change_of (diff_of k (sheet_entry k s) v) ≡ Some (k, (sheet_entry k s, v)) ∷ []
diff_is (CellKey id place) s (CellValue v) h = refl
diff_is (LinkKey id place) s (LinkValue v) h = refl
diff_is (MergesKey id) s (MergesValue v) h = refl
diff_is (FieldKey id ColorField) s (FieldValue (value.Color v)) h = refl
diff_is (FieldKey id StateField) s (FieldValue (value.State v)) h = refl
diff_is (FieldKey id GridField) s (FieldValue (value.GridLines v)) h = refl
diff_is (FieldKey id FrozenRowsField) s (FieldValue (value.FrozenRows v)) h = refl
diff_is (FieldKey id FrozenColumnsField) s (FieldValue (value.FrozenColumns v)) h = refl
diff_is (AttrKey id Rows line) s (AttrValue v) h = refl
diff_is (AttrKey id Columns line) s (AttrValue v) h = refl
diff_is _ s _ h = absurd (let never : false ≡ true = h in cc)

-- so is it of a setting
setting_diff_is : (kind : SettingKind) (w : Book) (v : Setting) → is_of_kind kind v ≡ true
    → map change_of (diff_of (SettingKey kind) (SettingValue (setting_in kind w)) (SettingValue v)) ≡ Some (SettingKey kind, (SettingValue (setting_in kind w), SettingValue v)) ∷ []
setting_diff_is ThemeSetting w (setting.Theme v) h = refl
setting_diff_is NameSetting w (setting.Name v) h = refl
setting_diff_is LocaleSetting w (setting.Locale v) h = refl
setting_diff_is ZoneSetting w (setting.Zone v) h = refl
setting_diff_is _ w _ h = absurd (let never : false ≡ true = h in cc)

-- an entry does not differ from itself
pub changed_entry-same : (entry : Option EntryValue) → changed_entry entry entry ≡ None
changed_entry-same None = refl
changed_entry-same (Some v) = ap (λ b. cond b None (Some (v, v))) ((same_value_decides v v).1 refl)

module _ (w : Book) (k : EntryKey) (old v : EntryValue) (before_here : entry_at w k ≡ Some old) (accepted : accepts w k v ≡ true)
    (diff_made : map change_of (diff_of k old v) ≡ Some (k, (old, v)) ∷ []) where
  abbrev later : Book
  later = put_entry w k v

  -- the change, if the entry is another one
  abbrev change : Bool → List Change
  change same = cond same [] ((k, (old, v)) ∷ [])

  made_of : (same : Bool) → map change_of (cond same [] (diff_of k old v)) ≡ map Some (change same)
  made_of true = refl
  made_of false = diff_made

  ordered : (same : Bool) → IsTrue (fin.is_sorted key_cmp (change same))
  ordered true = refl
  ordered false = refl

  later_here : entry_at later k ≡ Some v
  later_here = entry_at-put_entry w k v accepted

  -- at its key both differ where the values do
  here : (same : Bool) → same_entry_value old v ≡ same → (q : EntryKey) → q ≡ k → fin.find key_cmp q (change same) ≡ changed_entry (entry_at w q) (entry_at later q)
  here same is q one =
      found same ∙ (λ i. cond (sym is i) None (Some (old, v))) ∙ sym ((λ i. changed_entry (entry_at w (one i)) (entry_at later (one i))) ∙ (λ i. changed_entry (before_here i) (later_here i)))
    where
      itself : eq_by_cmp key_cmp q k ≡ true
      itself = ap (λ x. eq_by_cmp key_cmp x k) one ∙ (eq_by_cmp_equiv key_total).refl k

      found : (b : Bool) → fin.find key_cmp q (change b) ≡ cond b None (Some (old, v))
      found true = refl
      found false = ap (λ b. cond b (Some (old, v)) None) itself

  -- and at every other key they agree
  elsewhere : (same : Bool) (q : EntryKey) → eq_by_cmp key_cmp q k ≡ false → fin.find key_cmp q (change same) ≡ changed_entry (entry_at w q) (entry_at later q)
  elsewhere same q off =
      missed same ∙ sym (ap (changed_entry (entry_at w q)) (entry_at-put_entry_other w k v q apart) ∙ changed_entry-same (entry_at w q))
    where
      apart : q ≢ k
      apart one = true≢false (sym ((eq_by_cmp_equiv key_total).refl k) ∙ ap (λ x. eq_by_cmp key_cmp x k) (sym one) ∙ off)

      missed : (b : Bool) → fin.find key_cmp q (change b) ≡ None
      missed true = refl
      missed false = ap (λ b. cond b (Some (old, v)) None) off

  -- the record of one entry that was put is its change, or nothing where it stays
  entry_put_record : IsRecord w later (entry_record k old v)
  entry_put_record = record {
    changes = change (same_entry_value old v);
    made_of = made_of (same_entry_value old v);
    frame = frame_of-put_entry w k v;
    ordered = ordered (same_entry_value old v);
    exact = λ q. decide (eq_by_cmp key_cmp q k) (λ hit. here (same_entry_value old v) refl q (tells_apart exact_keys q k hit)) (λ off. elsewhere (same_entry_value old v) q off);
  }

module _ (w : Book) (k : EntryKey) (v : EntryValue) (sheet : Sheet) (there : sheet_of w (sheet_id_of k) ≡ Some sheet) (stands : value_fits k v ≡ true) where
  sheet_accepts : accepts w k v ≡ true
  unfolding accepts
  sheet_accepts = (λ i. entry_accepted (of_sheet k v stands i) k v w) ∙ (λ i. is_some (there i) && stands i)

  -- so it is with an entry of a sheet
  pub put_record : IsRecord w (put_entry w k v) (entry_record k (sheet_entry k sheet) v)
  put_record = entry_put_record w k (sheet_entry k sheet) v (entry_at-found w k (of_sheet k v stands) sheet there) sheet_accepts (diff_is k sheet v stands)

module _ (w : Book) (v : Setting) where
  abbrev setting_key : EntryKey
  setting_key = SettingKey (kind_of v)

  put_is : put_entry w setting_key (SettingValue v) ≡ with_setting v w
  unfolding put_entry
  put_is = with_kind-own v w

  -- and with a setting
  pub setting_put_record : IsRecord w (with_setting v w) (entry_record setting_key (SettingValue (setting_in (kind_of v) w)) (SettingValue v))
  setting_put_record =
      subst (λ later. IsRecord w later (entry_record setting_key (SettingValue (setting_in (kind_of v) w)) (SettingValue v))) put_is
      (entry_put_record w setting_key (SettingValue (setting_in (kind_of v) w)) (SettingValue v) (entry_at-setting w (kind_of v))
      (accepts-setting w (kind_of v) (SettingValue v) (own_kind v)) (setting_diff_is (kind_of v) w v (own_kind v)))
