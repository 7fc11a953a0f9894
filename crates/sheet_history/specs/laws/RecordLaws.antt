-- Two workbooks have one record.
use Rattle.std.proofs.Common.{◌≡◌, ℕ, ℤ, Bool, true, cond, List, [], ◌∷◌, map, Some, T, refl, ap, sym, subst, ◌∙◌}
use Rattle.std.specs.Prelude.{◌==◌}
use Rattle.std.specs.Cmp.{IsTotalOrder, on_total, then_total, nat_cmp_total, int_cmp_total}
use Rattle.std.specs.Ordering.{nat_cmp, int_cmp}
use Rattle.std.specs.FinMap.Entries.{same_entries}
use Rattle.std.proofs.lemmas.Map.Lookups.{CmpEqualImpliesEq, exact_pairs, exact_unsigned, exact_signed}
use Rattle.sheet_grid.specs.Book.{Book}
use Rattle.sheet_history.specs.declared.diff.Diff.{Diff}
use Rattle.sheet_history.specs.declared.diff.Diff.TheVariants.{Cell as CellDiff, Link as LinkDiff, Merges as MergesDiff, Field as FieldDiff, Lines as LinesDiff, NewSheet as NewDiff, DuplicateSheet as CopyDiff, DeleteSheet as DeletionDiff, MoveSheet as MoveDiff, RenameSheet as RenameDiff, ChangeName as NameDiff, Rule as RuleDiff, Attributes as AttrDiff, Setting as SettingDiff}
use Rattle.sheet_history.specs.declared.diff.LineAxis.TheVariants.{Rows, Columns}
use Rattle.sheet_history.specs.Entries.{EntryKey, Rank, rank_of, rank_cmp, key_cmp}
use Rattle.sheet_history.specs.Entries.EntryKey.{CellKey, LinkKey, MergesKey, FieldKey, AttrKey, SettingKey}
use Rattle.sheet_history.specs.Entries.EntryValue.{CellValue, LinkValue, MergesValue, FieldValue, AttrValue, SettingValue}
use Rattle.sheet_history.specs.declared.field.FieldChange.{FieldChange}
use Rattle.sheet_history.specs.declared.field.FieldChange.TheVariants as field_change
use Rattle.sheet_history.specs.Fields.{old_of, new_of, changed_field}
use Rattle.sheet_history.specs.Fields.Field.{ColorField, StateField, GridField, FrozenRowsField, FrozenColumnsField}
use Rattle.sheet_history.specs.declared.setting.SettingChange.{SettingChange}
use Rattle.sheet_history.specs.declared.setting.SettingChange.TheVariants as setting_change
use Rattle.sheet_history.specs.Settings.{old_setting, new_setting, changed_setting}
use Rattle.sheet_history.specs.Settings.SettingKind.{ThemeSetting, NameSetting, LocaleSetting, ZoneSetting}
use Rattle.sheet_history.specs.Records.{Change, change_of, field_diff, setting_diff, diff_of, IsRecord}

rank_total : IsTotalOrder rank_cmp
rank_total =
    then_total (on_total (λ r. r.tag) nat_cmp_total)
    (then_total (on_total (λ r. r.sheet) nat_cmp_total) (then_total (on_total (λ r. r.row) int_cmp_total) (on_total (λ r. r.column) int_cmp_total)))

pub key_total : IsTotalOrder key_cmp
key_total = on_total rank_of rank_total

-- the key of a rank
abbrev key_of : Rank → EntryKey
key_of r =
    cond (r.tag == 1) (CellKey r.sheet (record { row = r.row; column = r.column }))
    (cond (r.tag == 2) (LinkKey r.sheet (record { row = r.row; column = r.column }))
    (cond (r.tag == 3) (AttrKey r.sheet Columns r.row)
    (cond (r.tag == 4) (AttrKey r.sheet Rows r.row)
    (cond (r.tag == 5) (MergesKey r.sheet)
    (cond (r.tag == 18) (SettingKey ThemeSetting)
    (cond (r.tag == 19) (SettingKey NameSetting)
    (cond (r.tag == 20) (SettingKey LocaleSetting)
    (cond (r.tag == 21) (SettingKey ZoneSetting)
    (FieldKey r.sheet (cond (r.tag == 13) ColorField (cond (r.tag == 14) StateField (cond (r.tag == 15) GridField (cond (r.tag == 16) FrozenRowsField FrozenColumnsField)))))))))))))

key_of-rank_of : (key : EntryKey) → key_of (rank_of key) ≡ key
key_of-rank_of (CellKey sheet place) = refl
key_of-rank_of (LinkKey sheet place) = refl
key_of-rank_of (MergesKey sheet) = refl
key_of-rank_of (FieldKey sheet ColorField) = refl
key_of-rank_of (FieldKey sheet StateField) = refl
key_of-rank_of (FieldKey sheet GridField) = refl
key_of-rank_of (FieldKey sheet FrozenRowsField) = refl
key_of-rank_of (FieldKey sheet FrozenColumnsField) = refl
key_of-rank_of (AttrKey sheet Rows line) = refl
key_of-rank_of (AttrKey sheet Columns line) = refl
key_of-rank_of (SettingKey ThemeSetting) = refl
key_of-rank_of (SettingKey NameSetting) = refl
key_of-rank_of (SettingKey LocaleSetting) = refl
key_of-rank_of (SettingKey ZoneSetting) = refl

exact_ranks : CmpEqualImpliesEq rank_cmp
exact_ranks a b h =
    ap (λ (p : ℕ × (ℕ × (ℤ × ℤ))). record { tag = p.0; sheet = p.1.0; row = p.1.1.0; column = p.1.1.1 })
    (exact_pairs nat_cmp _ exact_unsigned (exact_pairs nat_cmp _ exact_unsigned (exact_pairs int_cmp int_cmp exact_signed exact_signed))
    (a.tag, (a.sheet, (a.row, a.column))) (b.tag, (b.sheet, (b.row, b.column))) h)

-- keys that compare alike are one
pub exact_keys : CmpEqualImpliesEq key_cmp
exact_keys a b h = sym (key_of-rank_of a) ∙ ap key_of (exact_ranks (rank_of a) (rank_of b) h) ∙ key_of-rank_of b

pub holds : (b : Bool) → b ≡ true → T b
holds b e = subst T (sym e) tt

-- the diff of the two values of a change is that of the change
own_diff : (sheet : ℕ) (one : FieldChange) → field_diff sheet (old_of one) (new_of one) ≡ FieldDiff sheet one ∷ []
own_diff sheet (field_change.State old new) = refl
own_diff sheet (field_change.Color old new) = refl
own_diff sheet (field_change.GridLines old new) = refl
own_diff sheet (field_change.FrozenRows old new) = refl
own_diff sheet (field_change.FrozenColumns old new) = refl

own_setting_diff : (one : SettingChange) → setting_diff (old_setting one) (new_setting one) ≡ SettingDiff one ∷ []
own_setting_diff (setting_change.Theme old new) = refl
own_setting_diff (setting_change.Name old new) = refl
own_setting_diff (setting_change.Locale old new) = refl
own_setting_diff (setting_change.Zone old new) = refl

-- a diff is the one of its change
pub diff_of-change_of : (diff : Diff) (change : Change) → change_of diff ≡ Some change → diff_of change.0 change.1.0 change.1.1 ≡ diff ∷ []
diff_of-change_of (CellDiff sheet place old new) change h =
    let same : ◌≡◌ {A = Change} (CellKey sheet place, (CellValue old, CellValue new)) change = cc in
    ap (λ (c : Change). diff_of c.0 c.1.0 c.1.1) (sym same)
diff_of-change_of (LinkDiff sheet place old new) change h =
    let same : ◌≡◌ {A = Change} (LinkKey sheet place, (LinkValue old, LinkValue new)) change = cc in
    ap (λ (c : Change). diff_of c.0 c.1.0 c.1.1) (sym same)
diff_of-change_of (MergesDiff sheet old new) change h =
    let same : ◌≡◌ {A = Change} (MergesKey sheet, (MergesValue old, MergesValue new)) change = cc in
    ap (λ (c : Change). diff_of c.0 c.1.0 c.1.1) (sym same)
diff_of-change_of (FieldDiff sheet one) change h =
    let same : ◌≡◌ {A = Change} (FieldKey sheet (changed_field one), (FieldValue (old_of one), FieldValue (new_of one))) change = cc in
    ap (λ (c : Change). diff_of c.0 c.1.0 c.1.1) (sym same) ∙ own_diff sheet one
diff_of-change_of (AttrDiff sheet axis line old new) change h =
    let same : ◌≡◌ {A = Change} (AttrKey sheet axis line, (AttrValue old, AttrValue new)) change = cc in
    ap (λ (c : Change). diff_of c.0 c.1.0 c.1.1) (sym same)
diff_of-change_of (SettingDiff one) change h =
    let same : ◌≡◌ {A = Change} (SettingKey (changed_setting one), (SettingValue (old_setting one), SettingValue (new_setting one))) change = cc in
    ap (λ (c : Change). diff_of c.0 c.1.0 c.1.1) (sym same) ∙ own_setting_diff one
diff_of-change_of (RuleDiff _ _) change h = absurd (cc)
diff_of-change_of (LinesDiff _ _ _ _) change h = absurd (cc)
diff_of-change_of (NewDiff _ _ _) change h = absurd (cc)
diff_of-change_of (CopyDiff _ _ _ _) change h = absurd (cc)
diff_of-change_of (DeletionDiff _ _) change h = absurd (cc)
diff_of-change_of (MoveDiff _ _ _) change h = absurd (cc)
diff_of-change_of (RenameDiff _ _ _ _) change h = absurd (cc)
diff_of-change_of (NameDiff _ _) change h = absurd (cc)

-- diffs of one change are equal
same_diff : (a b : Diff) (change : Change) → change_of a ≡ Some change → change_of b ≡ Some change → a ≡ b
same_diff a b change one two =
    let same : ◌≡◌ {A = List Diff} (a ∷ []) (b ∷ []) = sym (diff_of-change_of a change one) ∙ diff_of-change_of b change two in
    cc

-- so are lists of the same changes
same_diffs : (a b : List Diff) (changes : List Change) → map change_of a ≡ map Some changes → map change_of b ≡ map Some changes → a ≡ b
same_diffs [] [] changes one two = refl
same_diffs [] (_ ∷ _) [] one two = absurd (cc)
same_diffs [] (_ ∷ _) (_ ∷ _) one two = absurd (cc)
same_diffs (_ ∷ _) _ [] one two = absurd (cc)
same_diffs (_ ∷ _) [] (_ ∷ _) one two = absurd (cc)
same_diffs (d ∷ a) (f ∷ b) (change ∷ changes) one two =
    let first : change_of d ≡ Some change = cc in
    let second : change_of f ≡ Some change = cc in
    let rest : map change_of a ≡ map Some changes = cc in
    let others : map change_of b ≡ map Some changes = cc in
    λ i. same_diff d f change first second i ∷ same_diffs a b changes rest others i

-- the record of two workbooks is one list
pub record_unique : (earlier later : Book) (a b : List Diff) → IsRecord earlier later a → IsRecord earlier later b → a ≡ b
record_unique earlier later a b one two =
    let same : one.changes ≡ two.changes =
    same_entries key_cmp key_total exact_keys one.changes two.changes (holds _ one.ordered) (holds _ two.ordered) (λ key. one.exact key ∙ sym (two.exact key)) in
    same_diffs a b two.changes (one.made_of ∙ ap (map Some) same) two.made_of
