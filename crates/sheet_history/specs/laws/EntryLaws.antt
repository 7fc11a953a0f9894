-- The laws of entries of a workbook. What is said of lists of diffs rests on these alone, so that a further kind of entry joins by a case.
use Rattle.std.proofs.Common.{◌≡◌, ◌≢◌, ℕ, ℤ, pos, Bool, true, false, cond, ◌&&◌, List, [], ◌∷◌, map, Option, Some, None, is_some, option_map, refl, ap, sym, subst, ◌∙◌, true≢false}
use Rattle.std.specs.Prelude.{◌==◌}
use Rattle.std.specs.List.{find, IsDistinct, AllByRecursion}
use Rattle.std.specs.Cmp.{IsTotalOrder, int_cmp_total, unsigned_Decides, eq_by_cmp_equiv}
use Rattle.std.specs.declared.cmp.Ordering.{Ordering}
use Rattle.std.specs.Ordering.{int_cmp}
use Rattle.std.specs.FinMap as fin
use Rattle.std.specs.FinMap.{FinMap}
use Rattle.std.proofs.lemmas.Map.Lookups.{CmpEqualImpliesEq, exact_signed}
use Rattle.std.proofs.lemmas.Map.Views.{tells_apart}
use Rattle.base_values.specs.declared.Position.{Position}
use Rattle.base_values.specs.KeyMap.{with_entry}
use Rattle.base_values.specs.laws.KeyMap.{get-with_entry}
use Rattle.base_values.specs.Places.{is_line, is_place}
use Rattle.base_values.specs.laws.Places.{position_total, exact_positions}
use Rattle.base_axis.specs.declared.MergedCell.{MergedCell}
use Rattle.base_styles.specs.declared.Color.{Color}
use Rattle.base_styles.specs.declared.Color.TheVariants.{None as NoColor}
use Rattle.base_styles.specs.declared.Theme.{Theme}
use Rattle.base_styles.specs.Themes.{default_theme}
use Rattle.base_tables.specs.declared.Locale.{Locale}
use Rattle.base_tables.specs.declared.Locale.TheVariants.{En}
use Rattle.base_tables.specs.declared.Zone.{Zone}
use Rattle.base_tables.specs.declared.Zone.TheVariants.{Utc}
use Rattle.sheet_grid.specs.declared.Cell.{Cell}
use Rattle.sheet_grid.specs.declared.LineAttr.{LineAttr}
use Rattle.sheet_grid.specs.declared.Link.{Link}
use Rattle.sheet_grid.specs.declared.SheetState.{SheetState}
use Rattle.sheet_grid.specs.declared.SheetState.TheVariants.{Visible}
use Rattle.sheet_grid.specs.Sheet.{Sheet}
use Rattle.sheet_grid.specs.Book.{Book}
use Rattle.sheet_rules.specs.laws.EntryLaws.{both}
use Rattle.sheet_ids.specs.Ids.{HasDistinctIds}
use Rattle.sheet_history.specs.declared.diff.LineAxis.{LineAxis}
use Rattle.sheet_history.specs.declared.diff.LineAxis.TheVariants.{Rows, Columns}
use Rattle.sheet_history.specs.LineDiffs.{along_of}
use Rattle.sheet_history.specs.declared.field.SheetField.{SheetField}
use Rattle.sheet_history.specs.declared.field.SheetField.TheVariants as value
use Rattle.sheet_history.specs.Fields.{Field, with_field}
use Rattle.sheet_history.specs.Fields.Field.{ColorField, StateField, GridField, FrozenRowsField, FrozenColumnsField}
use Rattle.sheet_history.specs.laws.FieldLaws.{field_in-with_field, fields_stay, plain_field, plain_is_of}
use Rattle.sheet_history.specs.declared.setting.Setting.TheVariants as setting
use Rattle.sheet_history.specs.Settings.{SettingKind, setting_in, plain_setting, without_settings}
use Rattle.sheet_history.specs.Settings.SettingKind.{ThemeSetting, NameSetting, LocaleSetting, ZoneSetting}
use Rattle.sheet_history.specs.laws.SettingLaws.{plain_is_of_kind, setting_in-with_kind, setting_in-with_kind_other, setting_in-with_sheets, sheets-with_kind, rest-with_kind}
use Rattle.sheet_history.specs.Entries.{EntryKey, EntryValue, setting_of, sheet_id_of, sheet_entry, with_sheet_entry, cell_stands_at, is_stored, value_fits, with_changed, with_value, is_value_of, entry_found, entry_placed, entry_accepted, entry_at, put_entry, accepts, bare_sheet, frame_of}
use Rattle.sheet_history.specs.Entries.EntryKey.{CellKey, LinkKey, MergesKey, FieldKey, AttrKey, SettingKey}
use Rattle.sheet_history.specs.Entries.EntryValue.{CellValue, LinkValue, MergesValue, FieldValue, AttrValue, SettingValue}

-- the value of a key that stands for nothing
abbrev pub nothing_at : EntryKey → EntryValue
nothing_at (CellKey id place) = CellValue None
nothing_at (LinkKey id place) = LinkValue None
nothing_at (MergesKey id) = MergesValue []
nothing_at (FieldKey id field) = FieldValue (plain_field field)
nothing_at (AttrKey id axis line) = AttrValue None
nothing_at (SettingKey kind) = SettingValue (plain_setting kind)

pub decide : {G : Type 0} (b : Bool) → (b ≡ true → G) → (b ≡ false → G) → G
decide true hit miss = hit refl
decide false hit miss = miss refl

not_true : (b : Bool) → (b ≡ true → ⊥) → b ≡ false
not_true true h = absurd (h refl)
not_true false h = refl

-- ---- one entry of a map

module _ {K X : Type 0} {R : K → K → Ordering} (total : IsTotalOrder R) (exact : CmpEqualImpliesEq R) where
  get-put : (m : FinMap R X) (key : K) (w : Option X) → fin.get (with_entry m key w) key ≡ w
  get-put m key w = get-with_entry total m key w key ∙ ap (λ b. cond b w (fin.get m key)) ((eq_by_cmp_equiv total).refl key)

  get-put_other : (m : FinMap R X) (key : K) (w : Option X) (q : K) → (q ≢ key) → fin.get (with_entry m key w) q ≡ fin.get m q
  get-put_other m key w q apart =
      get-with_entry total m key w q ∙ ap (λ b. cond b w (fin.get m q)) (not_true _ (λ tie. apart (tells_apart exact q key tie)))

-- ---- one sheet

entry-with_sheet_entry : (s : Sheet) (k : EntryKey) (v : EntryValue) → value_fits k v ≡ true → sheet_entry k (with_sheet_entry k v s) ≡ v
entry-with_sheet_entry s (CellKey id place) (CellValue v) h = ap CellValue (get-put position_total exact_positions s.cells place v)
entry-with_sheet_entry s (LinkKey id place) (LinkValue v) h = ap LinkValue (get-put position_total exact_positions s.links place v)
entry-with_sheet_entry s (MergesKey id) (MergesValue v) h = refl
entry-with_sheet_entry s (FieldKey id field) (FieldValue v) h = ap FieldValue (field_in-with_field field v s h)
entry-with_sheet_entry s (AttrKey id Rows line) (AttrValue v) h = ap AttrValue (get-put int_cmp_total exact_signed s.rows line v)
entry-with_sheet_entry s (AttrKey id Columns line) (AttrValue v) h = ap AttrValue (get-put int_cmp_total exact_signed s.columns line v)
entry-with_sheet_entry s _ _ h = absurd (let never : false ≡ true = h in cc)

cell_apart : (s : Sheet) (id : ℕ) (place : Position) (v : Option Cell) (q : EntryKey) → sheet_id_of q ≡ id → (q ≢ CellKey id place)
    → sheet_entry q (with_sheet_entry (CellKey id place) (CellValue v) s) ≡ sheet_entry q s
cell_apart s id place v (CellKey j other) ids apart = ap CellValue (get-put_other position_total exact_positions s.cells place v other (λ e. apart (λ i. CellKey (ids i) (e i))))
cell_apart s id place v (FieldKey j field) ids apart = ap FieldValue (fields_stay field (with_sheet_entry (CellKey id place) (CellValue v) s) s refl refl refl refl refl)
cell_apart s id place v (AttrKey j Rows line) ids apart = refl
cell_apart s id place v (AttrKey j Columns line) ids apart = refl
cell_apart s id place v _ ids apart = refl

link_apart : (s : Sheet) (id : ℕ) (place : Position) (v : Option Link) (q : EntryKey) → sheet_id_of q ≡ id → (q ≢ LinkKey id place)
    → sheet_entry q (with_sheet_entry (LinkKey id place) (LinkValue v) s) ≡ sheet_entry q s
link_apart s id place v (LinkKey j other) ids apart = ap LinkValue (get-put_other position_total exact_positions s.links place v other (λ e. apart (λ i. LinkKey (ids i) (e i))))
link_apart s id place v (FieldKey j field) ids apart = ap FieldValue (fields_stay field (with_sheet_entry (LinkKey id place) (LinkValue v) s) s refl refl refl refl refl)
link_apart s id place v (AttrKey j Rows line) ids apart = refl
link_apart s id place v (AttrKey j Columns line) ids apart = refl
link_apart s id place v _ ids apart = refl

merges_apart : (s : Sheet) (id : ℕ) (v : List MergedCell) (q : EntryKey) → sheet_id_of q ≡ id → (q ≢ MergesKey id)
    → sheet_entry q (with_sheet_entry (MergesKey id) (MergesValue v) s) ≡ sheet_entry q s
merges_apart s id v (MergesKey j) ids apart = absurd (apart (ap MergesKey ids))
merges_apart s id v (FieldKey j field) ids apart = ap FieldValue (fields_stay field (with_sheet_entry (MergesKey id) (MergesValue v) s) s refl refl refl refl refl)
merges_apart s id v (AttrKey j Rows line) ids apart = refl
merges_apart s id v (AttrKey j Columns line) ids apart = refl
merges_apart s id v _ ids apart = refl

-- a field that gets a value leaves what lines have
rows_stay : (field : Field) (v : SheetField) (s : Sheet) → (with_field field v s).rows ≡ s.rows
rows_stay ColorField (value.Color v) s = refl
rows_stay StateField (value.State v) s = refl
rows_stay GridField (value.GridLines v) s = refl
rows_stay FrozenRowsField (value.FrozenRows v) s = refl
rows_stay FrozenColumnsField (value.FrozenColumns v) s = refl
rows_stay _ _ s = refl

columns_stay : (field : Field) (v : SheetField) (s : Sheet) → (with_field field v s).columns ≡ s.columns
columns_stay ColorField (value.Color v) s = refl
columns_stay StateField (value.State v) s = refl
columns_stay GridField (value.GridLines v) s = refl
columns_stay FrozenRowsField (value.FrozenRows v) s = refl
columns_stay FrozenColumnsField (value.FrozenColumns v) s = refl
columns_stay _ _ s = refl

field_apart : (s : Sheet) (id : ℕ) (field : Field) (v : SheetField) (q : EntryKey) → sheet_id_of q ≡ id → (q ≢ FieldKey id field)
    → sheet_entry q (with_sheet_entry (FieldKey id field) (FieldValue v) s) ≡ sheet_entry q s
field_apart s id field v (AttrKey j Rows line) ids apart = ap (λ (lines : FinMap int_cmp LineAttr). AttrValue (fin.get lines line)) (rows_stay field v s)
field_apart s id field v (AttrKey j Columns line) ids apart = ap (λ (lines : FinMap int_cmp LineAttr). AttrValue (fin.get lines line)) (columns_stay field v s)
field_apart s id ColorField (value.Color v) (FieldKey j ColorField) ids apart = absurd (apart (ap (λ n. FieldKey n ColorField) ids))
field_apart s id ColorField (value.Color v) _ ids apart = refl
field_apart s id StateField (value.State v) (FieldKey j StateField) ids apart = absurd (apart (ap (λ n. FieldKey n StateField) ids))
field_apart s id StateField (value.State v) _ ids apart = refl
field_apart s id GridField (value.GridLines v) (FieldKey j GridField) ids apart = absurd (apart (ap (λ n. FieldKey n GridField) ids))
field_apart s id GridField (value.GridLines v) _ ids apart = refl
field_apart s id FrozenRowsField (value.FrozenRows v) (FieldKey j FrozenRowsField) ids apart = absurd (apart (ap (λ n. FieldKey n FrozenRowsField) ids))
field_apart s id FrozenRowsField (value.FrozenRows v) _ ids apart = refl
field_apart s id FrozenColumnsField (value.FrozenColumns v) (FieldKey j FrozenColumnsField) ids apart = absurd (apart (ap (λ n. FieldKey n FrozenColumnsField) ids))
field_apart s id FrozenColumnsField (value.FrozenColumns v) _ ids apart = refl
field_apart s id _ _ _ ids apart = refl

attr_apart : (s : Sheet) (id : ℕ) (axis : LineAxis) (line : ℤ) (v : Option LineAttr) (q : EntryKey) → sheet_id_of q ≡ id → (q ≢ AttrKey id axis line)
    → sheet_entry q (with_sheet_entry (AttrKey id axis line) (AttrValue v) s) ≡ sheet_entry q s
attr_apart s id Rows line v (AttrKey j Rows other) ids apart = ap AttrValue (get-put_other int_cmp_total exact_signed s.rows line v other (λ e. apart (λ i. AttrKey (ids i) Rows (e i))))
attr_apart s id Rows line v (AttrKey j Columns other) ids apart = refl
attr_apart s id Rows line v (FieldKey j field) ids apart = ap FieldValue (fields_stay field (with_sheet_entry (AttrKey id Rows line) (AttrValue v) s) s refl refl refl refl refl)
attr_apart s id Rows line v _ ids apart = refl
attr_apart s id Columns line v (AttrKey j Columns other) ids apart = ap AttrValue (get-put_other int_cmp_total exact_signed s.columns line v other (λ e. apart (λ i. AttrKey (ids i) Columns (e i))))
attr_apart s id Columns line v (AttrKey j Rows other) ids apart = refl
attr_apart s id Columns line v (FieldKey j field) ids apart = ap FieldValue (fields_stay field (with_sheet_entry (AttrKey id Columns line) (AttrValue v) s) s refl refl refl refl refl)
attr_apart s id Columns line v _ ids apart = refl

entry-with_sheet_entry_other : (s : Sheet) (k : EntryKey) (v : EntryValue) (q : EntryKey) → sheet_id_of q ≡ sheet_id_of k → (q ≢ k) → sheet_entry q (with_sheet_entry k v s) ≡ sheet_entry q s
entry-with_sheet_entry_other s (CellKey id place) (CellValue v) q ids apart = cell_apart s id place v q ids apart
entry-with_sheet_entry_other s (LinkKey id place) (LinkValue v) q ids apart = link_apart s id place v q ids apart
entry-with_sheet_entry_other s (MergesKey id) (MergesValue v) q ids apart = merges_apart s id v q ids apart
entry-with_sheet_entry_other s (FieldKey id field) (FieldValue v) q ids apart = field_apart s id field v q ids apart
entry-with_sheet_entry_other s (AttrKey id Rows line) (AttrValue v) q ids apart = attr_apart s id Rows line v q ids apart
entry-with_sheet_entry_other s (AttrKey id Columns line) (AttrValue v) q ids apart = attr_apart s id Columns line v q ids apart
entry-with_sheet_entry_other s _ _ q ids apart = refl

bare-with_field : (field : Field) (v : SheetField) (s : Sheet) → bare_sheet (with_field field v s) ≡ bare_sheet s
bare-with_field ColorField (value.Color v) s = refl
bare-with_field StateField (value.State v) s = refl
bare-with_field GridField (value.GridLines v) s = refl
bare-with_field FrozenRowsField (value.FrozenRows v) s = refl
bare-with_field FrozenColumnsField (value.FrozenColumns v) s = refl
bare-with_field _ _ s = refl

-- what is no entry stays
pub bare-with_sheet_entry : (k : EntryKey) (v : EntryValue) (s : Sheet) → bare_sheet (with_sheet_entry k v s) ≡ bare_sheet s
bare-with_sheet_entry (CellKey id place) (CellValue v) s = refl
bare-with_sheet_entry (LinkKey id place) (LinkValue v) s = refl
bare-with_sheet_entry (MergesKey id) (MergesValue v) s = refl
bare-with_sheet_entry (FieldKey id field) (FieldValue v) s = bare-with_field field v s
bare-with_sheet_entry (AttrKey id Rows line) (AttrValue v) s = refl
bare-with_sheet_entry (AttrKey id Columns line) (AttrValue v) s = refl
bare-with_sheet_entry _ _ s = refl

pub id-with_sheet_entry : (k : EntryKey) (v : EntryValue) (s : Sheet) → (with_sheet_entry k v s).id ≡ s.id
id-with_sheet_entry k v s = ap (λ t. t.id) (bare-with_sheet_entry k v s)

nothing_fits : (k : EntryKey) (v : EntryValue) → value_fits k v ≡ true → value_fits k (nothing_at k) ≡ true
nothing_fits (CellKey id place) (CellValue v) h = λ i. (both (is_place place) (cell_stands_at place v) h).0 i && true
nothing_fits (LinkKey id place) (LinkValue v) h = h
nothing_fits (MergesKey id) (MergesValue v) h = refl
nothing_fits (FieldKey id field) (FieldValue v) h = plain_is_of field
nothing_fits (AttrKey id axis line) (AttrValue v) h = λ i. (both (is_line (along_of axis).last line) (is_stored v) h).0 i && true
nothing_fits _ _ h = absurd (let never : false ≡ true = h in cc)

abbrev cell_of : EntryValue → Option Cell
cell_of (CellValue v) = v
cell_of _ = None

abbrev link_of : EntryValue → Option Link
link_of (LinkValue v) = v
link_of _ = None

abbrev merges_of : EntryValue → List MergedCell
merges_of (MergesValue v) = v
merges_of _ = []

abbrev attr_of : EntryValue → Option LineAttr
attr_of (AttrValue v) = v
attr_of _ = None

abbrev color_of : EntryValue → Color
color_of (FieldValue (value.Color v)) = v
color_of _ = NoColor

abbrev state_of : EntryValue → SheetState
state_of (FieldValue (value.State v)) = v
state_of _ = Visible

abbrev grid_of : EntryValue → Bool
grid_of (FieldValue (value.GridLines v)) = v
grid_of _ = true

abbrev frozen_rows_of : EntryValue → ℤ
frozen_rows_of (FieldValue (value.FrozenRows v)) = v
frozen_rows_of _ = pos 0

abbrev frozen_columns_of : EntryValue → ℤ
frozen_columns_of (FieldValue (value.FrozenColumns v)) = v
frozen_columns_of _ = pos 0

-- a sheet is its entries and the rest
same_sheet : (s t : Sheet) → bare_sheet s ≡ bare_sheet t → ((k : EntryKey) → setting_of k ≡ None → sheet_id_of k ≡ s.id → sheet_entry k s ≡ sheet_entry k t) → s ≡ t
same_sheet s t e entries =
    let cells : s.cells ≡ t.cells = fin.same_map position_total exact_positions s.cells t.cells (λ place. ap cell_of (entries (CellKey s.id place) refl refl)) in
    let links : s.links ≡ t.links = fin.same_map position_total exact_positions s.links t.links (λ place. ap link_of (entries (LinkKey s.id place) refl refl)) in
    let rows : s.rows ≡ t.rows = fin.same_map int_cmp_total exact_signed s.rows t.rows (λ line. ap attr_of (entries (AttrKey s.id Rows line) refl refl)) in
    let columns : s.columns ≡ t.columns = fin.same_map int_cmp_total exact_signed s.columns t.columns (λ line. ap attr_of (entries (AttrKey s.id Columns line) refl refl)) in
    let merges : s.merges ≡ t.merges = ap merges_of (entries (MergesKey s.id) refl refl) in
    let color : s.color ≡ t.color = ap color_of (entries (FieldKey s.id ColorField) refl refl) in
    let state : s.state ≡ t.state = ap state_of (entries (FieldKey s.id StateField) refl refl) in
    let grid : s.show_grid_lines ≡ t.show_grid_lines = ap grid_of (entries (FieldKey s.id GridField) refl refl) in
    let frozen_rows : s.frozen_rows ≡ t.frozen_rows = ap frozen_rows_of (entries (FieldKey s.id FrozenRowsField) refl refl) in
    let frozen_columns : s.frozen_columns ≡ t.frozen_columns = ap frozen_columns_of (entries (FieldKey s.id FrozenColumnsField) refl refl) in
    λ i. record (e i) {
      state = state i;
      color = color i;
      show_grid_lines = grid i;
      frozen_rows = frozen_rows i;
      frozen_columns = frozen_columns i;
      cells = cells i;
      links = links i;
      rows = rows i;
      columns = columns i;
      merges = merges i;
    }

-- ---- the settings

-- a key that names a setting is its key
pub key_of_setting : (k : EntryKey) (kind : SettingKind) → setting_of k ≡ Some kind → k ≡ SettingKey kind
key_of_setting (SettingKey one) kind is = let same : one ≡ kind = cc in ap SettingKey same
key_of_setting _ kind is = absurd (let never : ◌≡◌ {A = Option SettingKind} None (Some kind) = is in cc)

-- what may stand at a key of a sheet is of no setting
pub of_sheet : (k : EntryKey) (v : EntryValue) → value_fits k v ≡ true → setting_of k ≡ None
of_sheet (CellKey id place) v h = refl
of_sheet (LinkKey id place) v h = refl
of_sheet (MergesKey id) v h = refl
of_sheet (FieldKey id field) v h = refl
of_sheet (AttrKey id axis line) v h = refl
of_sheet (SettingKey kind) v h = absurd (let never : false ≡ true = h in cc)

setting-with_value : (kind : SettingKind) (v : EntryValue) (w : Book) → is_value_of kind v ≡ true → SettingValue (setting_in kind (with_value kind v w)) ≡ v
setting-with_value kind (SettingValue v) w h = ap SettingValue (setting_in-with_kind kind v w h)
setting-with_value kind _ w h = absurd (let never : false ≡ true = h in cc)

setting-with_value_other : (kind : SettingKind) (v : EntryValue) (w : Book) (other : SettingKind) → (other ≢ kind)
    → setting_in other (with_value kind v w) ≡ setting_in other w
setting-with_value_other kind (SettingValue v) w other apart = setting_in-with_kind_other kind v w other apart
setting-with_value_other kind _ w other apart = refl

pub sheets-with_value : (kind : SettingKind) (v : EntryValue) (w : Book) → (with_value kind v w).worksheets ≡ w.worksheets
sheets-with_value kind (SettingValue v) w = sheets-with_kind kind v w
sheets-with_value kind _ w = refl

rest-with_value : (kind : SettingKind) (v : EntryValue) (w : Book) → without_settings (with_value kind v w) ≡ without_settings w
rest-with_value kind (SettingValue v) w = rest-with_kind kind v w
rest-with_value kind _ w = refl

abbrev theme_of : Option EntryValue → Theme
theme_of (Some (SettingValue (setting.Theme v))) = v
theme_of _ = default_theme

abbrev title_of : Option EntryValue → List ℕ
title_of (Some (SettingValue (setting.Name v))) = v
title_of _ = []

abbrev locale_of : Option EntryValue → Locale
locale_of (Some (SettingValue (setting.Locale v))) = v
locale_of _ = En

abbrev zone_of : Option EntryValue → Zone
zone_of (Some (SettingValue (setting.Zone v))) = v
zone_of _ = Utc

-- ---- sheets by their ids

abbrev pub by_id : ℕ → List Sheet → Option Sheet
by_id id sheets = find (λ (s : Sheet). s.id == id) sheets

module _ (f : Sheet → Sheet) (keeps : (s : Sheet) → (f s).id ≡ s.id) where
  -- the sheet of the id is changed
  pub found-changed : (id : ℕ) (ss : List Sheet) → by_id id (with_changed id f ss) ≡ option_map f (by_id id ss)
  found-changed id [] = refl
  found-changed id (s ∷ ss) =
      decide (s.id == id)
      (λ hit. (λ i. by_id id (cond (hit i) (f s ∷ ss) (s ∷ with_changed id f ss)))
      ∙ ap (λ b. cond b (Some (f s)) (by_id id ss)) (ap (λ n. n == id) (keeps s) ∙ hit)
      ∙ ap (λ b. option_map f (cond b (Some s) (by_id id ss))) (sym hit))
      (λ miss. (λ i. by_id id (cond (miss i) (f s ∷ ss) (s ∷ with_changed id f ss)))
      ∙ ap (λ b. cond b (Some s) (by_id id (with_changed id f ss))) miss
      ∙ found-changed id ss
      ∙ ap (λ b. option_map f (cond b (Some s) (by_id id ss))) (sym miss))

  -- those of other ids stay
  pub found-changed_other : (id q : ℕ) → (q ≢ id) → (ss : List Sheet) → by_id q (with_changed id f ss) ≡ by_id q ss
  found-changed_other id q apart [] = refl
  found-changed_other id q apart (s ∷ ss) =
      decide (s.id == id)
      (λ hit.
      let missed : s.id == q ≡ false = not_true _ (λ tie. apart (sym ((unsigned_Decides s.id q).0 tie) ∙ (unsigned_Decides s.id id).0 hit)) in
      (λ i. by_id q (cond (hit i) (f s ∷ ss) (s ∷ with_changed id f ss)))
      ∙ ap (λ b. cond b (Some (f s)) (by_id q ss)) (ap (λ n. n == q) (keeps s) ∙ missed)
      ∙ ap (λ b. cond b (Some s) (by_id q ss)) (sym missed))
      (λ miss. (λ i. by_id q (cond (miss i) (f s ∷ ss) (s ∷ with_changed id f ss)))
      ∙ ap (cond (s.id == q) (Some s)) (found-changed_other id q apart ss))

  -- what does not look at the change stays
  pub map-changed : {Y : Type 0} (see : Sheet → Y) → ((s : Sheet) → see (f s) ≡ see s) → (id : ℕ) (ss : List Sheet) → map see (with_changed id f ss) ≡ map see ss
  map-changed see same id [] = refl
  map-changed see same id (s ∷ ss) =
      decide (s.id == id)
      (λ hit. (λ i. map see (cond (hit i) (f s ∷ ss) (s ∷ with_changed id f ss))) ∙ ap (λ t. t ∷ map see ss) (same s))
      (λ miss. (λ i. map see (cond (miss i) (f s ∷ ss) (s ∷ with_changed id f ss))) ∙ ap (λ ts. see s ∷ ts) (map-changed see same id ss))

is_some-bare : (id : ℕ) (ss : List Sheet) → is_some (by_id id ss) ≡ is_some (by_id id (map bare_sheet ss))
is_some-bare id [] = refl
is_some-bare id (s ∷ ss) = elim (s.id == id) as (λ b. is_some (cond b (Some s) (by_id id ss)) ≡ is_some (cond b (Some (bare_sheet s)) (by_id id (map bare_sheet ss)))) [ true ↦ refl | false ↦ is_some-bare id ss ]

is_some-map : {A B : Type 0} (f : A → B) (o : Option A) → is_some (option_map f o) ≡ is_some o
is_some-map f None = refl
is_some-map f (Some x) = refl

map_twice : {A B C : Type 0} (f : A → B) (g : B → C) (o : Option A) → option_map g (option_map f o) ≡ option_map (λ x. g (f x)) o
map_twice f g None = refl
map_twice f g (Some x) = refl

map_same : {A B : Type 0} (f g : A → B) → ((x : A) → f x ≡ g x) → (o : Option A) → option_map f o ≡ option_map g o
map_same f g e None = refl
map_same f g e (Some x) = ap Some (e x)

map_constant : {A B : Type 0} (f : A → B) (y : B) → ((x : A) → f x ≡ y) → (o : Option A) → is_some o ≡ true → option_map f o ≡ Some y
map_constant f y e None h = absurd (cc)
map_constant f y e (Some x) h = ap Some (e x)

-- ---- the laws

found-placed : (o : Option SettingKind) (w : Book) (k : EntryKey) (v : EntryValue) → entry_accepted o k v w ≡ true → entry_found o k (entry_placed o k v w) ≡ Some v
found-placed (Some kind) w k v h = λ i. Some (setting-with_value kind v w h i)
found-placed None w k v h =
    let id : ℕ = sheet_id_of k in
    let parts = both (is_some (by_id id w.worksheets)) (value_fits k v) h in
    ap (option_map (sheet_entry k)) (found-changed (with_sheet_entry k v) (id-with_sheet_entry k v) id w.worksheets)
    ∙ map_twice (with_sheet_entry k v) (sheet_entry k) (by_id id w.worksheets)
    ∙ map_constant (λ s. sheet_entry k (with_sheet_entry k v s)) v (λ s. entry-with_sheet_entry s k v parts.1) (by_id id w.worksheets) parts.0

-- what was put is got
pub entry_at-put_entry : (w : Book) (k : EntryKey) (v : EntryValue) → accepts w k v ≡ true → entry_at (put_entry w k v) k ≡ Some v
unfolding entry_at put_entry accepts
entry_at-put_entry w k v h = found-placed (setting_of k) w k v h

found-placed_other : (o p : Option SettingKind) (w : Book) (k : EntryKey) (v : EntryValue) (q : EntryKey) → setting_of k ≡ o → setting_of q ≡ p → (q ≢ k)
    → entry_found p q (entry_placed o k v w) ≡ entry_found p q w
found-placed_other (Some one) (Some two) w k v q own is apart =
    let others : (two ≢ one) = λ same. apart (key_of_setting q two is ∙ ap SettingKey same ∙ sym (key_of_setting k one own)) in
    λ i. Some (SettingValue (setting-with_value_other one v w two others i))
found-placed_other (Some one) None w k v q own is apart = λ i. option_map (sheet_entry q) (by_id (sheet_id_of q) (sheets-with_value one v w i))
found-placed_other None (Some two) w k v q own is apart =
    λ i. Some (SettingValue (setting_in-with_sheets two w (with_changed (sheet_id_of k) (with_sheet_entry k v) w.worksheets) i))
found-placed_other None None w k v q own is apart =
    let id : ℕ = sheet_id_of k in
    let other : ℕ = sheet_id_of q in
    let change : Sheet → Sheet = with_sheet_entry k v in
    decide (other == id)
    (λ hit.
    let same : other ≡ id = (unsigned_Decides other id).0 hit in
    (λ i. option_map (sheet_entry q) (by_id (same i) (with_changed id change w.worksheets)))
    ∙ ap (option_map (sheet_entry q)) (found-changed change (id-with_sheet_entry k v) id w.worksheets)
    ∙ map_twice change (sheet_entry q) (by_id id w.worksheets)
    ∙ map_same (λ s. sheet_entry q (change s)) (sheet_entry q) (λ s. entry-with_sheet_entry_other s k v q same apart) (by_id id w.worksheets)
    ∙ (λ i. option_map (sheet_entry q) (by_id (sym same i) w.worksheets)))
    (λ miss.
    let ids : (other ≢ id) = λ e. true≢false (sym ((unsigned_Decides other id).1 e) ∙ miss) in
    ap (option_map (sheet_entry q)) (found-changed_other change (id-with_sheet_entry k v) id other ids w.worksheets))

-- the entry of every other key stays
pub entry_at-put_entry_other : (w : Book) (k : EntryKey) (v : EntryValue) (q : EntryKey) → (q ≢ k) → entry_at (put_entry w k v) q ≡ entry_at w q
unfolding entry_at put_entry
entry_at-put_entry_other w k v q apart = found-placed_other (setting_of k) (setting_of q) w k v q refl refl apart

frame_of-placed : (o : Option SettingKind) (w : Book) (k : EntryKey) (v : EntryValue) → frame_of (entry_placed o k v w) ≡ frame_of w
unfolding frame_of
frame_of-placed None w k v =
    λ i. record (without_settings w) { worksheets = map-changed (with_sheet_entry k v) (id-with_sheet_entry k v) bare_sheet (bare-with_sheet_entry k v) (sheet_id_of k) w.worksheets i }
frame_of-placed (Some kind) w k v = λ i. record (rest-with_value kind v w i) { worksheets = map bare_sheet (sheets-with_value kind v w i) }

-- what is no entry stays
pub frame_of-put_entry : (w : Book) (k : EntryKey) (v : EntryValue) → frame_of (put_entry w k v) ≡ frame_of w
unfolding put_entry
frame_of-put_entry w k v = frame_of-placed (setting_of k) w k v

is_there-frame_of : (w w2 : Book) (id : ℕ) → frame_of w ≡ frame_of w2 → is_some (by_id id w.worksheets) ≡ is_some (by_id id w2.worksheets)
unfolding frame_of
is_there-frame_of w w2 id e = is_some-bare id w.worksheets ∙ ap (λ (b : Book). is_some (by_id id b.worksheets)) e ∙ sym (is_some-bare id w2.worksheets)

accepted-frame_of : (o : Option SettingKind) (w w2 : Book) (k : EntryKey) (v : EntryValue) → frame_of w ≡ frame_of w2 → entry_accepted o k v w ≡ entry_accepted o k v w2
accepted-frame_of None w w2 k v e = ap (λ b. b && value_fits k v) (is_there-frame_of w w2 (sheet_id_of k) e)
accepted-frame_of (Some kind) w w2 k v e = refl

-- what can be put, and which entries are there, is a matter of the frame
pub accepts-frame_of : (w w2 : Book) (k : EntryKey) (v : EntryValue) → frame_of w ≡ frame_of w2 → accepts w k v ≡ accepts w2 k v
unfolding accepts
accepts-frame_of w w2 k v e = accepted-frame_of (setting_of k) w w2 k v e

is_some-found : (o : Option SettingKind) (w w2 : Book) (k : EntryKey) → frame_of w ≡ frame_of w2 → is_some (entry_found o k w) ≡ is_some (entry_found o k w2)
is_some-found None w w2 k e =
    is_some-map (sheet_entry k) (by_id (sheet_id_of k) w.worksheets) ∙ is_there-frame_of w w2 (sheet_id_of k) e
    ∙ sym (is_some-map (sheet_entry k) (by_id (sheet_id_of k) w2.worksheets))
is_some-found (Some kind) w w2 k e = refl

pub is_some-entry_at : (w w2 : Book) (k : EntryKey) → frame_of w ≡ frame_of w2 → is_some (entry_at w k) ≡ is_some (entry_at w2 k)
unfolding entry_at
is_some-entry_at w w2 k e = is_some-found (setting_of k) w w2 k e

accepted-nothing_at : (o : Option SettingKind) (w : Book) (k : EntryKey) (v : EntryValue) → setting_of k ≡ o → entry_accepted o k v w ≡ true
    → entry_accepted o k (nothing_at k) w ≡ true
accepted-nothing_at None w k v is h =
    let parts = both (is_some (by_id (sheet_id_of k) w.worksheets)) (value_fits k v) h in
    λ i. parts.0 i && nothing_fits k v parts.1 i
accepted-nothing_at (Some kind) w k v is h = (λ i. is_value_of kind (nothing_at (key_of_setting k kind is i))) ∙ plain_is_of_kind kind

-- where something can be put, so can nothing
pub accepts-nothing_at : (w : Book) (k : EntryKey) (v : EntryValue) → accepts w k v ≡ true → accepts w k (nothing_at k) ≡ true
unfolding accepts
accepts-nothing_at w k v h = accepted-nothing_at (setting_of k) w k v refl h

-- a setting is there, and takes each value of its own
pub entry_at-setting : (w : Book) (kind : SettingKind) → entry_at w (SettingKey kind) ≡ Some (SettingValue (setting_in kind w))
unfolding entry_at
entry_at-setting w kind = refl

pub accepts-setting : (w : Book) (kind : SettingKind) (v : EntryValue) → is_value_of kind v ≡ true → accepts w (SettingKey kind) v ≡ true
unfolding accepts
accepts-setting w kind v h = h

none_there : (id : ℕ) (ss ts : List Sheet) → map bare_sheet ss ≡ map bare_sheet ts → by_id id ss ≡ None → by_id id ts ≡ None
none_there id ss ts e none = go (by_id id ts) (sym (is_some-bare id ts ∙ ap (λ l. is_some (by_id id l)) (sym e) ∙ sym (is_some-bare id ss) ∙ ap is_some none))
  where
    go : (o : Option Sheet) → false ≡ is_some o → o ≡ None
    go None h = refl
    go (Some s) h = absurd (true≢false (sym h))

-- an id that differs from all others is not found among them
not_found : (id : ℕ) (ss : List Sheet) → AllByRecursion (λ n. (id == n) ≡ false) (map (λ (s : Sheet). s.id) ss) → by_id id ss ≡ None
not_found id [] others = refl
not_found id (s ∷ ss) others =
    let missed : s.id == id ≡ false = not_true _ (λ tie. true≢false (sym ((unsigned_Decides id s.id).1 (sym ((unsigned_Decides s.id id).0 tie))) ∙ others.0)) in
    (λ i. cond (missed i) (Some s) (by_id id ss)) ∙ not_found id ss others.1

same_sheets : (ss ts : List Sheet) → IsDistinct ◌==◌ (map (λ (s : Sheet). s.id) ss) → map bare_sheet ss ≡ map bare_sheet ts
    → ((k : EntryKey) → setting_of k ≡ None → option_map (sheet_entry k) (by_id (sheet_id_of k) ss) ≡ option_map (sheet_entry k) (by_id (sheet_id_of k) ts)) → ss ≡ ts
unfolding IsDistinct
same_sheets [] [] own e entries = refl
same_sheets [] (t ∷ ts) own e entries = absurd (cc)
same_sheets (s ∷ ss) [] own e entries = absurd (cc)
same_sheets (s ∷ ss) (t ∷ ts) own e entries =
    let heads : bare_sheet s ≡ bare_sheet t = cc in
    let tails : map bare_sheet ss ≡ map bare_sheet ts = cc in
    let ids : s.id ≡ t.id = ap (λ x. x.id) heads in
    let mine : s.id == s.id ≡ true = (unsigned_Decides s.id s.id).1 refl in
    let other : t.id == s.id ≡ true = (unsigned_Decides t.id s.id).1 (sym ids) in
    let one : s ≡ t = same_sheet s t heads (λ k none own_key.
    let here : Some (sheet_entry k s) ≡ Some (sheet_entry k t) =
    (λ i. option_map (sheet_entry k) (cond (sym mine i) (Some s) (by_id s.id ss)))
    ∙ (λ i. option_map (sheet_entry k) (by_id (sym own_key i) (s ∷ ss))) ∙ entries k none
    ∙ (λ i. option_map (sheet_entry k) (by_id (own_key i) (t ∷ ts)))
    ∙ (λ i. option_map (sheet_entry k) (cond (other i) (Some t) (by_id s.id ts))) in
    cc) in
    let rest : ss ≡ ts = same_sheets ss ts own.1 tails (λ k of_one.
    decide (s.id == sheet_id_of k)
    (λ hit.
    let is : s.id ≡ sheet_id_of k = (unsigned_Decides s.id (sheet_id_of k)).0 hit in
    let none : by_id (sheet_id_of k) ss ≡ None = subst (λ n. by_id n ss ≡ None) is (not_found s.id ss own.0) in
    ap (option_map (sheet_entry k)) (none ∙ sym (none_there (sheet_id_of k) ss ts tails none)))
    (λ miss.
    let missed : t.id == sheet_id_of k ≡ false = ap (λ n. n == sheet_id_of k) (sym ids) ∙ miss in
    (λ i. option_map (sheet_entry k) (cond (sym miss i) (Some s) (by_id (sheet_id_of k) ss))) ∙ entries k of_one
    ∙ (λ i. option_map (sheet_entry k) (cond (missed i) (Some t) (by_id (sheet_id_of k) ts))))) in
    λ i. one i ∷ rest i

-- a workbook is its frame and its entries
pub same_book : (w w2 : Book) → HasDistinctIds w → frame_of w ≡ frame_of w2 → ((k : EntryKey) → entry_at w k ≡ entry_at w2 k) → w ≡ w2
unfolding frame_of entry_at
same_book w w2 own e entries =
    let sheets : w.worksheets ≡ w2.worksheets = same_sheets w.worksheets w2.worksheets own (ap (λ (b : Book). b.worksheets) e)
    (λ k none. subst (λ o. entry_found o k w ≡ entry_found o k w2) none (entries k)) in
    let theme : w.theme ≡ w2.theme = ap theme_of (entries (SettingKey ThemeSetting)) in
    let name : w.name ≡ w2.name = ap title_of (entries (SettingKey NameSetting)) in
    let locale : w.locale ≡ w2.locale = ap locale_of (entries (SettingKey LocaleSetting)) in
    let zone : w.zone ≡ w2.zone = ap zone_of (entries (SettingKey ZoneSetting)) in
    λ i. record (e i) { theme = theme i; name = name i; locale = locale i; zone = zone i; worksheets = sheets i }
