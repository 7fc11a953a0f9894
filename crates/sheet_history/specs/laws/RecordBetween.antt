-- The record of two workbooks is what they differ in, computed.
use Rattle.std.proofs.Common.{◌≡◌, ℕ, Bool, true, false, cond, ◌||◌, List, [], ◌∷◌, ◌++◌, map, Option, Some, None, refl, ap, sym, ◌∙◌, true≢false}
use Rattle.std.specs.Prelude.{◌==◌}
use Rattle.std.specs.List.{list_any, filter_map, cons_option, flat_map}
use Rattle.std.specs.Option.{option_map}
use Rattle.std.specs.Cmp.{IsTotalOrder, int_cmp_total, unsigned_Decides}
use Rattle.std.specs.Ordering.{eq_by_cmp, int_cmp}
use Rattle.std.specs.declared.cmp.Ordering.{Ordering}
use Rattle.std.specs.FinMap as fin
use Rattle.std.specs.FinMap.{entries, get, get-entries, get-from_entries, entries_sorted, find}
use Rattle.std.specs.FinMap.Entries.{same_entries}
use Rattle.std.proofs.lemmas.List.Folds.{list_any-append}
use Rattle.std.proofs.lemmas.Map.Lookups.{CmpEqualImpliesEq, exact_signed}
use Rattle.base_values.specs.Places.{position_cmp}
use Rattle.base_values.specs.laws.Places.{position_total, exact_positions}
use Rattle.base_maps.specs.laws.Keys.{one_key, own_key}
use Rattle.sheet_grid.specs.Sheet.{Sheet}
use Rattle.sheet_grid.specs.Book.{Book}
use Rattle.sheet_ids.specs.Ids.{sheet_of}
use Rattle.sheet_history.specs.declared.diff.Diff.{Diff}
use Rattle.sheet_history.specs.declared.diff.LineAxis.TheVariants.{Rows, Columns}
use Rattle.sheet_history.specs.Entries.{EntryKey, EntryValue, key_cmp, setting_of, sheet_id_of, sheet_entry, entry_found, entry_at}
use Rattle.sheet_history.specs.Entries.EntryKey.{CellKey, LinkKey, MergesKey, FieldKey, AttrKey, SettingKey}
use Rattle.sheet_history.specs.Entries.EntryValue.{CellValue, LinkValue, AttrValue}
use Rattle.sheet_history.specs.Fields.{Field}
use Rattle.sheet_history.specs.Fields.Field.{ColorField, StateField, GridField, FrozenRowsField, FrozenColumnsField}
use Rattle.sheet_history.specs.Settings.{SettingKind, all_settings}
use Rattle.sheet_history.specs.Settings.SettingKind.{ThemeSetting, NameSetting, LocaleSetting, ZoneSetting}
use Rattle.sheet_history.specs.Records.{changed_entry, Change, change_of, IsRecord, diff_of, attr_keys, single_keys, sheet_keys, book_keys, change_at, changes_between, record_between}
use Rattle.sheet_history.specs.laws.EntryLaws.{decide, by_id, nothing_at}
use Rattle.sheet_history.specs.laws.RecordLaws.{holds, key_total, exact_keys, diff_of-change_of}
use Rattle.sheet_history.specs.laws.ValueEquals.{same_value_decides}

neither : (a b : Bool) → (a || b) ≡ false → (a ≡ false) × (b ≡ false)
neither false b h = (refl, h)
neither true b h = absurd (true≢false h)

-- ---- what is found among what some keys have

-- a key is one of some keys
abbrev is_among : {K : Type 0} → (K → K → Ordering) → K → List K → Bool
is_among R key keys = list_any (eq_by_cmp R key) keys

module _ {K X : Type 0} (R : K → K → Ordering) (total : IsTotalOrder R) (exact : CmpEqualImpliesEq R) where
  module _ (has : K → Option X) where
    -- what some keys have, at each its own
    abbrev pub entries_of : List K → List (K × X)
    entries_of keys = filter_map (λ key. option_map (λ value. (key, value)) (has key)) keys

    -- what is found at a key, where one more key has this
    abbrev found_behind : K → K → Option X → List K → Option X
    found_behind q k o ks = find R q (cons_option (option_map (λ value. (k, value)) o) (entries_of ks))

    either_none : (b : Bool) (q : K) → has q ≡ None → cond b (has q) None ≡ has q
    either_none true q h = refl
    either_none false q h = sym h

    front_found : (q k : K) (ks : List K) → find R q (entries_of ks) ≡ cond (is_among R q ks) (has q) None
        → (o : Option X) → has k ≡ o → (b : Bool) → eq_by_cmp R q k ≡ b → found_behind q k o ks ≡ cond (b || is_among R q ks) (has q) None
    front_found q k ks rest None none true same = rest ∙ either_none (is_among R q ks) q (ap has (one_key R total exact q k same) ∙ none)
    front_found q k ks rest None none false apart = rest
    front_found q k ks rest (Some x) some true same =
        ap (λ b. cond b (Some x) (find R q (entries_of ks))) same ∙ sym (ap has (one_key R total exact q k same) ∙ some)
    front_found q k ks rest (Some x) some false apart = ap (λ b. cond b (Some x) (find R q (entries_of ks))) apart ∙ rest

    -- a key of some keys is found with what it has, and no other
    pub find-entries_of : (q : K) (ks : List K) → find R q (entries_of ks) ≡ cond (is_among R q ks) (has q) None
    find-entries_of q [] = refl
    find-entries_of q (k ∷ ks) =
        ap (λ o. found_behind q k o ks) refl ∙ front_found q k ks (find-entries_of q ks) (has k) refl (eq_by_cmp R q k) refl

-- ---- where a sheet has no key it has nothing

abbrev has_key : EntryKey → List EntryKey → Bool
has_key key keys = is_among key_cmp key keys

-- a key of a map that is none of some keys has no value
module _ {K X : Type 0} (R : K → K → Ordering) (total : IsTotalOrder R) (exact : CmpEqualImpliesEq R) (make : K → EntryKey) where
  free_key : (key : K) (es : List (K × X)) → has_key (make key) (map make (map (λ e. e.0) es)) ≡ false → find R key es ≡ None
  free_key key [] h = refl
  free_key key (e ∷ es) h =
      let parts = neither _ _ h in
      decide (eq_by_cmp R key e.0)
      (λ same. absurd (true≢false (sym (own_key key_cmp key_total exact_keys (make key)) ∙ ap (λ k. eq_by_cmp key_cmp (make key) (make k)) (one_key R total exact key e.0 same) ∙ parts.0)))
      (λ apart. ap (λ b. cond b (Some e.1) (find R key es)) apart ∙ free_key key es parts.1)

-- of three lists of keys that have no key
apart_from : (key : EntryKey) (one two three : List EntryKey) → has_key key (one ++ two ++ three) ≡ false
    → (has_key key one ≡ false) × (has_key key two ≡ false) × (has_key key three ≡ false)
apart_from key one two three none =
    let front = neither (has_key key (one ++ two)) (has_key key three) (sym (list_any-append (eq_by_cmp key_cmp key) (one ++ two) three) ∙ none) in
    let first = neither (has_key key one) (has_key key two) (sym (list_any-append (eq_by_cmp key_cmp key) one two) ∙ front.0) in
    (first.0, first.1, front.1)

-- a key that is none of some keys is not one that stands among them
apart_in : (key one : EntryKey) (front back : List EntryKey) → has_key key (front ++ one ∷ back) ≡ false → eq_by_cmp key_cmp key one ≡ false
apart_in key one [] back none = (neither (eq_by_cmp key_cmp key one) (has_key key back) none).0
apart_in key one (first ∷ front) back none = apart_in key one front back (neither (eq_by_cmp key_cmp key first) (has_key key (front ++ one ∷ back)) none).1

-- a key that is none of those that each sheet has once is none of a field
not_single : (key : EntryKey) (id : ℕ) (field : Field) → has_key key (single_keys id) ≡ false → eq_by_cmp key_cmp key (FieldKey id field) ≡ false
not_single key id ColorField none =
    apart_in key (FieldKey id ColorField) (MergesKey id ∷ []) (map (FieldKey id) (StateField ∷ GridField ∷ FrozenRowsField ∷ FrozenColumnsField ∷ [])) none
not_single key id StateField none =
    apart_in key (FieldKey id StateField) (MergesKey id ∷ FieldKey id ColorField ∷ []) (map (FieldKey id) (GridField ∷ FrozenRowsField ∷ FrozenColumnsField ∷ [])) none
not_single key id GridField none =
    apart_in key (FieldKey id GridField) (MergesKey id ∷ map (FieldKey id) (ColorField ∷ StateField ∷ [])) (map (FieldKey id) (FrozenRowsField ∷ FrozenColumnsField ∷ [])) none
not_single key id FrozenRowsField none =
    apart_in key (FieldKey id FrozenRowsField) (MergesKey id ∷ map (FieldKey id) (ColorField ∷ StateField ∷ GridField ∷ [])) (FieldKey id FrozenColumnsField ∷ []) none
not_single key id FrozenColumnsField none =
    apart_in key (FieldKey id FrozenColumnsField) (MergesKey id ∷ map (FieldKey id) (ColorField ∷ StateField ∷ GridField ∷ FrozenRowsField ∷ [])) [] none

-- nor is one that is none of the settings' keys one of them
not_setting : (key : EntryKey) (kind : SettingKind) → has_key key (map SettingKey all_settings) ≡ false → eq_by_cmp key_cmp key (SettingKey kind) ≡ false
not_setting key ThemeSetting none =
    apart_in key (SettingKey ThemeSetting) [] (map SettingKey (NameSetting ∷ LocaleSetting ∷ ZoneSetting ∷ [])) none
not_setting key NameSetting none =
    apart_in key (SettingKey NameSetting) (SettingKey ThemeSetting ∷ []) (map SettingKey (LocaleSetting ∷ ZoneSetting ∷ [])) none
not_setting key LocaleSetting none =
    apart_in key (SettingKey LocaleSetting) (map SettingKey (ThemeSetting ∷ NameSetting ∷ [])) (SettingKey ZoneSetting ∷ []) none
not_setting key ZoneSetting none =
    apart_in key (SettingKey ZoneSetting) (map SettingKey (ThemeSetting ∷ NameSetting ∷ LocaleSetting ∷ [])) [] none

-- so it names no setting
names_none : (key : EntryKey) → has_key key (map SettingKey all_settings) ≡ false → setting_of key ≡ None
names_none (SettingKey kind) none = absurd (true≢false (sym (own_key key_cmp key_total exact_keys (SettingKey kind)) ∙ not_setting (SettingKey kind) kind none))
names_none _ none = refl

-- the keys of the cells of a sheet, of its links, of what its columns and its rows have, and of what it has once, where they have no key
record HasNoKey (sheet : Sheet) (key : EntryKey) : Type 0 where
  cells : has_key key (map (CellKey sheet.id) (fin.keys sheet.cells)) ≡ false
  links : has_key key (map (LinkKey sheet.id) (fin.keys sheet.links)) ≡ false
  columns : has_key key (map (AttrKey sheet.id Columns) (fin.keys sheet.columns)) ≡ false
  rows : has_key key (map (AttrKey sheet.id Rows) (fin.keys sheet.rows)) ≡ false
  singles : has_key key (single_keys sheet.id) ≡ false

no_key : (sheet : Sheet) (key : EntryKey) → has_key key (sheet_keys sheet) ≡ false → HasNoKey sheet key
no_key sheet key none =
    let parts = apart_from key (map (CellKey sheet.id) (fin.keys sheet.cells)) (map (LinkKey sheet.id) (fin.keys sheet.links)) (attr_keys sheet ++ single_keys sheet.id) none in
    let rest = apart_from key (map (AttrKey sheet.id Columns) (fin.keys sheet.columns)) (map (AttrKey sheet.id Rows) (fin.keys sheet.rows)) (single_keys sheet.id) parts.2 in
    record { cells = parts.0; links = parts.1; columns = rest.0; rows = rest.1; singles = rest.2 }

-- a sheet has nothing at a key that is none of its own
nothing_in : (sheet : Sheet) (key : EntryKey) → sheet.id ≡ sheet_id_of key → has_key key (sheet_keys sheet) ≡ false → sheet_entry key sheet ≡ nothing_at key
nothing_in sheet (CellKey id place) own none =
    ap CellValue (get-entries sheet.cells place ∙ free_key position_cmp position_total exact_positions (CellKey sheet.id) place (entries sheet.cells)
    (ap (λ n. has_key (CellKey n place) (map (CellKey sheet.id) (fin.keys sheet.cells))) own ∙ (no_key sheet (CellKey id place) none).cells))
nothing_in sheet (LinkKey id place) own none =
    ap LinkValue (get-entries sheet.links place ∙ free_key position_cmp position_total exact_positions (LinkKey sheet.id) place (entries sheet.links)
    (ap (λ n. has_key (LinkKey n place) (map (LinkKey sheet.id) (fin.keys sheet.links))) own ∙ (no_key sheet (LinkKey id place) none).links))
nothing_in sheet (AttrKey id Columns line) own none =
    ap AttrValue (get-entries sheet.columns line ∙ free_key int_cmp int_cmp_total exact_signed (AttrKey sheet.id Columns) line (entries sheet.columns)
    (ap (λ n. has_key (AttrKey n Columns line) (map (AttrKey sheet.id Columns) (fin.keys sheet.columns))) own ∙ (no_key sheet (AttrKey id Columns line) none).columns))
nothing_in sheet (AttrKey id Rows line) own none =
    ap AttrValue (get-entries sheet.rows line ∙ free_key int_cmp int_cmp_total exact_signed (AttrKey sheet.id Rows) line (entries sheet.rows)
    (ap (λ n. has_key (AttrKey n Rows line) (map (AttrKey sheet.id Rows) (fin.keys sheet.rows))) own ∙ (no_key sheet (AttrKey id Rows line) none).rows))
nothing_in sheet (MergesKey id) own none =
    absurd (true≢false (sym (own_key key_cmp key_total exact_keys (MergesKey id)) ∙ ap (λ n. eq_by_cmp key_cmp (MergesKey id) (MergesKey n)) (sym own)
    ∙ (neither _ _ (no_key sheet (MergesKey id) none).singles).0))
nothing_in sheet (FieldKey id field) own none =
    absurd (true≢false (sym (own_key key_cmp key_total exact_keys (FieldKey id field)) ∙ ap (λ n. eq_by_cmp key_cmp (FieldKey id field) (FieldKey n field)) (sym own)
    ∙ not_single (FieldKey id field) sheet.id field (no_key sheet (FieldKey id field) none).singles))
nothing_in sheet (SettingKey kind) own none = refl

-- so has a workbook, if the sheet is there
nothing_there : (key : EntryKey) (sheets : List Sheet) → has_key key (flat_map sheet_keys sheets) ≡ false
    → option_map (sheet_entry key) (by_id (sheet_id_of key) sheets) ≡ option_map (λ sheet. nothing_at key) (by_id (sheet_id_of key) sheets)
nothing_there key [] none = refl
nothing_there key (sheet ∷ sheets) none =
    let parts = neither (has_key key (sheet_keys sheet)) (has_key key (flat_map sheet_keys sheets)) (sym (list_any-append (eq_by_cmp key_cmp key) (sheet_keys sheet) (flat_map sheet_keys sheets)) ∙ none) in
    decide (sheet.id == sheet_id_of key)
    (λ hit.
    (λ i. option_map (sheet_entry key) (cond (hit i) (Some sheet) (by_id (sheet_id_of key) sheets)))
    ∙ ap Some (nothing_in sheet key ((unsigned_Decides sheet.id (sheet_id_of key)).0 hit) parts.0)
    ∙ (λ i. option_map (λ sheet. nothing_at key) (cond (sym hit i) (Some sheet) (by_id (sheet_id_of key) sheets))))
    (λ miss.
    (λ i. option_map (sheet_entry key) (cond (miss i) (Some sheet) (by_id (sheet_id_of key) sheets)))
    ∙ nothing_there key sheets parts.1
    ∙ (λ i. option_map (λ sheet. nothing_at key) (cond (sym miss i) (Some sheet) (by_id (sheet_id_of key) sheets))))

-- ---- what differs, at each key

no_change : (value : EntryValue) (one two : Option Sheet) → changed_entry (option_map (λ sheet. value) one) (option_map (λ sheet. value) two) ≡ None
no_change value None two = refl
no_change value (Some one) None = refl
no_change value (Some one) (Some two) = ap (λ b. cond b None (Some (value, value))) ((same_value_decides value value).1 refl)

-- a key that is none of a workbook's is none of a setting, and none of its sheets'
of_sheets : (book : Book) (key : EntryKey) → has_key key (book_keys book) ≡ false
    → (has_key key (map SettingKey all_settings) ≡ false) × (has_key key (flat_map sheet_keys book.worksheets) ≡ false)
of_sheets book key none =
    neither (has_key key (map SettingKey all_settings)) (has_key key (flat_map sheet_keys book.worksheets))
    (sym (list_any-append (eq_by_cmp key_cmp key) (map SettingKey all_settings) (flat_map sheet_keys book.worksheets)) ∙ none)

-- at a key of neither workbook nothing differs
unchanged : (earlier later : Book) (key : EntryKey) → has_key key (book_keys earlier ++ book_keys later) ≡ false
    → changed_entry (entry_at earlier key) (entry_at later key) ≡ None
unfolding entry_at
unchanged earlier later key none =
    let parts = neither (has_key key (book_keys earlier)) (has_key key (book_keys later)) (sym (list_any-append (eq_by_cmp key_cmp key) (book_keys earlier) (book_keys later)) ∙ none) in
    let one = of_sheets earlier key parts.0 in
    let two = of_sheets later key parts.1 in
    (λ i. changed_entry (entry_found (names_none key one.0 i) key earlier) (entry_found (names_none key one.0 i) key later))
    ∙ (λ i. changed_entry (nothing_there key earlier.worksheets one.1 i) (nothing_there key later.worksheets two.1 i))
    ∙ no_change (nothing_at key) (sheet_of earlier (sheet_id_of key)) (sheet_of later (sheet_id_of key))

-- at each key there is exactly the change there
pub get-changes_between : (earlier later : Book) (key : EntryKey)
    → get (changes_between earlier later) key ≡ changed_entry (entry_at earlier key) (entry_at later key)
get-changes_between earlier later key =
    get-from_entries key_total (filter_map (change_at earlier later) (book_keys earlier ++ book_keys later)) key
    ∙ find-entries_of key_cmp key_total exact_keys (λ k. changed_entry (entry_at earlier k) (entry_at later k)) key (book_keys earlier ++ book_keys later)
    ∙ decide (has_key key (book_keys earlier ++ book_keys later))
    (λ there. ap (λ b. cond b (changed_entry (entry_at earlier key) (entry_at later key)) None) there)
    (λ none. ap (λ b. cond b (changed_entry (entry_at earlier key) (entry_at later key)) None) none ∙ sym (unchanged earlier later key none))

-- ---- the record

diffs_of : List Change → List Diff
diffs_of changes = flat_map (λ change. diff_of change.0 change.1.0 change.1.1) changes

-- a list of diffs is that of its changes
diffs_of_own : (diffs : List Diff) (changes : List Change) → map change_of diffs ≡ map Some changes → diffs ≡ diffs_of changes
unfolding diffs_of
diffs_of_own [] [] is = refl
diffs_of_own [] (_ ∷ _) is = absurd (cc)
diffs_of_own (_ ∷ _) [] is = absurd (cc)
diffs_of_own (diff ∷ diffs) (change ∷ changes) is =
    let one : change_of diff ≡ Some change = cc in
    let rest : map change_of diffs ≡ map Some changes = cc in
    λ i. sym (diff_of-change_of diff change one) i ++ diffs_of_own diffs changes rest i

-- the record of two workbooks is that function of them
pub record_computed : (earlier later : Book) (list : List Diff) → IsRecord earlier later list → list ≡ record_between earlier later
unfolding record_between diffs_of
record_computed earlier later list is =
    let same : is.changes ≡ entries (changes_between earlier later) =
    same_entries key_cmp key_total exact_keys is.changes (entries (changes_between earlier later)) (holds _ is.ordered) (entries_sorted (changes_between earlier later))
    (λ key. is.exact key ∙ sym (get-changes_between earlier later key) ∙ get-entries (changes_between earlier later) key) in
    diffs_of_own list is.changes is.made_of ∙ ap diffs_of same
