-- Records one after another are a record, where the keys of the second come behind those of the first.
use Rattle.std.proofs.Common.{◌≡◌, Bool, true, false, cond, ◌&&◌, List, [], ◌∷◌, ◌++◌, map, Option, Some, None, is_some, refl, ap, sym, ◌∙◌}
use Rattle.std.specs.List.{list_all}
use Rattle.std.specs.Option.{option_or}
use Rattle.std.specs.Ordering.{is_eq, is_lt, eq_by_cmp}
use Rattle.std.specs.Cmp.{IsTotalOrder}
use Rattle.std.specs.declared.cmp.Ordering.{Ordering}
use Rattle.std.specs.declared.cmp.Ordering.TheVariants.{Less, Equal, Greater}
use Rattle.std.specs.FinMap.Entries.{find, is_sorted, below_all}
use Rattle.std.proofs.lemmas.List.{map-append}
use Rattle.std.proofs.lemmas.List.Folds.{list_all-map}
use Rattle.std.proofs.lemmas.Map.Lookups.{CmpEqualImpliesEq}
use Rattle.base_maps.specs.laws.Keys.{one_key}
use Rattle.sheet_grid.specs.Sheet.{Sheet}
use Rattle.sheet_grid.specs.Book.{Book}
use Rattle.sheet_rules.specs.laws.EntryLaws.{both}
use Rattle.sheet_ids.specs.Ids.{sheet_of}
use Rattle.sheet_history.specs.declared.Diff.{Diff}
use Rattle.sheet_history.specs.Entries.{EntryKey, EntryValue, key_cmp, sheet_id_of, sheet_entry, value_fits, entry_at, put_entry}
use Rattle.sheet_history.specs.Entries.EntryKey.{CellKey, LinkKey, MergesKey, FieldKey, AttrKey}
use Rattle.sheet_history.specs.Entries.EntryValue.{CellValue, LinkValue, MergesValue, FieldValue, AttrValue}
use Rattle.sheet_history.specs.Records.{same_entry_value, changed_entry, Change, change_of, diff_of, entry_record, IsRecord}
use Rattle.sheet_history.specs.declared.LineAxis.TheVariants.{Rows, Columns}
use Rattle.sheet_history.specs.declared.SheetField.TheVariants as value
use Rattle.sheet_history.specs.Fields.Field.{ColorField, StateField, GridField, FrozenRowsField, FrozenColumnsField}
use Rattle.sheet_history.specs.laws.EntryLaws.{is_some-entry_at}
use Rattle.sheet_history.specs.laws.OneEntry.{changed_entry-same, put_record}
use Rattle.sheet_history.specs.laws.RecordLaws.{key_total, exact_keys}
use Rattle.sheet_history.specs.laws.ValueEquals.{same_value_decides}

-- ---- sorted lists of entries

not_tied : (o : Ordering) → is_lt o ≡ true → is_eq o ≡ false
not_tied Less h = refl
not_tied Equal h = absurd (cc)
not_tied Greater h = absurd (cc)

module _ {K X : Type 0} (R : K → K → Ordering) where
  -- every key of a list is below every key of another
  abbrev all_below : List (K × X) → List (K × X) → Bool
  all_below es fs = list_all (λ (e : K × X). below_all R e.0 fs) es

  below-append : (p : K) (es fs : List (K × X)) → below_all R p es ≡ true → below_all R p fs ≡ true → below_all R p (es ++ fs) ≡ true
  below-append p [] fs one two = two
  below-append p (e ∷ es) fs one two = let parts = both (is_lt (R p e.0)) (below_all R p es) one in λ i. parts.0 i && below-append p es fs parts.1 two i

  sorted-append : (es fs : List (K × X)) → is_sorted R es ≡ true → is_sorted R fs ≡ true → all_below es fs ≡ true
      → is_sorted R (es ++ fs) ≡ true
  sorted-append [] fs one two below = two
  sorted-append (e ∷ es) fs one two below =
      let parts = both (below_all R e.0 es) (is_sorted R es) one in
      let lower = both (below_all R e.0 fs) (all_below es fs) below in
      λ i. below-append e.0 es fs parts.0 lower.0 i && sorted-append es fs parts.1 two lower.1 i

  find-append : (es fs : List (K × X)) (q : K) → find R q (es ++ fs) ≡ option_or (find R q es) (find R q fs)
  find-append [] fs q = refl
  find-append (e ∷ es) fs q =
      elim (eq_by_cmp R q e.0) as (λ b. cond b (Some e.1) (find R q (es ++ fs)) ≡ option_or (cond b (Some e.1) (find R q es)) (find R q fs))
      [ true ↦ refl | false ↦ find-append es fs q ]

  below_none : (p : K) (fs : List (K × X)) → below_all R p fs ≡ true → find R p fs ≡ None
  below_none p [] h = refl
  below_none p (f ∷ fs) h =
      let parts = both (is_lt (R p f.0)) (below_all R p fs) h in
      ap (λ b. cond b (Some f.1) (find R p fs)) (not_tied (R p f.0) parts.0) ∙ below_none p fs parts.1

  here_or_later : IsTotalOrder R → CmpEqualImpliesEq R → (e : K × X) (es fs : List (K × X)) (q : K) (x : X) → below_all R e.0 fs ≡ true
      → (find R q es ≡ Some x → find R q fs ≡ None)
      → (b : Bool) → eq_by_cmp R q e.0 ≡ b → cond b (Some e.1) (find R q es) ≡ Some x → find R q fs ≡ None
  here_or_later total exact e es fs q x below later true same it = ap (λ p. find R p fs) (one_key R total exact q e.0 same) ∙ below_none e.0 fs below
  here_or_later total exact e es fs q x below later false other it = later it

  -- a key that is found in the lower list is not found in the other
  found_below : (total : IsTotalOrder R) → (exact : CmpEqualImpliesEq R) → (es fs : List (K × X)) → all_below es fs ≡ true → (q : K) (x : X)
      → find R q es ≡ Some x → find R q fs ≡ None
  found_below total exact [] fs below q x found = absurd (cc)
  found_below total exact (e ∷ es) fs below q x found =
      let lower = both (below_all R e.0 fs) (all_below es fs) below in
      here_or_later total exact e es fs q x lower.0 (found_below total exact es fs lower.1 q x) (eq_by_cmp R q e.0) refl found

-- ---- the order of diffs

-- a change comes before one at a key in a record
abbrev pub is_before : EntryKey → Option Change → Bool
is_before key None = false
is_before key (Some change) = is_lt (key_cmp change.0 key)

-- every diff of a list comes before one at a key
abbrev pub come_before : EntryKey → List Diff → Bool
come_before key diffs = list_all (λ diff. is_before key (change_of diff)) diffs

abbrev is_behind : Option Change → Option Change → Bool
is_behind first None = false
is_behind first (Some change) = is_before change.0 first

-- every diff of a list comes before every diff of another
abbrev pub are_before : List Diff → List Diff → Bool
are_before diffs later = list_all (λ diff. list_all (λ next. is_behind (change_of diff) (change_of next)) later) diffs

list_all-same : {A : Type 0} (P Q : A → Bool) → ((x : A) → P x ≡ Q x) → (xs : List A) → list_all P xs ≡ list_all Q xs
list_all-same P Q same [] = refl
list_all-same P Q same (x ∷ xs) = λ i. same x i && list_all-same P Q same xs i

below_is : (key : EntryKey) (changes : List Change)
    → below_all key_cmp key changes ≡ list_all (λ (change : Change). is_lt (key_cmp key change.0)) changes
below_is key [] = refl
below_is key (change ∷ changes) = ap (λ b. is_lt (key_cmp key change.0) && b) (below_is key changes)

-- so it is with their changes
changes_below : (xs ys : List Diff) (es fs : List Change) → map change_of xs ≡ map Some es → map change_of ys ≡ map Some fs
    → are_before xs ys ≡ true → all_below key_cmp es fs ≡ true
changes_below xs ys es fs one two before =
    let of : List (Option Change) → List (Option Change) → Bool = λ os ps. list_all (λ o. list_all (is_behind o) ps) os in
    list_all-same (λ (e : Change). below_all key_cmp e.0 fs) (λ (e : Change). list_all (is_behind (Some e)) (map Some fs))
    (λ e. below_is e.0 fs ∙ sym (list_all-map (is_behind (Some e)) Some fs)) es
    ∙ sym (list_all-map (λ (o : Option Change). list_all (is_behind o) (map Some fs)) Some es)
    ∙ (λ i. of (sym one i) (sym two i))
    ∙ list_all-map (λ (o : Option Change). list_all (is_behind o) (map change_of ys)) change_of xs
    ∙ list_all-same (λ x. list_all (is_behind (change_of x)) (map change_of ys)) (λ x. list_all (λ y. is_behind (change_of x) (change_of y)) ys)
    (λ x. list_all-map (is_behind (change_of x)) change_of ys) xs
    ∙ before

-- ---- records

changed_pair : (b : Bool) (old new : EntryValue) → same_entry_value old new ≡ b
    → ◌≡◌ {A = Option (EntryValue × EntryValue)} (cond b None (Some (old, new))) None → old ≡ new
changed_pair true old new same none = (same_value_decides old new).0 same
changed_pair false old new same none = absurd (cc)

-- entries that do not differ are equal
stays : (old new : Option EntryValue) → is_some old ≡ is_some new → changed_entry old new ≡ None → old ≡ new
stays None None there none = refl
stays None (Some new) there none = absurd (cc)
stays (Some old) None there none = absurd (cc)
stays (Some old) (Some new) there none = ap Some (changed_pair (same_entry_value old new) old new refl none)

module _ (a b c : Book) (xs ys : List Diff) (one : IsRecord a b xs) (two : IsRecord b c ys) (before : are_before xs ys ≡ true) where
  abbrev es : List Change
  es = one.changes

  abbrev fs : List Change
  fs = two.changes

  below : all_below key_cmp es fs ≡ true
  below = changes_below xs ys es fs one.made_of two.made_of before

  exact_at : (key : EntryKey) (o : Option (EntryValue × EntryValue)) → find key_cmp key es ≡ o
      → option_or o (find key_cmp key fs) ≡ changed_entry (entry_at a key) (entry_at c key)
  exact_at key (Some values) found =
      let none : find key_cmp key fs ≡ None = found_below key_cmp key_total exact_keys es fs below key values found in
      let same : entry_at b key ≡ entry_at c key =
      stays (entry_at b key) (entry_at c key) (is_some-entry_at b c key (sym two.frame)) (sym (two.exact key) ∙ none) in
      sym found ∙ one.exact key ∙ ap (changed_entry (entry_at a key)) same
  exact_at key None found =
      let same : entry_at a key ≡ entry_at b key =
      stays (entry_at a key) (entry_at b key) (is_some-entry_at a b key (sym one.frame)) (sym (one.exact key) ∙ found) in
      two.exact key ∙ ap (λ o. changed_entry o (entry_at c key)) (sym same)

  -- two records one after the other
  pub record_append : IsRecord a c (xs ++ ys)
  record_append = record {
    changes = es ++ fs;
    made_of = map-append change_of xs ys ∙ (λ i. one.made_of i ++ two.made_of i) ∙ sym (map-append Some es fs);
    frame = two.frame ∙ one.frame;
    ordered = sorted-append key_cmp es fs one.ordered two.ordered below;
    exact = λ key. find-append key_cmp es fs key ∙ exact_at key (find key_cmp key es) refl;
  }

-- ---- one more entry

-- the diff of an entry comes behind what comes before its key
before_diff : (k : EntryKey) (s : Sheet) (v : EntryValue) → value_fits k v ≡ true → (o : Option Change) → is_before k o ≡ true
    → list_all (λ next. is_behind o (change_of next)) (diff_of k (sheet_entry k s) v) ≡ true
before_diff (CellKey id place) s (CellValue v) h o before = λ i. before i && true
before_diff (LinkKey id place) s (LinkValue v) h o before = λ i. before i && true
before_diff (MergesKey id) s (MergesValue v) h o before = λ i. before i && true
before_diff (FieldKey id ColorField) s (FieldValue (value.Color v)) h o before = λ i. before i && true
before_diff (FieldKey id StateField) s (FieldValue (value.State v)) h o before = λ i. before i && true
before_diff (FieldKey id GridField) s (FieldValue (value.GridLines v)) h o before = λ i. before i && true
before_diff (FieldKey id FrozenRowsField) s (FieldValue (value.FrozenRows v)) h o before = λ i. before i && true
before_diff (FieldKey id FrozenColumnsField) s (FieldValue (value.FrozenColumns v)) h o before = λ i. before i && true
before_diff (AttrKey id Rows line) s (AttrValue v) h o before = λ i. before i && true
before_diff (AttrKey id Columns line) s (AttrValue v) h o before = λ i. before i && true
before_diff _ s _ h o before = absurd (let never : false ≡ true = h in cc)

before_record : (k : EntryKey) (s : Sheet) (v : EntryValue) → value_fits k v ≡ true → (o : Option Change) → is_before k o ≡ true
    → (same : Bool)
    → list_all (λ next. is_behind o (change_of next)) (cond same [] (diff_of k (sheet_entry k s) v)) ≡ true
before_record k s v h o before true = refl
before_record k s v h o before false = before_diff k s v h o before

all_before : (k : EntryKey) (s : Sheet) (v : EntryValue) → value_fits k v ≡ true → (xs : List Diff) → come_before k xs ≡ true
    → are_before xs (entry_record k (sheet_entry k s) v) ≡ true
all_before k s v h [] before = refl
all_before k s v h (x ∷ xs) before =
    let parts = both (is_before k (change_of x)) (come_before k xs) before in
    λ i. before_record k s v h (change_of x) parts.0 (same_entry_value (sheet_entry k s) v) i && all_before k s v h xs parts.1 i

-- a record with one more entry that is put, at a key behind all others
pub put_after : (a w : Book) (xs : List Diff) → IsRecord a w xs → (k : EntryKey) (v : EntryValue) (sheet : Sheet)
    → sheet_of w (sheet_id_of k) ≡ Some sheet → value_fits k v ≡ true
    → come_before k xs ≡ true → IsRecord a (put_entry w k v) (xs ++ entry_record k (sheet_entry k sheet) v)
put_after a w xs first k v sheet there stands before =
    record_append a w (put_entry w k v) xs (entry_record k (sheet_entry k sheet) v) first (put_record w k v sheet there stands)
    (all_before k sheet v stands xs before)

-- a workbook and itself have the empty record
pub nothing_changed : (w : Book) → IsRecord w w []
nothing_changed w = record { changes = []; made_of = refl; frame = refl; ordered = refl; exact = λ key. sym (changed_entry-same (entry_at w key)) }

-- what comes before a key does so with more that comes before it
pub come_before-append : (key : EntryKey) (xs ys : List Diff) → come_before key xs ≡ true → come_before key ys ≡ true → come_before key (xs ++ ys) ≡ true
come_before-append key [] ys one two = two
come_before-append key (x ∷ xs) ys one two =
    let parts = both (is_before key (change_of x)) (come_before key xs) one in λ i. parts.0 i && come_before-append key xs ys parts.1 two i
