-- The record of two workbooks takes the earlier one to the later one, and the later one back.
use Rattle.std.proofs.Common.{◌≡◌, ◌≢◌, ◌⊎◌, ⊎_elim, ℕ, ◌+◌, true, false, cond, List, [], ◌∷◌, map, Option, Some, None, is_some, Ok, Err, refl, ap, sym, subst, ◌∙◌, true≢false}
use Rattle.std.specs.Ordering.{eq_by_cmp, is_lt, is_eq}
use Rattle.std.specs.declared.cmp.Ordering.{Ordering}
use Rattle.std.specs.declared.cmp.Ordering.TheVariants.{Less, Equal, Greater}
use Rattle.std.specs.Cmp.{eq_by_cmp_equiv}
use Rattle.std.specs.FinMap.{find, is_sorted}
use Rattle.std.specs.FinMap.Entries.{below_all}
use Rattle.std.proofs.lemmas.Map.Views.{tells_apart}
use Rattle.base_values.specs.declared.EditError.TheVariants.{DiffRefused}
use Rattle.base_values.specs.Answers.{and_then}
use Rattle.sheet_grid.specs.Book.{Book}
use Rattle.sheet_rules.specs.laws.EntryLaws.{both}
use Rattle.sheet_ids.specs.Ids.{HasDistinctIds}
use Rattle.sheet_history.specs.declared.diff.Diff.{Diff}
use Rattle.sheet_history.specs.declared.diff.Diff.TheVariants.{Cell as CellDiff, Link as LinkDiff, Merges as MergesDiff, Field as FieldDiff, Lines as LinesDiff, NewSheet as NewDiff, DuplicateSheet as CopyDiff, DeleteSheet as DeletionDiff, MoveSheet as MoveDiff, RenameSheet as RenameDiff, ChangeName as NameDiff, Rule as RuleDiff, Attributes as AttrDiff, Setting as SettingDiff}
use Rattle.sheet_history.specs.Entries.{EntryKey, EntryValue, key_cmp, entry_at, put_entry, accepts, frame_of}
use Rattle.sheet_history.specs.Entries.EntryKey.{CellKey, LinkKey, MergesKey, FieldKey, AttrKey, SettingKey}
use Rattle.sheet_history.specs.Entries.EntryValue.{CellValue, LinkValue, MergesValue, FieldValue, AttrValue, SettingValue}
use Rattle.sheet_history.specs.Fields.{old_of, new_of, changed_field}
use Rattle.sheet_history.specs.declared.setting.SettingChange.{SettingChange}
use Rattle.sheet_history.specs.declared.setting.SettingChange.TheVariants as setting_change
use Rattle.sheet_history.specs.Settings.{with_setting, old_setting, new_setting, changed_setting}
use Rattle.sheet_history.specs.Diffs.{put_in, step_forward, step_back, forward_from, back_from, untested_after, untested_before}
use Rattle.sheet_history.specs.Records.{same_entry_value, changed_entry, Change, change_of, IsRecord}
use Rattle.sheet_history.specs.laws.EntryLaws.{decide, nothing_at, entry_at-put_entry, entry_at-put_entry_other, frame_of-put_entry, accepts-frame_of, is_some-entry_at, accepts-nothing_at, same_book}
use Rattle.sheet_history.specs.laws.RecordLaws.{key_total, exact_keys}
use Rattle.sheet_history.specs.laws.ValueEquals.{same_value_decides}

not_equal : (o : Ordering) → is_lt o ≡ true → is_eq o ≡ false
not_equal Less h = refl
not_equal Equal h = absurd (let never : false ≡ true = h in cc)
not_equal Greater h = absurd (let never : false ≡ true = h in cc)

-- a key below all keys of a list is not found in it
find_below : {X : Type 0} (k : EntryKey) (es : List (EntryKey × X)) → below_all key_cmp k es ≡ true → find key_cmp k es ≡ None
find_below k [] h = refl
find_below k (e ∷ es) h =
    let parts = both _ _ h in
    ap (λ b. cond b (Some e.1) (find key_cmp k es)) (not_equal (key_cmp k e.0) parts.0) ∙ find_below k es parts.1

is_itself : (k : EntryKey) → eq_by_cmp key_cmp k k ≡ true
is_itself k = (eq_by_cmp_equiv key_total).refl k

is_one : (q k : EntryKey) → eq_by_cmp key_cmp q k ≡ true → q ≡ k
is_one q k e = tells_apart exact_keys q k e

is_apart : (q k : EntryKey) → eq_by_cmp key_cmp q k ≡ false → (q ≢ k)
is_apart q k e = λ same. true≢false (sym (is_itself k) ∙ ap (λ x. eq_by_cmp key_cmp x k) (sym same) ∙ e)

-- ---- all values of a list put

abbrev put_news : Book → List Change → Book
put_news w [] = w
put_news w (c ∷ cs) = put_news (put_entry w c.0 c.1.1) cs

abbrev put_olds : Book → List Change → Book
put_olds w [] = w
put_olds w (c ∷ cs) = put_entry (put_olds w cs) c.0 c.1.0

-- each change can be put, forward and back
abbrev pub AllFit : Book → List Change → Type 0
AllFit w [] = Unit {0}
AllFit w (c ∷ cs) = (accepts w c.0 c.1.1 ≡ true) × (accepts w c.0 c.1.0 ≡ true) × AllFit w cs

frame_of-put_news : (w : Book) (cs : List Change) → frame_of (put_news w cs) ≡ frame_of w
frame_of-put_news w [] = refl
frame_of-put_news w (c ∷ cs) = frame_of-put_news (put_entry w c.0 c.1.1) cs ∙ frame_of-put_entry w c.0 c.1.1

frame_of-put_olds : (w : Book) (cs : List Change) → frame_of (put_olds w cs) ≡ frame_of w
frame_of-put_olds w [] = refl
frame_of-put_olds w (c ∷ cs) = frame_of-put_entry (put_olds w cs) c.0 c.1.0 ∙ frame_of-put_olds w cs

accepts_at : (w w2 : Book) (k : EntryKey) (v : EntryValue) → frame_of w ≡ frame_of w2 → accepts w k v ≡ true → accepts w2 k v ≡ true
accepts_at w w2 k v e h = sym (accepts-frame_of w w2 k v e) ∙ h

-- what is accepted is put
pub put_in_done : (at : ℕ) (w : Book) (k : EntryKey) (v : EntryValue) → accepts w k v ≡ true → put_in at w k v ≡ Ok (put_entry w k v)
unfolding put_in
put_in_done at w k v h = ap (λ b. cond b (Ok (put_entry w k v)) (Err (DiffRefused 0 at))) h

-- a setting is put, whichever way
new_put : (at : ℕ) (w : Book) (one : SettingChange) → put_in at w (SettingKey (changed_setting one)) (SettingValue (new_setting one)) ≡ Ok (with_setting (new_setting one) w)
unfolding put_in accepts put_entry
new_put at w (setting_change.Theme old new) = refl
new_put at w (setting_change.Name old new) = refl
new_put at w (setting_change.Locale old new) = refl
new_put at w (setting_change.Zone old new) = refl

old_put : (at : ℕ) (w : Book) (one : SettingChange) → put_in at w (SettingKey (changed_setting one)) (SettingValue (old_setting one)) ≡ Ok (with_setting (old_setting one) w)
unfolding put_in accepts put_entry
old_put at w (setting_change.Theme old new) = refl
old_put at w (setting_change.Name old new) = refl
old_put at w (setting_change.Locale old new) = refl
old_put at w (setting_change.Zone old new) = refl

-- a diff of an entry steps by its change
step_by_new : (at : ℕ) (w : Book) (d : Diff) (c : Change) → change_of d ≡ Some c → step_forward at w d ≡ put_in at w c.0 c.1.1
step_by_new at w (CellDiff sheet place old new) c h =
    let same : ◌≡◌ {A = Change} (CellKey sheet place, (CellValue old, CellValue new)) c = cc in ap (λ (x : Change). put_in at w x.0 x.1.1) same
step_by_new at w (LinkDiff sheet place old new) c h =
    let same : ◌≡◌ {A = Change} (LinkKey sheet place, (LinkValue old, LinkValue new)) c = cc in ap (λ (x : Change). put_in at w x.0 x.1.1) same
step_by_new at w (MergesDiff sheet old new) c h =
    let same : ◌≡◌ {A = Change} (MergesKey sheet, (MergesValue old, MergesValue new)) c = cc in ap (λ (x : Change). put_in at w x.0 x.1.1) same
step_by_new at w (FieldDiff sheet change) c h =
    let same : ◌≡◌ {A = Change} (FieldKey sheet (changed_field change), (FieldValue (old_of change), FieldValue (new_of change))) c = cc in ap (λ (x : Change). put_in at w x.0 x.1.1) same
step_by_new at w (AttrDiff sheet axis line old new) c h =
    let same : ◌≡◌ {A = Change} (AttrKey sheet axis line, (AttrValue old, AttrValue new)) c = cc in ap (λ (x : Change). put_in at w x.0 x.1.1) same
step_by_new at w (SettingDiff one) c h =
    let same : ◌≡◌ {A = Change} (SettingKey (changed_setting one), (SettingValue (old_setting one), SettingValue (new_setting one))) c = cc in
    sym (new_put at w one) ∙ ap (λ (x : Change). put_in at w x.0 x.1.1) same
step_by_new at w (RuleDiff _ _) c h = absurd (cc)
step_by_new at w (LinesDiff _ _ _ _) c h = absurd (cc)
step_by_new at w (NewDiff _ _ _) c h = absurd (cc)
step_by_new at w (CopyDiff _ _ _ _) c h = absurd (cc)
step_by_new at w (DeletionDiff _ _) c h = absurd (cc)
step_by_new at w (MoveDiff _ _ _) c h = absurd (cc)
step_by_new at w (RenameDiff _ _ _ _) c h = absurd (cc)
step_by_new at w (NameDiff _ _) c h = absurd (cc)

step_by_old : (at : ℕ) (w : Book) (d : Diff) (c : Change) → change_of d ≡ Some c → step_back at w d ≡ put_in at w c.0 c.1.0
step_by_old at w (CellDiff sheet place old new) c h =
    let same : ◌≡◌ {A = Change} (CellKey sheet place, (CellValue old, CellValue new)) c = cc in ap (λ (x : Change). put_in at w x.0 x.1.0) same
step_by_old at w (LinkDiff sheet place old new) c h =
    let same : ◌≡◌ {A = Change} (LinkKey sheet place, (LinkValue old, LinkValue new)) c = cc in ap (λ (x : Change). put_in at w x.0 x.1.0) same
step_by_old at w (MergesDiff sheet old new) c h =
    let same : ◌≡◌ {A = Change} (MergesKey sheet, (MergesValue old, MergesValue new)) c = cc in ap (λ (x : Change). put_in at w x.0 x.1.0) same
step_by_old at w (FieldDiff sheet change) c h =
    let same : ◌≡◌ {A = Change} (FieldKey sheet (changed_field change), (FieldValue (old_of change), FieldValue (new_of change))) c = cc in ap (λ (x : Change). put_in at w x.0 x.1.0) same
step_by_old at w (AttrDiff sheet axis line old new) c h =
    let same : ◌≡◌ {A = Change} (AttrKey sheet axis line, (AttrValue old, AttrValue new)) c = cc in ap (λ (x : Change). put_in at w x.0 x.1.0) same
step_by_old at w (SettingDiff one) c h =
    let same : ◌≡◌ {A = Change} (SettingKey (changed_setting one), (SettingValue (old_setting one), SettingValue (new_setting one))) c = cc in
    sym (old_put at w one) ∙ ap (λ (x : Change). put_in at w x.0 x.1.0) same
step_by_old at w (RuleDiff _ _) c h = absurd (cc)
step_by_old at w (LinesDiff _ _ _ _) c h = absurd (cc)
step_by_old at w (NewDiff _ _ _) c h = absurd (cc)
step_by_old at w (CopyDiff _ _ _ _) c h = absurd (cc)
step_by_old at w (DeletionDiff _ _) c h = absurd (cc)
step_by_old at w (MoveDiff _ _ _) c h = absurd (cc)
step_by_old at w (RenameDiff _ _ _ _) c h = absurd (cc)
step_by_old at w (NameDiff _ _) c h = absurd (cc)

forward_done : (at : ℕ) (w0 w : Book) (ds : List Diff) (cs : List Change) → map change_of ds ≡ map Some cs → frame_of w0 ≡ frame_of w → AllFit w0 cs → forward_from at w ds ≡ Ok (put_news w cs)
forward_done at w0 w [] [] is e h = refl
forward_done at w0 w [] (c ∷ cs) is e h = absurd (cc)
forward_done at w0 w (d ∷ ds) [] is e h = absurd (cc)
forward_done at w0 w (d ∷ ds) (c ∷ cs) is e h =
    let one : change_of d ≡ Some c = cc in
    let rest : map change_of ds ≡ map Some cs = cc in
    ap (λ r. and_then r (λ next. forward_from (at + 1) next ds)) (step_by_new at w d c one ∙ put_in_done at w c.0 c.1.1 (accepts_at w0 w c.0 c.1.1 e h.0))
    ∙ forward_done (at + 1) w0 (put_entry w c.0 c.1.1) ds cs rest (e ∙ sym (frame_of-put_entry w c.0 c.1.1)) h.2

back_done : (at : ℕ) (w0 w : Book) (ds : List Diff) (cs : List Change) → map change_of ds ≡ map Some cs → frame_of w0 ≡ frame_of w → AllFit w0 cs → back_from at w ds ≡ Ok (put_olds w cs)
back_done at w0 w [] [] is e h = refl
back_done at w0 w [] (c ∷ cs) is e h = absurd (cc)
back_done at w0 w (d ∷ ds) [] is e h = absurd (cc)
back_done at w0 w (d ∷ ds) (c ∷ cs) is e h =
    let one : change_of d ≡ Some c = cc in
    let rest : map change_of ds ≡ map Some cs = cc in
    ap (λ r. and_then r (λ next. step_back at next d)) (back_done (at + 1) w0 w ds cs rest e h.2)
    ∙ step_by_old at (put_olds w cs) d c one
    ∙ put_in_done at (put_olds w cs) c.0 c.1.0 (accepts_at w0 (put_olds w cs) c.0 c.1.0 (e ∙ sym (frame_of-put_olds w cs)) h.1)

abbrev after : Option (EntryValue × EntryValue) → Option EntryValue → Option EntryValue
after None e = e
after (Some c) e = Some c.1

abbrev before : Option (EntryValue × EntryValue) → Option EntryValue → Option EntryValue
before None e = e
before (Some c) e = Some c.0

-- what there is at a key when all new values are put
entry_at-put_news : (w0 w : Book) (cs : List Change) → frame_of w0 ≡ frame_of w → is_sorted key_cmp cs ≡ true → AllFit w0 cs → (q : EntryKey)
    → entry_at (put_news w cs) q ≡ after (find key_cmp q cs) (entry_at w q)
entry_at-put_news w0 w [] e s h q = refl
entry_at-put_news w0 w (c ∷ cs) e s h q =
    let sorted = both _ _ s in
    entry_at-put_news w0 (put_entry w c.0 c.1.1) cs (e ∙ sym (frame_of-put_entry w c.0 c.1.1)) sorted.1 h.2 q
    ∙ decide (eq_by_cmp key_cmp q c.0)
    (λ hit.
    let same : q ≡ c.0 = is_one q c.0 hit in
    let none : find key_cmp q cs ≡ None = ap (λ k. find key_cmp k cs) same ∙ find_below c.0 cs sorted.0 in
    let got : entry_at (put_entry w c.0 c.1.1) q ≡ Some c.1.1 = ap (entry_at (put_entry w c.0 c.1.1)) same ∙ entry_at-put_entry w c.0 c.1.1 (accepts_at w0 w c.0 c.1.1 e h.0) in
    (λ i. after (none i) (got i)) ∙ (λ i. after (cond (sym hit i) (Some c.1) (find key_cmp q cs)) (entry_at w q)))
    (λ miss.
    ap (after (find key_cmp q cs)) (entry_at-put_entry_other w c.0 c.1.1 q (is_apart q c.0 miss))
    ∙ (λ i. after (cond (sym miss i) (Some c.1) (find key_cmp q cs)) (entry_at w q)))

-- and when all old values are
entry_at-put_olds : (w0 w : Book) (cs : List Change) → frame_of w0 ≡ frame_of w → AllFit w0 cs → (q : EntryKey) → entry_at (put_olds w cs) q ≡ before (find key_cmp q cs) (entry_at w q)
entry_at-put_olds w0 w [] e h q = refl
entry_at-put_olds w0 w (c ∷ cs) e h q =
    decide (eq_by_cmp key_cmp q c.0)
    (λ hit.
    let same : q ≡ c.0 = is_one q c.0 hit in
    ap (entry_at (put_entry (put_olds w cs) c.0 c.1.0)) same
    ∙ entry_at-put_entry (put_olds w cs) c.0 c.1.0 (accepts_at w0 (put_olds w cs) c.0 c.1.0 (e ∙ sym (frame_of-put_olds w cs)) h.1)
    ∙ (λ i. before (cond (sym hit i) (Some c.1) (find key_cmp q cs)) (entry_at w q)))
    (λ miss.
    entry_at-put_entry_other (put_olds w cs) c.0 c.1.0 q (is_apart q c.0 miss)
    ∙ entry_at-put_olds w0 w cs e h.2 q
    ∙ (λ i. before (cond (sym miss i) (Some c.1) (find key_cmp q cs)) (entry_at w q)))

-- ---- what is known of a record

same_values : (a b : EntryValue) → same_entry_value a b ≡ true → a ≡ b
same_values a b e = (same_value_decides a b).0 e

after-changed : (x y : Option EntryValue) → is_some x ≡ is_some y → after (changed_entry x y) x ≡ y
after-changed None None e = refl
after-changed (Some a) (Some b) e =
    decide (same_entry_value a b)
    (λ hit. (λ i. after (cond (hit i) None (Some (a, b))) (Some a)) ∙ ap Some (same_values a b hit))
    (λ miss. λ i. after (cond (miss i) None (Some (a, b))) (Some a))
after-changed None (Some b) e = absurd (true≢false (sym e))
after-changed (Some a) None e = absurd (true≢false e)

before-changed : (x y : Option EntryValue) → is_some x ≡ is_some y → before (changed_entry x y) y ≡ x
before-changed None None e = refl
before-changed (Some a) (Some b) e =
    decide (same_entry_value a b)
    (λ hit. (λ i. before (cond (hit i) None (Some (a, b))) (Some b)) ∙ ap Some (sym (same_values a b hit)))
    (λ miss. λ i. before (cond (miss i) None (Some (a, b))) (Some b))
before-changed None (Some b) e = absurd (true≢false (sym e))
before-changed (Some a) None e = absurd (true≢false e)

-- what a change is of
record Differs (x y : Option EntryValue) (c : EntryValue × EntryValue) : Type 0 where
  old : x ≡ Some c.0
  new : y ≡ Some c.1
  apart : c.0 ≢ c.1

differs : (x y : Option EntryValue) (c : EntryValue × EntryValue) → changed_entry x y ≡ Some c → Differs x y c
differs None y c e = absurd (cc)
differs (Some a) None c e = absurd (cc)
differs (Some a) (Some b) c e =
    decide (same_entry_value a b)
    (λ hit. absurd (let none : ◌≡◌ {A = Option (EntryValue × EntryValue)} None (Some c) = (λ i. cond (sym hit i) None (Some (a, b))) ∙ e in cc))
    (λ miss.
    let is : ◌≡◌ {A = Option (EntryValue × EntryValue)} (Some (a, b)) (Some c) = (λ i. cond (sym miss i) None (Some (a, b))) ∙ e in
    let pair : ◌≡◌ {A = EntryValue × EntryValue} (a, b) c = cc in
    let olds : a ≡ c.0 = ap (λ (p : EntryValue × EntryValue). p.0) pair in
    let news : b ≡ c.1 = ap (λ (p : EntryValue × EntryValue). p.1) pair in
    record {
      old = ap Some olds;
      new = ap Some news;
      apart = λ same. true≢false (sym ((same_value_decides a b).1 (olds ∙ same ∙ sym news)) ∙ miss);
    })

-- each entry can be put where it is, or stands for nothing
abbrev pub IsSound : Book → Type 0
IsSound w = (k : EntryKey) (v : EntryValue) → entry_at w k ≡ Some v → (accepts w k v ≡ true) ⊎ (v ≡ nothing_at k)

module _ (w w2 : Book) (frames : frame_of w ≡ frame_of w2) (sound : IsSound w) (sound2 : IsSound w2) where
  fits_new : (k : EntryKey) (c : EntryValue × EntryValue) → Differs (entry_at w k) (entry_at w2 k) c → accepts w k c.1 ≡ true
  fits_new k c h = ⊎_elim
      (λ ok. accepts_at w2 w k c.1 (sym frames) ok)
      (λ none. ⊎_elim
      (λ ok. subst (λ v. accepts w k v ≡ true) (sym none) (accepts-nothing_at w k c.0 ok))
      (λ none2. absurd (h.apart (none2 ∙ sym none)))
      (sound k c.0 h.old))
      (sound2 k c.1 h.new)

  fits_old : (k : EntryKey) (c : EntryValue × EntryValue) → Differs (entry_at w k) (entry_at w2 k) c → accepts w k c.0 ≡ true
  fits_old k c h = ⊎_elim
      (λ ok. ok)
      (λ none. ⊎_elim
      (λ ok. subst (λ v. accepts w k v ≡ true) (sym none) (accepts-nothing_at w k c.1 (accepts_at w2 w k c.1 (sym frames) ok)))
      (λ none2. absurd (h.apart (none ∙ sym none2)))
      (sound2 k c.1 h.new))
      (sound k c.0 h.old)

  -- the changes of a list that has some of them fit
  all_fit : (cs : List Change) → is_sorted key_cmp cs ≡ true
      → ((k : EntryKey) (c : EntryValue × EntryValue) → find key_cmp k cs ≡ Some c → Differs (entry_at w k) (entry_at w2 k) c) → AllFit w cs
  all_fit [] s h = tt
  all_fit (d ∷ cs) s h =
      let sorted = both _ _ s in
      let here : Differs (entry_at w d.0) (entry_at w2 d.0) d.1 = h d.0 d.1 (ap (λ b. cond b (Some d.1) (find key_cmp d.0 cs)) (is_itself d.0)) in (
        fits_new d.0 d.1 here,
        fits_old d.0 d.1 here,
        all_fit cs sorted.1 (λ k c e. h k c
            (decide (eq_by_cmp key_cmp k d.0)
            (λ hit. let none : find key_cmp k cs ≡ None = ap (λ q. find key_cmp q cs) (is_one k d.0 hit) ∙ find_below d.0 cs sorted.0 in
            absurd (let never : ◌≡◌ {A = Option (EntryValue × EntryValue)} None (Some c) = sym none ∙ e in cc))
            (λ miss. ap (λ b. cond b (Some d.1) (find key_cmp k cs)) miss ∙ e))),
      )

  module _ (own : HasDistinctIds w) (own2 : HasDistinctIds w2) (ds : List Diff) (is : IsRecord w w2 ds) where
    -- its changes can be put in either workbook
    pub fit : AllFit w is.changes
    fit = all_fit is.changes is.ordered (λ k c e. differs (entry_at w k) (entry_at w2 k) c (sym (is.exact k) ∙ e))

    -- a record takes the earlier workbook to the later one
    pub record_forward : untested_after w ds ≡ Ok w2
    record_forward =
        forward_done 0 w w ds is.changes is.made_of refl fit
        ∙ ap Ok (sym (same_book w2 (put_news w is.changes) own2 (sym frames ∙ sym (frame_of-put_news w is.changes)) (λ q.
        sym (entry_at-put_news w w is.changes refl is.ordered fit q ∙ ap (λ c. after c (entry_at w q)) (is.exact q) ∙ after-changed (entry_at w q) (entry_at w2 q) (is_some-entry_at w w2 q frames)))))

    -- and the later one back to it
    pub record_back : untested_before w2 ds ≡ Ok w
    record_back =
        back_done 0 w w2 ds is.changes is.made_of frames fit
        ∙ ap Ok (sym (same_book w (put_olds w2 is.changes) own (frames ∙ sym (frame_of-put_olds w2 is.changes)) (λ q.
        sym (entry_at-put_olds w w2 is.changes frames fit q ∙ ap (λ c. before c (entry_at w2 q)) (is.exact q) ∙ before-changed (entry_at w q) (entry_at w2 q) (is_some-entry_at w w2 q frames)))))
