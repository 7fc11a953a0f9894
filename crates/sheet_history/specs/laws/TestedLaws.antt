-- Lists whose results are tested.
use Rattle.std.proofs.Common.{◌≡◌, ℕ, Bool, true, false, cond, List, [], ◌∷◌, length, Option, Some, None, Result, Ok, Err, refl, ap, sym, subst, ◌∙◌}
use Rattle.std.specs.Prelude.{is_some}
use Rattle.base_values.specs.declared.EditError.{EditError}
use Rattle.base_values.specs.declared.EditError.TheVariants.{DiffRefused}
use Rattle.base_values.specs.declared.Position.{Position}
use Rattle.sheet_grid.specs.declared.Cell.{Cell}
use Rattle.sheet_grid.specs.declared.Link.{Link}
use Rattle.sheet_grid.specs.Book.{Book}
use Rattle.sheet_rules.specs.laws.EntryLaws.{both}
use Rattle.sheet_rules.specs.WellFormed.{broken_rule, IsWellFormed}
use Rattle.sheet_ids.specs.Ids.{sheet_of}
use Rattle.sheet_history.specs.Entries.{EntryKey, EntryValue, setting_of, sheet_id_of, value_fits, entry_accepted, put_entry, accepts}
use Rattle.sheet_history.specs.Entries.EntryKey.{CellKey, LinkKey, FieldKey}
use Rattle.sheet_history.specs.Entries.EntryValue.{CellValue, LinkValue, FieldValue}
use Rattle.sheet_history.specs.Untested.{cell_keeps_rules, entry_has_font, may_stand_on, keeps_rules}
use Rattle.sheet_history.specs.declared.setting.Setting.{Setting}
use Rattle.sheet_history.specs.Settings.{with_setting, new_setting, old_setting}
use Rattle.sheet_history.specs.laws.SettingLaws.{setting_well_formed}
use Rattle.sheet_history.specs.laws.RuleLaws.{well_formed-cell, well_formed-link, well_formed-field}
use Rattle.sheet_history.specs.declared.diff.Diff.{Diff}
use Rattle.sheet_history.specs.declared.diff.Diff.TheVariants.{Cell as CellDiff, Link as LinkDiff, Merges as MergesDiff, Field as FieldDiff, Lines as LinesDiff, NewSheet as NewDiff, DuplicateSheet as CopyDiff, DeleteSheet as DeletionDiff, MoveSheet as MoveDiff, RenameSheet as RenameDiff, ChangeName as NameDiff, Rule as RuleDiff, Attributes as AttrDiff, Setting as SettingDiff}
use Rattle.sheet_history.specs.declared.diff.DiffType.{DiffType}
use Rattle.sheet_history.specs.declared.diff.DiffType.TheVariants.{Undo, Redo}
use Rattle.sheet_history.specs.declared.field.SheetField.{SheetField}
use Rattle.sheet_history.specs.Fields.{Field, may_have, old_of, new_of, changed_field}
use Rattle.sheet_history.specs.Diffs.{put_in, by_rule, tested, untested_after, untested_before, book_after, book_before, follow, of_entry, in_entry}
use Rattle.sheet_history.specs.laws.ReplayLaws.{and_then-Ok}

-- what is put was accepted, and is there
pub put_in-done : (at : ℕ) (book : Book) (k : EntryKey) (v : EntryValue) (next : Book) → put_in at book k v ≡ Ok next → (accepts book k v ≡ true) × (put_entry book k v ≡ next)
unfolding put_in
put_in-done at book k v next is = go (accepts book k v) refl is
  where
    go : (b : Bool) → accepts book k v ≡ b → cond b (Ok (put_entry book k v)) (Err (DiffRefused 0 at)) ≡ Ok next → (accepts book k v ≡ true) × (put_entry book k v ≡ next)
    go true fits done = (fits, cc)
    go false fits done = absurd (let never : ◌≡◌ {A = Result Book EditError} (Err (DiffRefused 0 at)) (Ok next) = done in cc)

-- it may stand at its key of a sheet
fits_of : (book : Book) (k : EntryKey) (v : EntryValue) → setting_of k ≡ None → accepts book k v ≡ true → value_fits k v ≡ true
unfolding accepts
fits_of book k v none h = (both (is_some (sheet_of book (sheet_id_of k))) (value_fits k v) ((λ i. entry_accepted (sym none i) k v book) ∙ h)).1

-- a cell that is put in a well-formed workbook, and keeps the rules, leaves one
cell_rules : (at : ℕ) (book : Book) (id : ℕ) (place : Position) (entry : Option Cell) (next : Book) → cell_keeps_rules (sheet_of book id) place entry ≡ true → IsWellFormed book
    → put_in at book (CellKey id place) (CellValue entry) ≡ Ok next → IsWellFormed next
cell_rules at book id place entry next keeps rules is =
    let done = put_in-done at book (CellKey id place) (CellValue entry) next is in
    let parts = both (entry_has_font entry) (may_stand_on (sheet_of book id) place entry) keeps in
    subst IsWellFormed done.1 (well_formed-cell book id place entry rules (fits_of book (CellKey id place) (CellValue entry) refl done.0) parts.0 parts.1)

-- so does a link
link_rules : (at : ℕ) (book : Book) (id : ℕ) (place : Position) (entry : Option Link) (next : Book) → IsWellFormed book → put_in at book (LinkKey id place) (LinkValue entry) ≡ Ok next → IsWellFormed next
link_rules at book id place entry next rules is =
    let done = put_in-done at book (LinkKey id place) (LinkValue entry) next is in
    subst IsWellFormed done.1 (well_formed-link book id place entry rules (fits_of book (LinkKey id place) (LinkValue entry) refl done.0))

-- and a field of a sheet that may have its value
field_rules : (at : ℕ) (book : Book) (id : ℕ) (field : Field) (v : SheetField) (next : Book) → may_have v ≡ true → IsWellFormed book → put_in at book (FieldKey id field) (FieldValue v) ≡ Ok next → IsWellFormed next
field_rules at book id field v next may rules is =
    let done = put_in-done at book (FieldKey id field) (FieldValue v) next is in
    subst IsWellFormed done.1 (well_formed-field book id field v may rules)

-- a workbook that breaks no rule passes
pub by_rule-kept : (at : ℕ) (book : Book) → IsWellFormed book → by_rule at book (broken_rule book) ≡ Ok book
unfolding by_rule
by_rule-kept at book rules = ap (by_rule at book) rules

rule_of : (at : ℕ) (book next : Book) (o : Option ℕ) → broken_rule book ≡ o → by_rule at book o ≡ Ok next → IsWellFormed next
unfolding by_rule
rule_of at book next None is done = let same : book ≡ next = cc in subst IsWellFormed same is
rule_of at book next (Some rule) is done = absurd (let never : ◌≡◌ {A = Result Book EditError} (Err (DiffRefused 0 at)) (Ok next) = done in cc)

-- what passes is well-formed
pub tested_rules : (at : ℕ) (answer : Result Book EditError) (next : Book) → tested at answer ≡ Ok next → IsWellFormed next
tested_rules at (Ok book) next done = rule_of at book next (broken_rule book) refl done
tested_rules at (Err error) next done = absurd (let never : ◌≡◌ {A = Result Book EditError} (Err error) (Ok next) = done in cc)

-- an answer whose workbook is well-formed passes
pub tested_same : (at : ℕ) (answer : Result Book EditError) → ((next : Book) → answer ≡ Ok next → IsWellFormed next) → tested at answer ≡ answer
tested_same at (Ok book) rules = by_rule-kept at book (rules book refl)
tested_same at (Err error) rules = refl

same_of : (book next : Book) → ◌≡◌ {A = Result Book EditError} (Ok book) (Ok next) → book ≡ next
same_of book next is = cc

-- a setting
setting_rules : (book : Book) (setting : Setting) (next : Book) → IsWellFormed book → ◌≡◌ {A = Result Book EditError} (Ok (with_setting setting book)) (Ok next) → IsWellFormed next
setting_rules book setting next rules is = subst IsWellFormed (same_of (with_setting setting book) next is) (setting_well_formed setting book rules)

made_rules : (book : Book) (diffs : List Diff) → keeps_rules Redo book diffs ≡ true → IsWellFormed book → (next : Book) → untested_after book diffs ≡ Ok next → IsWellFormed next
made_rules book [] keeps rules next is = subst IsWellFormed (same_of book next is) rules
made_rules book (CellDiff id place old new ∷ []) keeps rules next is = cell_rules 0 book id place new next keeps rules (sym (and_then-Ok _) ∙ is)
made_rules book (LinkDiff id place old new ∷ []) keeps rules next is = link_rules 0 book id place new next rules (sym (and_then-Ok _) ∙ is)
made_rules book (MergesDiff id old new ∷ []) keeps rules next is = absurd (cc)
made_rules book (FieldDiff id change ∷ []) keeps rules next is = field_rules 0 book id (changed_field change) (new_of change) next keeps rules (sym (and_then-Ok _) ∙ is)
made_rules book (AttrDiff id axis line old new ∷ []) keeps rules next is = absurd (cc)
made_rules book (RuleDiff id change ∷ []) keeps rules next is = absurd (cc)
made_rules book (LinesDiff id axis edit kept ∷ []) keeps rules next is = absurd (cc)
made_rules book (NewDiff id index name ∷ []) keeps rules next is = absurd (cc)
made_rules book (CopyDiff source id index name ∷ []) keeps rules next is = absurd (cc)
made_rules book (DeletionDiff index kept ∷ []) keeps rules next is = absurd (cc)
made_rules book (MoveDiff id from to ∷ []) keeps rules next is = absurd (cc)
made_rules book (RenameDiff id old new kept ∷ []) keeps rules next is = absurd (cc)
made_rules book (NameDiff change kept ∷ []) keeps rules next is = absurd (cc)
made_rules book (SettingDiff change ∷ []) keeps rules next is = setting_rules book (new_setting change) next rules is
made_rules book (first ∷ second ∷ rest) keeps rules next is = absurd (cc)

taken_back_rules : (book : Book) (diffs : List Diff) → keeps_rules Undo book diffs ≡ true → IsWellFormed book → (next : Book) → untested_before book diffs ≡ Ok next → IsWellFormed next
taken_back_rules book [] keeps rules next is = subst IsWellFormed (same_of book next is) rules
taken_back_rules book (CellDiff id place old new ∷ []) keeps rules next is = cell_rules 0 book id place old next keeps rules is
taken_back_rules book (LinkDiff id place old new ∷ []) keeps rules next is = link_rules 0 book id place old next rules is
taken_back_rules book (MergesDiff id old new ∷ []) keeps rules next is = absurd (cc)
taken_back_rules book (FieldDiff id change ∷ []) keeps rules next is = field_rules 0 book id (changed_field change) (old_of change) next keeps rules is
taken_back_rules book (AttrDiff id axis line old new ∷ []) keeps rules next is = absurd (cc)
taken_back_rules book (RuleDiff id change ∷ []) keeps rules next is = absurd (cc)
taken_back_rules book (LinesDiff id axis edit kept ∷ []) keeps rules next is = absurd (cc)
taken_back_rules book (NewDiff id index name ∷ []) keeps rules next is = absurd (cc)
taken_back_rules book (CopyDiff source id index name ∷ []) keeps rules next is = absurd (cc)
taken_back_rules book (DeletionDiff index kept ∷ []) keeps rules next is = absurd (cc)
taken_back_rules book (MoveDiff id from to ∷ []) keeps rules next is = absurd (cc)
taken_back_rules book (RenameDiff id old new kept ∷ []) keeps rules next is = absurd (cc)
taken_back_rules book (NameDiff change kept ∷ []) keeps rules next is = absurd (cc)
taken_back_rules book (SettingDiff change ∷ []) keeps rules next is = setting_rules book (old_setting change) next rules is
taken_back_rules book (first ∷ second ∷ rest) keeps rules next is = absurd (cc)

-- the result of such a list needs no test
pub book_after-untested_after : (book : Book) (diffs : List Diff) → keeps_rules Redo book diffs ≡ true → IsWellFormed book → book_after book diffs ≡ untested_after book diffs
book_after-untested_after book diffs keeps rules = tested_same (length diffs) (untested_after book diffs) (made_rules book diffs keeps rules)

pub book_before-untested_before : (book : Book) (diffs : List Diff) → keeps_rules Undo book diffs ≡ true → IsWellFormed book → book_before book diffs ≡ untested_before book diffs
book_before-untested_before book diffs keeps rules = tested_same (length diffs) (untested_before book diffs) (taken_back_rules book diffs keeps rules)

-- what follows a list is well-formed
follow_rules : (kind : DiffType) (book : Book) (diffs : List Diff) (next : Book) → follow kind book diffs ≡ Ok next → IsWellFormed next
follow_rules Undo book diffs next is = tested_rules (length diffs) (untested_before book diffs) next is
follow_rules Redo book diffs next is = tested_rules (length diffs) (untested_after book diffs) next is

in_entry_is : (at : ℕ) (answer : Result Book EditError) (next : Book) → in_entry at answer ≡ Ok next → answer ≡ Ok next
in_entry_is at (Ok book) next is = is
in_entry_is at (Err error) next is = absurd (let never : ◌≡◌ {A = Result Book EditError} (Err (of_entry at error)) (Ok next) = is in cc)

pub entry_rules : (at : ℕ) (kind : DiffType) (book : Book) (diffs : List Diff) (next : Book) → in_entry at (follow kind book diffs) ≡ Ok next → IsWellFormed next
entry_rules at kind book diffs next is = follow_rules kind book diffs next (in_entry_is at (follow kind book diffs) next is)
