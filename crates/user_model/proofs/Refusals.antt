-- The entries of another copy's queue are refused by a diff alone.
use Rattle.std.proofs.Common.{◌≡◌, ℕ, ◌+◌, ◌&&◌, Bool, true, false, cond, List, [], ◌∷◌, length, Option, Some, None, Result, Ok, Err, subst}
use Rattle.std.specs.Prelude.{nat_lt}
use Rattle.base_values.specs.declared.EditError.{EditError}
use Rattle.base_values.specs.declared.EditError.TheVariants.{DiffRefused, ParseDiffs}
use Rattle.base_values.specs.Answers.{and_then, map_ok}
use Rattle.base_axis.specs.Along.{Along}
use Rattle.line_edits.specs.declared.EditKind.{EditKind}
use Rattle.defined_names.specs.declared.DefinedName.{DefinedName}
use Rattle.defined_names.specs.Names.{names_copied, names_left, names_restored}
use Rattle.sheet_grid.specs.Sheet.{Sheet, new_sheet}
use Rattle.sheet_grid.specs.Book.{Book, index_of}
use Rattle.sheet_rules.specs.WellFormed.{broken_rule}
use Rattle.sheet_ids.specs.Ids.{sheet_of}
use Rattle.sheet_lines.specs.declared.KeptLines.{KeptLines}
use Rattle.sheet_lines.specs.Followed.{book_followed}
use Rattle.sheet_lines.specs.Back.{book_back}
use Rattle.book_sheets.specs.declared.KeptSheet.{KeptSheet}
use Rattle.book_sheets.specs.SheetDiffs.{copied_from, copy_back, copy_forward, deletion_back, deletion_forward, goes_from, may_come, may_come_back, moved_from, new_back, new_forward, sheet_as, sheet_comes, sheet_goes, is_sheet_inside, sheet_moves, with_sheet_at}
use Rattle.book_names.specs.declared.KeptTrees.{KeptTrees}
use Rattle.book_names.specs.Renaming.{book_renamed}
use Rattle.book_names.specs.Renaming.{book_back as named_back}
use Rattle.book_names.specs.RenameDiffs.{rename_forward, rename_back}
use Rattle.book_names.specs.RenameDiffs.{goes_forward as may_rename, goes_back as may_rename_back}
use Rattle.name_edits.specs.declared.NameChange.{NameChange}
use Rattle.name_edits.specs.NameChanges.{name_made, name_unmade}
use Rattle.name_edits.specs.NameDiffs.{name_forward, name_back}
use Rattle.name_edits.specs.NameDiffs.{goes_forward as may_change, goes_back as may_change_back}
use Rattle.rule_edits.specs.declared.RuleChange.{RuleChange}
use Rattle.rule_edits.specs.RuleChanges.{opposite}
use Rattle.sheet_history.specs.RuleDiffs.{book_rules_changed, rule_put, takes_change}
use Rattle.sheet_history.specs.declared.Diff.{Diff}
use Rattle.sheet_history.specs.declared.Diff.TheVariants.{Cell as CellDiff, Link as LinkDiff, Merges as MergesDiff, Field as FieldDiff, Lines as LinesDiff, NewSheet as NewDiff, DuplicateSheet as CopyDiff, DeleteSheet as DeletionDiff, MoveSheet as MoveDiff, RenameSheet as RenameDiff, ChangeName as NameDiff, Attributes as AttrDiff, Setting as SettingDiff, Rule as RuleDiff}
use Rattle.sheet_history.specs.declared.DiffType.{DiffType}
use Rattle.sheet_history.specs.declared.DiffType.TheVariants.{Undo, Redo}
use Rattle.sheet_history.specs.declared.QueueDiffs.{QueueDiffs}
use Rattle.sheet_history.specs.Entries.{EntryKey, EntryValue, accepts, put_entry}
use Rattle.sheet_history.specs.Entries.EntryKey.{CellKey, LinkKey, MergesKey, FieldKey}
use Rattle.sheet_history.specs.Entries.EntryValue.{CellValue, LinkValue, MergesValue, FieldValue}
use Rattle.sheet_history.specs.Entries.EntryKey.{AttrKey}
use Rattle.sheet_history.specs.Entries.EntryValue.{AttrValue}
use Rattle.sheet_history.specs.Fields.{changed_field, new_of, old_of}
use Rattle.sheet_history.specs.LineDiffs.{along_of, goes_forward, goes_back, lines_forward, lines_back}
use Rattle.sheet_history.specs.Diffs.{put_in, step_forward, step_back, forward_from, back_from, by_rule, tested, follow, in_entry}
use Rattle.open_book.specs.Document.{Document}
use Rattle.open_book.specs.Machine.{State, go_on, outside, applied_from}
use Rattle.open_book.specs.Stands.{Leaves}

abbrev IsOfDiff : EditError → Type 0
IsOfDiff (DiffRefused entry diff) = Unit {0}
IsOfDiff error = ⊥

abbrev Only : Result Book EditError → Type 0
Only (Ok book) = Unit {0}
Only (Err error) = IsOfDiff error

then_only : (r : Result Book EditError) (f : Book → Result Book EditError) → Only r → ((book : Book) → Only (f book)) → Only (and_then r f)
then_only (Ok book) f h g = g book
then_only (Err error) f h g = h

either_only : (b : Bool) (x y : Result Book EditError) → Only x → Only y → Only (cond b x y)
either_only true x y h k = h
either_only false x y h k = k

put_only : (at : ℕ) (book : Book) (key : EntryKey) (value : EntryValue) → Only (put_in at book key value)
unfolding put_in
put_only at book key value = either_only (accepts book key value) (Ok (put_entry book key value)) (Err (DiffRefused 0 at)) tt tt

forward_only : (at : ℕ) (a : Along) (id : ℕ) (e : EditKind) (kept : KeptLines) (book : Book) → Only (lines_forward at a id e kept book)
unfolding lines_forward
forward_only at a id e kept book = either_only (goes_forward a id e kept book) (Ok (book_followed a e id book)) (Err (DiffRefused 0 at)) tt tt

back_only : (at : ℕ) (a : Along) (id : ℕ) (e : EditKind) (kept : KeptLines) (book : Book) → Only (lines_back at a id e kept book)
unfolding lines_back
back_only at a id e kept book = either_only (goes_back a id e kept book) (Ok (book_back a e id kept book)) (Err (DiffRefused 0 at)) tt tt

-- ---- the list of the sheets

comes_only : (at index : ℕ) (sheet : Sheet) (names : List DefinedName) (book : Book) → Only (sheet_comes at index sheet names book)
comes_only at index sheet names book = either_only (may_come index sheet.id book) (Ok (with_sheet_at index sheet names book)) (Err (DiffRefused 0 at)) tt tt

goes_only : (at : ℕ) (names : List DefinedName) (book : Book) (index : Option ℕ) → Only (goes_from at index names book)
goes_only at names book None = tt
goes_only at names book (Some index) = tt

new_only : (at id index : ℕ) (name : List ℕ) (book : Book) → Only (new_forward at id index name book)
unfolding new_forward
new_only at id index name book = comes_only at index (new_sheet id name) book.names book

new_back_only : (at id : ℕ) (book : Book) → Only (new_back at id book)
unfolding new_back
new_back_only at id book = goes_only at book.names book (index_of book id)

copy_only : (at source id index : ℕ) (name : List ℕ) (book : Book) → Only (copy_forward at source id index name book)
unfolding copy_forward
copy_only at source id index name book = of (sheet_of book source)
  where
    of : (o : Option Sheet) → Only (copied_from at o source id index name book)
    of None = tt
    of (Some sheet) = comes_only at index (sheet_as id name sheet) (names_copied source id book.names) book

copy_back_only : (at id : ℕ) (book : Book) → Only (copy_back at id book)
unfolding copy_back
copy_back_only at id book = goes_only at (names_left id book.names) book (index_of book id)

deletion_only : (at : ℕ) (kept : KeptSheet) (book : Book) → Only (deletion_forward at kept book)
unfolding deletion_forward
deletion_only at kept book =
    either_only (is_sheet_inside kept.sheet) (sheet_goes at kept.sheet.id (names_left kept.sheet.id book.names) book) (Err (DiffRefused 0 at))
    (goes_only at (names_left kept.sheet.id book.names) book (index_of book kept.sheet.id)) tt

deletion_back_only : (at index : ℕ) (kept : KeptSheet) (book : Book) → Only (deletion_back at index kept book)
unfolding deletion_back
deletion_back_only at index kept book =
    either_only (may_come_back (length book.names) kept) (sheet_comes at index kept.sheet (names_restored kept.names book.names) book) (Err (DiffRefused 0 at))
    (comes_only at index kept.sheet (names_restored kept.names book.names) book) tt

moves_only : (at id other to : ℕ) (book : Book) → Only (sheet_moves at id other to book)
unfolding sheet_moves
moves_only at id other to book =
    either_only (nat_lt other (length book.worksheets) && nat_lt to (length book.worksheets)) (moved_from at (index_of book id) to book) (Err (DiffRefused 0 at)) (from (index_of book id)) tt
  where
    from : (o : Option ℕ) → Only (moved_from at o to book)
    from None = tt
    from (Some index) = tt

rename_only : (at id : ℕ) (old new : List ℕ) (kept : KeptTrees) (book : Book) → Only (rename_forward at id old new kept book)
unfolding rename_forward
rename_only at id old new kept book = either_only (may_rename id kept book) (Ok (book_renamed id old new book)) (Err (DiffRefused 0 at)) tt tt

rename_back_only : (at id : ℕ) (old new : List ℕ) (kept : KeptTrees) (book : Book) → Only (rename_back at id old new kept book)
unfolding rename_back
rename_back_only at id old new kept book = either_only (may_rename_back id kept book) (Ok (named_back id old new kept book)) (Err (DiffRefused 0 at)) tt tt

name_only : (at : ℕ) (change : NameChange) (kept : KeptTrees) (book : Book) → Only (name_forward at change kept book)
unfolding name_forward
name_only at change kept book = either_only (may_change change kept book) (Ok (name_made change book)) (Err (DiffRefused 0 at)) tt tt

name_back_only : (at : ℕ) (change : NameChange) (kept : KeptTrees) (book : Book) → Only (name_back at change kept book)
unfolding name_back
name_back_only at change kept book = either_only (may_change_back change kept book) (Ok (name_unmade change kept book)) (Err (DiffRefused 0 at)) tt tt

-- ---- conditional rules

rule_put_only : (at id : ℕ) (change : RuleChange) (book : Book) → Only (rule_put at id change book)
unfolding rule_put
rule_put_only at id change book = either_only (takes_change change (sheet_of book id)) (Ok (book_rules_changed id change book)) (Err (DiffRefused 0 at)) tt tt

-- ---- lists

step_only : (at : ℕ) (book : Book) (diff : Diff) → Only (step_forward at book diff)
step_only at book (CellDiff sheet place old new) = put_only at book (CellKey sheet place) (CellValue new)
step_only at book (LinkDiff sheet place old new) = put_only at book (LinkKey sheet place) (LinkValue new)
step_only at book (MergesDiff sheet old new) = put_only at book (MergesKey sheet) (MergesValue new)
step_only at book (FieldDiff sheet change) = put_only at book (FieldKey sheet (changed_field change)) (FieldValue (new_of change))
step_only at book (AttrDiff sheet axis line old new) = put_only at book (AttrKey sheet axis line) (AttrValue new)
step_only at book (LinesDiff sheet axis edit kept) = forward_only at (along_of axis) sheet edit kept book
step_only at book (NewDiff sheet index name) = new_only at sheet index name book
step_only at book (CopyDiff source sheet index name) = copy_only at source sheet index name book
step_only at book (DeletionDiff index kept) = deletion_only at kept book
step_only at book (MoveDiff sheet from to) = moves_only at sheet from to book
step_only at book (RenameDiff sheet old new kept) = rename_only at sheet old new kept book
step_only at book (NameDiff change kept) = name_only at change kept book
step_only at book (RuleDiff sheet change) = rule_put_only at sheet change book
step_only at book (SettingDiff change) = tt

step_back_only : (at : ℕ) (book : Book) (diff : Diff) → Only (step_back at book diff)
step_back_only at book (CellDiff sheet place old new) = put_only at book (CellKey sheet place) (CellValue old)
step_back_only at book (LinkDiff sheet place old new) = put_only at book (LinkKey sheet place) (LinkValue old)
step_back_only at book (MergesDiff sheet old new) = put_only at book (MergesKey sheet) (MergesValue old)
step_back_only at book (FieldDiff sheet change) = put_only at book (FieldKey sheet (changed_field change)) (FieldValue (old_of change))
step_back_only at book (AttrDiff sheet axis line old new) = put_only at book (AttrKey sheet axis line) (AttrValue old)
step_back_only at book (LinesDiff sheet axis edit kept) = back_only at (along_of axis) sheet edit kept book
step_back_only at book (NewDiff sheet index name) = new_back_only at sheet book
step_back_only at book (CopyDiff source sheet index name) = copy_back_only at sheet book
step_back_only at book (DeletionDiff index kept) = deletion_back_only at index kept book
step_back_only at book (MoveDiff sheet from to) = moves_only at sheet to from book
step_back_only at book (RenameDiff sheet old new kept) = rename_back_only at sheet old new kept book
step_back_only at book (NameDiff change kept) = name_back_only at change kept book
step_back_only at book (RuleDiff sheet change) = rule_put_only at sheet (opposite change) book
step_back_only at book (SettingDiff change) = tt

made_only : (at : ℕ) (book : Book) (diffs : List Diff) → Only (forward_from at book diffs)
made_only at book [] = tt
made_only at book (diff ∷ diffs) = then_only (step_forward at book diff) (λ next. forward_from (at + 1) next diffs) (step_only at book diff) (λ next. made_only (at + 1) next diffs)

taken_back_only : (at : ℕ) (book : Book) (diffs : List Diff) → Only (back_from at book diffs)
taken_back_only at book [] = tt
taken_back_only at book (diff ∷ diffs) =
    then_only (back_from (at + 1) book diffs) (λ next. step_back at next diff) (taken_back_only (at + 1) book diffs) (λ next. step_back_only at next diff)

rule_only : (at : ℕ) (book : Book) (o : Option ℕ) → Only (by_rule at book o)
unfolding by_rule
rule_only at book None = tt
rule_only at book (Some rule) = tt

tested_only : (at : ℕ) (answer : Result Book EditError) → Only answer → Only (tested at answer)
tested_only at answer h = then_only answer (λ book. by_rule at book (broken_rule book)) h (λ book. rule_only at book (broken_rule book))

follow_only : (kind : DiffType) (book : Book) (diffs : List Diff) → Only (follow kind book diffs)
follow_only Undo book diffs = tested_only (length diffs) (back_from 0 book diffs) (taken_back_only 0 book diffs)
follow_only Redo book diffs = tested_only (length diffs) (forward_from 0 book diffs) (made_only 0 book diffs)

entry_only : (at : ℕ) (answer : Result Book EditError) → Only answer → Only (in_entry at answer)
entry_only at (Ok book) h = tt
entry_only at (Err (DiffRefused entry diff)) h = tt
entry_only at (Err other) h = absurd h

abbrev OnlyDone : Result (Unit {0}) EditError → Type 0
OnlyDone (Ok u) = Unit {0}
OnlyDone (Err error) = IsOfDiff error

applied_only : (at : ℕ) (entries : List QueueDiffs) (s : State) → OnlyDone (applied_from at entries s).1
applied_only at [] s = tt
applied_only at (entry ∷ entries) s =
    go (λ t. applied_only (at + 1) entries t) (in_entry at (follow entry.kind s.present entry.list)) (entry_only at (follow entry.kind s.present entry.list) (follow_only entry.kind s.present entry.list))
  where
    go : ((t : State) → OnlyDone (applied_from (at + 1) entries t).1) → (r : Result Book EditError) → Only r → OnlyDone (go_on s (map_ok (outside entry s) r) (applied_from (at + 1) entries)).1
    go rest (Ok later) h = rest (outside entry s later)
    go rest (Err error) h = h

-- what was read is not refused as unread
pub never_unread : (result : Result (Unit {0}) EditError) (new : Document) (entries : List QueueDiffs) (s : State) → Leaves result new entries s → result ≡ Err ParseDiffs → ⊥
never_unread result new entries s leaves is =
    let left : Leaves (Err ParseDiffs) new entries s = subst (λ r. Leaves r new entries s) is leaves in
    subst OnlyDone left.0 (applied_only 0 entries s)
