-- What diffs do to a workbook, forward and back.
use Rattle.std.proofs.Common.{ℕ, ◌+◌, List, [], ◌∷◌, length, Option, Some, None, Result, Ok, Err}
use Rattle.std.specs.Prelude.{IfSome, All, if◌then◌else◌}
use Rattle.base_values.specs.declared.EditError.{EditError}
use Rattle.base_values.specs.declared.EditError.TheVariants.{DiffRefused}
use Rattle.base_values.specs.Answers.{and_then}
use Rattle.sheet_grid.specs.Book.{Book}
use Rattle.sheet_grid.specs.Sheet.{Sheet}
use Rattle.sheet_grid.specs.CanonicalCell.{IsCanonicalCell}
use Rattle.sheet_rules.specs.WellFormed.{broken_rule}
use Rattle.sheet_lines.specs.Back.{AreCanonicalLines}
use Rattle.book_sheets.specs.SheetDiffs.{IsCanonicalSheet, new_forward, new_back, copy_forward, copy_back, deletion_forward, deletion_back, sheet_moves}
use Rattle.book_names.specs.Renaming.{AreCanonicalTrees}
use Rattle.book_names.specs.RenameDiffs.{rename_forward, rename_back}
use Rattle.name_edits.specs.NameChanges.{IsCanonicalChange}
use Rattle.name_edits.specs.NameDiffs.{name_forward, name_back}
use Rattle.rule_edits.specs.RuleChanges as rule_changes
use Rattle.sheet_history.specs.declared.diff.Diff.{Diff}
use Rattle.sheet_history.specs.declared.diff.Diff.TheVariants.{Cell as CellDiff, Link as LinkDiff, Merges as MergesDiff, Field as FieldDiff, Lines as LinesDiff, NewSheet as NewDiff, DuplicateSheet as CopyDiff, DeleteSheet as DeletionDiff, MoveSheet as MoveDiff, RenameSheet as RenameDiff, ChangeName as NameDiff, Rule as RuleDiff, Attributes as AttrDiff, Setting as SettingDiff}
use Rattle.sheet_history.specs.declared.diff.DiffType.{DiffType}
use Rattle.sheet_history.specs.declared.diff.DiffType.TheVariants.{Undo, Redo}
use Rattle.sheet_history.specs.declared.diff.QueueDiffs.{QueueDiffs}
use Rattle.sheet_history.specs.Entries.{EntryKey, EntryValue, value_fits, with_sheet_entry, accepts, put_entry}
use Rattle.sheet_history.specs.Entries.EntryKey.{CellKey, LinkKey, MergesKey, FieldKey, AttrKey}
use Rattle.sheet_history.specs.Entries.EntryValue.{CellValue, LinkValue, MergesValue, FieldValue, AttrValue}
use Rattle.sheet_history.specs.Fields.{old_of, new_of, changed_field}
use Rattle.sheet_history.specs.LineDiffs.{along_of, lines_forward, lines_back}
use Rattle.sheet_history.specs.RuleDiffs.{rule_put}
use Rattle.sheet_history.specs.Settings.{with_setting, new_setting, old_setting}

-- the sheet with a value at a key. Where it may not stand there, the diff of that number is refused
abbrev pub sheet_put : ℕ → EntryKey → EntryValue → Sheet → Result Sheet EditError
sheet_put at key value sheet = if value_fits key value then Ok (with_sheet_entry key value sheet) else Err (DiffRefused 0 at)

-- the workbook with a value at a key. Where it cannot be put there, the diff of that number is refused
unfoldable pub put_in : ℕ → Book → EntryKey → EntryValue → Result Book EditError
put_in at book key value = if accepts book key value then Ok (put_entry book key value) else Err (DiffRefused 0 at)

-- forward puts the new value, makes the change of the conditional rules of a sheet, edits the lines, makes the change of the list of sheets or of
-- the defined names, renames a sheet, or makes a setting
abbrev pub step_forward : ℕ → Book → Diff → Result Book EditError
step_forward at book (CellDiff sheet place old new) = put_in at book (CellKey sheet place) (CellValue new)
step_forward at book (LinkDiff sheet place old new) = put_in at book (LinkKey sheet place) (LinkValue new)
step_forward at book (MergesDiff sheet old new) = put_in at book (MergesKey sheet) (MergesValue new)
step_forward at book (FieldDiff sheet change) = put_in at book (FieldKey sheet (changed_field change)) (FieldValue (new_of change))
step_forward at book (AttrDiff sheet axis line old new) = put_in at book (AttrKey sheet axis line) (AttrValue new)
step_forward at book (RuleDiff sheet change) = rule_put at sheet change book
step_forward at book (LinesDiff sheet axis edit kept) = lines_forward at (along_of axis) sheet edit kept book
step_forward at book (NewDiff sheet index name) = new_forward at sheet index name book
step_forward at book (CopyDiff source sheet index name) = copy_forward at source sheet index name book
step_forward at book (DeletionDiff index kept) = deletion_forward at kept book
step_forward at book (MoveDiff sheet from to) = sheet_moves at sheet from to book
step_forward at book (RenameDiff sheet old new kept) = rename_forward at sheet old new kept book
step_forward at book (NameDiff change kept) = name_forward at change kept book
step_forward at book (SettingDiff change) = Ok (with_setting (new_setting change) book)

-- back puts the old value, makes the opposite change of the conditional rules, takes the lines back, or the change of the list of sheets or of the defined names, or gives a sheet its old name or
-- the workbook its old setting back
abbrev pub step_back : ℕ → Book → Diff → Result Book EditError
step_back at book (CellDiff sheet place old new) = put_in at book (CellKey sheet place) (CellValue old)
step_back at book (LinkDiff sheet place old new) = put_in at book (LinkKey sheet place) (LinkValue old)
step_back at book (MergesDiff sheet old new) = put_in at book (MergesKey sheet) (MergesValue old)
step_back at book (FieldDiff sheet change) = put_in at book (FieldKey sheet (changed_field change)) (FieldValue (old_of change))
step_back at book (AttrDiff sheet axis line old new) = put_in at book (AttrKey sheet axis line) (AttrValue old)
step_back at book (RuleDiff sheet change) = rule_put at sheet (rule_changes.opposite change) book
step_back at book (LinesDiff sheet axis edit kept) = lines_back at (along_of axis) sheet edit kept book
step_back at book (NewDiff sheet index name) = new_back at sheet book
step_back at book (CopyDiff source sheet index name) = copy_back at sheet book
step_back at book (DeletionDiff index kept) = deletion_back at index kept book
step_back at book (MoveDiff sheet from to) = sheet_moves at sheet to from book
step_back at book (RenameDiff sheet old new kept) = rename_back at sheet old new kept book
step_back at book (NameDiff change kept) = name_back at change kept book
step_back at book (SettingDiff change) = Ok (with_setting (old_setting change) book)

-- the diffs in order, where the first has the number at
abbrev pub forward_from : ℕ → Book → List Diff → Result Book EditError
forward_from at book [] = Ok book
forward_from at book (diff ∷ diffs) = and_then (step_forward at book diff) (λ next. forward_from (at + 1) next diffs)

-- the diffs in reverse order, where the first has the number at
abbrev pub back_from : ℕ → Book → List Diff → Result Book EditError
back_from at book [] = Ok book
back_from at book (diff ∷ diffs) = and_then (back_from (at + 1) book diffs) (λ next. step_back at next diff)

-- the workbook after the changes of a list, made in order, whether or not it is well-formed
abbrev pub untested_after : Book → List Diff → Result Book EditError
untested_after book diffs = forward_from 0 book diffs

-- the workbook before the changes of a list: they are taken back, the last one first. It may break rules
abbrev pub untested_before : Book → List Diff → Result Book EditError
untested_before book diffs = back_from 0 book diffs

-- a workbook that breaks no rule. Where it breaks one, the diff of the given number is refused
unfoldable pub by_rule : ℕ → Book → Option ℕ → Result Book EditError
by_rule at book None = Ok book
by_rule at book (Some rule) = Err (DiffRefused 0 at)

-- a resulting workbook that has to break no rule
abbrev pub tested : ℕ → Result Book EditError → Result Book EditError
tested at answer = and_then answer (λ book. by_rule at book (broken_rule book))

-- the well-formed workbook after the changes of a list. Where it breaks a rule, the number behind the last diff is refused
abbrev pub book_after : Book → List Diff → Result Book EditError
book_after book diffs = tested (length diffs) (untested_after book diffs)

-- the well-formed workbook before them
abbrev pub book_before : Book → List Diff → Result Book EditError
book_before book diffs = tested (length diffs) (untested_before book diffs)

-- a sent list followed in its direction
abbrev pub follow : DiffType → Book → List Diff → Result Book EditError
follow Undo book diffs = book_before book diffs
follow Redo book diffs = book_after book diffs

-- a refusal of a diff names the entry that it comes from
abbrev pub of_entry : ℕ → EditError → EditError
of_entry at (DiffRefused entry diff) = DiffRefused at diff
of_entry at error = error

abbrev pub in_entry : ℕ → Result Book EditError → Result Book EditError
in_entry at (Err error) = Err (of_entry at error)
in_entry at (Ok book) = Ok book

-- sent lists followed one after another, where the first has the number at
abbrev pub replayed_from : ℕ → Book → List QueueDiffs → Result Book EditError
replayed_from at book [] = Ok book
replayed_from at book (entry ∷ entries) = and_then (in_entry at (follow entry.kind book entry.list)) (λ next. replayed_from (at + 1) next entries)

-- the workbook after all entries of a queue
abbrev pub replayed : Book → List QueueDiffs → Result Book EditError
replayed book entries = replayed_from 0 book entries

-- every number of what a diff holds is canonical
abbrev pub IsCanonicalDiff : Diff → Type 0
IsCanonicalDiff (CellDiff sheet place old new) = IfSome old IsCanonicalCell × IfSome new IsCanonicalCell
IsCanonicalDiff (LinkDiff sheet place old new) = Unit {0}
IsCanonicalDiff (MergesDiff sheet old new) = Unit {0}
IsCanonicalDiff (FieldDiff sheet change) = Unit {0}
IsCanonicalDiff (AttrDiff sheet axis line old new) = Unit {0}
IsCanonicalDiff (RuleDiff sheet change) = rule_changes.IsCanonicalChange change
IsCanonicalDiff (LinesDiff sheet axis edit kept) = AreCanonicalLines kept
IsCanonicalDiff (NewDiff sheet index name) = Unit {0}
IsCanonicalDiff (CopyDiff source sheet index name) = Unit {0}
IsCanonicalDiff (DeletionDiff index kept) = IsCanonicalSheet kept
IsCanonicalDiff (MoveDiff sheet from to) = Unit {0}
IsCanonicalDiff (RenameDiff sheet old new kept) = AreCanonicalTrees kept
IsCanonicalDiff (NameDiff change kept) = IsCanonicalChange change × AreCanonicalTrees kept
IsCanonicalDiff (SettingDiff change) = Unit {0}

abbrev pub IsCanonicalList : List Diff → Type 0
IsCanonicalList diffs = All IsCanonicalDiff diffs

-- so are those of every list of a queue
abbrev pub IsCanonicalQueue : List QueueDiffs → Type 0
IsCanonicalQueue entries = All (λ entry. IsCanonicalList entry.list) entries
