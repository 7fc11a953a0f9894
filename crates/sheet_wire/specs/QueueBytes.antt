-- The bytes of a queue of diffs.
use Rattle.std.specs.Prelude.{ℕ, List, ◌∷◌, ◌++◌, IfSome, codes}
use Rattle.std.specs.List.{AllByRecursion}
use Rattle.sheet_history.specs.declared.FieldChange.TheVariants as change
use Rattle.sheet_history.specs.declared.SettingChange.TheVariants as setting
use Rattle.sheet_history.specs.declared.Diff.{Diff}
use Rattle.sheet_history.specs.declared.Diff.TheVariants.{Cell as CellDiff, Link as LinkDiff, Merges as MergesDiff, Field as FieldDiff, Lines as LinesDiff, NewSheet as NewDiff, DuplicateSheet as CopyDiff, DeleteSheet as DeletionDiff, MoveSheet as MoveDiff, RenameSheet as RenameDiff, ChangeName as NameDiff, Rule as RuleDiff, Attributes as AttrDiff, Setting as SettingDiff}
use Rattle.sheet_history.specs.Entries.{line_tag}
use Rattle.sheet_history.specs.declared.DiffType.{DiffType}
use Rattle.sheet_history.specs.declared.DiffType.TheVariants.{Undo, Redo}
use Rattle.sheet_history.specs.declared.QueueDiffs.{QueueDiffs}
use Rattle.base_wire.specs.Reads.{Encodes}
use Rattle.base_wire.specs.Encoding.{encode_code, encode_list, encode_text, FitsItems}
use Rattle.grid_wire.specs.TableBytes.{encode_locale, encode_zone}
use Rattle.grid_wire.specs.ThemeBytes.{encode_theme}
use Rattle.grid_wire.specs.CellBytes.{encode_cell, FitsCell, IsKnownCell}
use Rattle.grid_wire.specs.LinkBytes.{encode_link, FitsLink}
use Rattle.grid_wire.specs.MergeBytes.{encode_merges, FitsMerges}
use Rattle.grid_wire.specs.LineBytes.{IsKnownLine}
use Rattle.sheet_wire.specs.KeptBytes.{IsKnownKept}
use Rattle.sheet_wire.specs.AttrBytes.{encode_attr_change, FitsAttrChange}
use Rattle.sheet_wire.specs.ChangeBytes.{encode_change, FitsChange, encode_sheet_change, FitsSheetChange}
use Rattle.sheet_wire.specs.LinesBytes.{encode_lines, FitsLines}
use Rattle.sheet_wire.specs.SettingBytes.{encode_twice, FitsSetting}
use Rattle.sheet_wire.specs.SheetsBytes.{encode_color_change, encode_state_change, encode_grid_change, encode_count_change, FitsField, encode_new, FitsNew, encode_copy, FitsCopy}
use Rattle.sheet_wire.specs.RulesBytes.{encode_rule, FitsRuleDiff, IsKnownRuleChange}
use Rattle.sheet_wire.specs.TreesBytes.{encode_rename, FitsRename, AreKnownTrees, encode_name_change, FitsNameChange, IsKnownChange}
use Rattle.sheet_wire.specs.SheetsBytes.{encode_deletion, FitsDeletion, IsKnownKeptSheet, encode_move, FitsMove}

-- ---- diffs

-- the tag, and then its fields
abbrev pub encode_diff : Diff → List ℕ
encode_diff (CellDiff sheet place old new) = 1 ∷ encode_change encode_cell sheet place old new
encode_diff (LinkDiff sheet place old new) = 2 ∷ encode_change encode_link sheet place old new
encode_diff (AttrDiff sheet axis line old new) = line_tag axis ∷ encode_attr_change sheet line old new
encode_diff (MergesDiff sheet old new) = 5 ∷ encode_sheet_change encode_merges sheet old new
encode_diff (RuleDiff sheet change) = 6 ∷ encode_rule sheet change
encode_diff (LinesDiff sheet axis edit kept) = 7 ∷ encode_lines sheet axis edit kept
encode_diff (NewDiff sheet index name) = 8 ∷ encode_new sheet index name
encode_diff (CopyDiff source sheet index name) = 9 ∷ encode_copy source sheet index name
encode_diff (DeletionDiff index kept) = 10 ∷ encode_deletion index kept
encode_diff (RenameDiff sheet old new kept) = 11 ∷ encode_rename sheet old new kept
encode_diff (MoveDiff sheet from to) = 12 ∷ encode_move sheet from to
encode_diff (FieldDiff sheet (change.Color old new)) = 13 ∷ encode_color_change sheet old new
encode_diff (FieldDiff sheet (change.State old new)) = 14 ∷ encode_state_change sheet old new
encode_diff (FieldDiff sheet (change.GridLines old new)) = 15 ∷ encode_grid_change sheet old new
encode_diff (SettingDiff (setting.Theme old new)) = 18 ∷ encode_twice encode_theme old new
encode_diff (SettingDiff (setting.Name old new)) = 19 ∷ encode_twice encode_text old new
encode_diff (SettingDiff (setting.Locale old new)) = 20 ∷ encode_twice encode_locale old new
encode_diff (SettingDiff (setting.Zone old new)) = 21 ∷ encode_twice encode_zone old new
encode_diff (NameDiff change kept) = 22 ∷ encode_name_change change kept
encode_diff (FieldDiff sheet (change.FrozenRows old new)) = 16 ∷ encode_count_change sheet old new
encode_diff (FieldDiff sheet (change.FrozenColumns old new)) = 17 ∷ encode_count_change sheet old new

-- its parts are ones that bytes can carry
abbrev pub FitsDiff : Diff → Type 0
FitsDiff (CellDiff sheet place old new) = FitsChange FitsCell sheet place old new
FitsDiff (LinkDiff sheet place old new) = FitsChange FitsLink sheet place old new
FitsDiff (MergesDiff sheet old new) = FitsSheetChange FitsMerges sheet old new
FitsDiff (FieldDiff sheet change) = FitsField sheet change
FitsDiff (AttrDiff sheet axis line old new) = FitsAttrChange sheet line old new
FitsDiff (RuleDiff sheet change) = FitsRuleDiff sheet change
FitsDiff (LinesDiff sheet axis edit kept) = FitsLines sheet edit kept
FitsDiff (NewDiff sheet index name) = FitsNew sheet index name
FitsDiff (CopyDiff source sheet index name) = FitsCopy source sheet index name
FitsDiff (DeletionDiff index kept) = FitsDeletion index kept
FitsDiff (MoveDiff sheet from to) = FitsMove sheet from to
FitsDiff (RenameDiff sheet old new kept) = FitsRename sheet old new kept
FitsDiff (NameDiff change kept) = FitsNameChange change kept
FitsDiff (SettingDiff change) = FitsSetting change

-- what encoding asks of a diff: its numbers are canonical, its formulas are at most 64 deep, and each line has something of its own
abbrev pub IsKnownDiff : Diff → Type 0
IsKnownDiff (CellDiff sheet place old new) = IfSome old IsKnownCell × IfSome new IsKnownCell
IsKnownDiff (LinkDiff sheet place old new) = Unit {0}
IsKnownDiff (MergesDiff sheet old new) = Unit {0}
IsKnownDiff (FieldDiff sheet change) = Unit {0}
IsKnownDiff (AttrDiff sheet axis line old new) = IfSome old IsKnownLine × IfSome new IsKnownLine
IsKnownDiff (RuleDiff sheet change) = IsKnownRuleChange change
IsKnownDiff (LinesDiff sheet axis edit kept) = IsKnownKept kept
IsKnownDiff (NewDiff sheet index name) = Unit {0}
IsKnownDiff (CopyDiff source sheet index name) = Unit {0}
IsKnownDiff (DeletionDiff index kept) = IsKnownKeptSheet kept
IsKnownDiff (MoveDiff sheet from to) = Unit {0}
IsKnownDiff (RenameDiff sheet old new kept) = AreKnownTrees kept
IsKnownDiff (NameDiff change kept) = IsKnownChange change kept
IsKnownDiff (SettingDiff change) = Unit {0}

-- a list of diffs that bytes can carry
abbrev pub FitsList : List Diff → Type 0
FitsList = FitsItems FitsDiff

-- ---- entries

-- undo or redo
abbrev pub direction_code : DiffType → ℕ
direction_code Undo = 0
direction_code Redo = 1

-- its direction, and its diffs
abbrev pub encode_entry : QueueDiffs → List ℕ
encode_entry entry = encode_code direction_code entry.kind ++ encode_list encode_diff entry.list

abbrev pub FitsEntry : QueueDiffs → Type 0
FitsEntry entry = FitsList entry.list

abbrev pub IsKnownEntry : QueueDiffs → Type 0
IsKnownEntry entry = AllByRecursion IsKnownDiff entry.list

-- ---- queues

-- the bytes that every queue begins with
abbrev pub magic : List ℕ
magic = codes "ICQ1"

-- the one encoding of a queue
unfoldable pub encode_queue : List QueueDiffs → List ℕ
encode_queue queue = magic ++ encode_list encode_entry queue

-- a queue that bytes can carry
abbrev pub FitsQueue : List QueueDiffs → Type 0
FitsQueue = FitsItems FitsEntry

-- what encoding asks of a queue
abbrev pub IsKnownQueue : List QueueDiffs → Type 0
IsKnownQueue = AllByRecursion IsKnownEntry

-- these bytes are the queue's
abbrev pub IsQueue : List ℕ → List QueueDiffs → Type 0
IsQueue = Encodes FitsQueue encode_queue

-- they are those of no queue
abbrev pub IsNoQueue : List ℕ → Type 0
IsNoQueue bytes = (queue : List QueueDiffs) → IsQueue bytes queue → ⊥
