-- The numbers of what fits are canonical, and what encoding asks of diffs.
use Rattle.std.proofs.Common.{◌≡◌, ℤ, true, false, ◌<◌, ◌^◌, List, [], ◌∷◌, Option, Some, None}
use Rattle.std.specs.Prelude.{IfSome, IsTrue}
use Rattle.std.specs.FinMap.{get}
use Rattle.std.specs.List.{AllByRecursion, list_all}
use Rattle.std.proofs.lemmas.List.Elements.{All-from_recursion, recursion_from_All}
use Rattle.formula_tree.specs.Depth.{is_within}
use Rattle.formula_tree.specs.Numbers.{has_canonical_numbers}
use Rattle.formula_tree.specs.declared.Node.{Node}
use Rattle.format_rules.specs.declared.ConditionalFormatting.{ConditionalFormatting}
use Rattle.format_rules.specs.Canonical.{IsCanonicalFormatting, AreCanonicalRules}
use Rattle.defined_names.specs.Names.{IsCanonicalName}
use Rattle.defined_names.specs.declared.DefinedName.{DefinedName}
use Rattle.sheet_grid.specs.declared.Cell.{Cell}
use Rattle.sheet_grid.specs.laws.FittingCells.{is_shallow_entry}
use Rattle.sheet_grid.specs.CanonicalCell.{IsCanonicalCell}
use Rattle.sheet_grid.specs.Lines.{is_plain}
use Rattle.sheet_rules.specs.laws.EntryLaws.{both}
use Rattle.sheet_lines.specs.declared.KeptLines.{KeptLines}
use Rattle.sheet_history.specs.declared.Diff.{Diff}
use Rattle.sheet_history.specs.declared.Diff.TheVariants.{Cell as CellDiff, Link as LinkDiff, Merges as MergesDiff, Field as FieldDiff, Lines as LinesDiff, NewSheet as NewDiff, DuplicateSheet as CopyDiff, DeleteSheet as DeletionDiff, MoveSheet as MoveDiff, RenameSheet as RenameDiff, ChangeName as NameDiff, Rule as RuleDiff, Attributes as AttrDiff, Setting as SettingDiff}
use Rattle.sheet_history.specs.declared.QueueDiffs.{QueueDiffs}
use Rattle.book_sheets.specs.declared.KeptSheet.{KeptSheet}
use Rattle.book_sheets.specs.SheetDiffs.{IsCanonicalSheet}
use Rattle.book_names.specs.declared.KeptTrees.{KeptTrees}
use Rattle.book_names.specs.Renaming.{AreCanonicalTrees}
use Rattle.sheet_history.specs.laws.Depth.{AreShallowTrees, IsShallowDiff, IsShallowSheet, is_shallow_rule}
use Rattle.sheet_history.specs.Diffs.{IsCanonicalDiff, IsCanonicalList, IsCanonicalQueue}
use Rattle.formula_wire.specs.Carried.{FitsNode, IsKnownNode}
use Rattle.formula_wire.specs.laws.CanonicalLaws.{canonical_from_carried}
use Rattle.grid_wire.specs.CellBytes.{FitsCell, IsKnownCell}
use Rattle.grid_wire.specs.laws.Fitting.{canonical_cell_from_fits}
use Rattle.grid_wire.specs.FormattingBytes.{FitsFormatting, IsKnownFormatting}
use Rattle.grid_wire.specs.laws.KnownLaws.{canonical_rules_from_fit, known_entry, rule_known}
use Rattle.sheet_wire.specs.PartBytes.{FitsSheetIndex}
use Rattle.sheet_wire.specs.laws.KeptFits.{canonical_formatting_from_fits, formulas_from_fits, kept_lines_from_fits}
use Rattle.base_wire.specs.laws.MapFits.{values_hold}
use Rattle.grid_wire.specs.NameBytes.{FitsName, IsKnownName}
use Rattle.grid_wire.specs.laws.GridFits.{canonical_cells_from_fits, canonical_name_from_fits}
use Rattle.sheet_wire.specs.SheetsBytes.{FitsKeptSheet, IsKnownKeptSheet}
use Rattle.sheet_wire.specs.TreesBytes.{FitsTrees, AreKnownTrees}
use Rattle.sheet_wire.specs.QueueBytes.{FitsDiff, FitsList, FitsEntry, FitsQueue, IsKnownDiff}

-- ---- what encoding asks of lines

-- of each line an edit keeps something of its own
abbrev pub IsKeptOfLines : KeptLines → Type 0
IsKeptOfLines kept = (line : ℤ) → IfSome (get kept.lines line) (λ attr. is_plain attr ≡ false)

-- each line of a kept sheet has something of its own
pub record HasOwnLines (kept : KeptSheet) : Type 0 where
  pub rows : (row : ℤ) → IfSome (get kept.sheet.rows row) (λ attr. is_plain attr ≡ false)
  pub columns : (column : ℤ) → IfSome (get kept.sheet.columns column) (λ attr. is_plain attr ≡ false)

-- each line that a diff keeps has something of its own, be it one that changes, that of an edit of lines or of a deleted sheet
abbrev pub IsKeptOfDiff : Diff → Type 0
IsKeptOfDiff (CellDiff sheet place old new) = Unit {0}
IsKeptOfDiff (LinkDiff sheet place old new) = Unit {0}
IsKeptOfDiff (MergesDiff sheet old new) = Unit {0}
IsKeptOfDiff (FieldDiff sheet change) = Unit {0}
IsKeptOfDiff (AttrDiff sheet axis line old new) = IfSome old (λ attr. is_plain attr ≡ false) × IfSome new (λ attr. is_plain attr ≡ false)
IsKeptOfDiff (RuleDiff sheet change) = Unit {0}
IsKeptOfDiff (LinesDiff sheet axis edit kept) = IsKeptOfLines kept
IsKeptOfDiff (NewDiff sheet index name) = Unit {0}
IsKeptOfDiff (CopyDiff source sheet index name) = Unit {0}
IsKeptOfDiff (DeletionDiff index kept) = HasOwnLines kept
IsKeptOfDiff (MoveDiff sheet from to) = Unit {0}
IsKeptOfDiff (RenameDiff sheet old new kept) = Unit {0}
IsKeptOfDiff (NameDiff change kept) = Unit {0}
IsKeptOfDiff (SettingDiff change) = Unit {0}

-- ---- the numbers of what fits are canonical

kept_option : (entry : Option Cell) → IfSome entry FitsCell → IfSome entry IsCanonicalCell
kept_option None fits = tt
kept_option (Some cell) fits = canonical_cell_from_fits cell fits

kept_sheet_from_fits : (kept : KeptSheet) → FitsKeptSheet kept → IsCanonicalSheet kept
kept_sheet_from_fits kept fits = record {
  cells = canonical_cells_from_fits kept.sheet.cells fits.sheet.entries.cells;
  names = values_hold (λ place. place < 2 ^ 64) FitsName _ canonical_name_from_fits kept.names fits.names;
  formattings = canonical_rules_from_fit kept.sheet.formattings fits.sheet.entries.formattings;
}

kept_trees_from_fits : (kept : KeptTrees) → FitsTrees kept → AreCanonicalTrees kept
kept_trees_from_fits kept fits = record {
  formulas = formulas_from_fits kept.formulas fits.formulas;
  names = values_hold (λ place. place < 2 ^ 64) FitsNode _ (λ tree fits. canonical_from_carried tree fits.carried) kept.names fits.names;
  formattings = values_hold FitsSheetIndex FitsFormatting _ canonical_formatting_from_fits kept.formattings fits.formattings;
}

kept_name : (name : Option DefinedName) → IfSome name FitsName → IfSome name IsCanonicalName
kept_name None fits = tt
kept_name (Some name) fits = canonical_name_from_fits name fits

kept_rule : (rule : Option ConditionalFormatting) → IfSome rule FitsFormatting → IfSome rule IsCanonicalFormatting
kept_rule None fits = tt
kept_rule (Some rule) fits = canonical_formatting_from_fits rule fits

pub canonical_diff_from_fits : (diff : Diff) → FitsDiff diff → IsCanonicalDiff diff
canonical_diff_from_fits (CellDiff sheet place old new) fits =
    (kept_option old fits.old, kept_option new fits.new)
canonical_diff_from_fits (LinkDiff sheet place old new) fits = tt
canonical_diff_from_fits (MergesDiff sheet old new) fits = tt
canonical_diff_from_fits (FieldDiff sheet change) fits = tt
canonical_diff_from_fits (AttrDiff sheet axis line old new) fits = tt
canonical_diff_from_fits (RuleDiff sheet change) fits = record { old = kept_rule change.old fits.change.old; new = kept_rule change.new fits.change.new }
canonical_diff_from_fits (LinesDiff sheet axis edit kept) fits = kept_lines_from_fits kept fits.kept
canonical_diff_from_fits (NewDiff sheet index name) fits = tt
canonical_diff_from_fits (CopyDiff source sheet index name) fits = tt
canonical_diff_from_fits (DeletionDiff index kept) fits = kept_sheet_from_fits kept fits.kept
canonical_diff_from_fits (MoveDiff sheet from to) fits = tt
canonical_diff_from_fits (RenameDiff sheet old new kept) fits = kept_trees_from_fits kept fits.kept
canonical_diff_from_fits (SettingDiff change) fits = tt
canonical_diff_from_fits (NameDiff change kept) fits =
    (record { old = kept_name change.old fits.old; new = kept_name change.new fits.new }, kept_trees_from_fits kept fits.kept)

kept_diffs : (diffs : List Diff) → AllByRecursion FitsDiff diffs → AllByRecursion IsCanonicalDiff diffs
kept_diffs [] fits = tt
kept_diffs (diff ∷ diffs) fits = (canonical_diff_from_fits diff fits.0, kept_diffs diffs fits.1)

-- so a list that was read can be followed
pub canonical_list_from_fits : (diffs : List Diff) → FitsList diffs → IsCanonicalList diffs
canonical_list_from_fits diffs fits = All-from_recursion IsCanonicalDiff diffs (kept_diffs diffs fits.each)

kept_entries : (queue : List QueueDiffs) → AllByRecursion FitsEntry queue → AllByRecursion (λ entry. IsCanonicalList entry.list) queue
kept_entries [] fits = tt
kept_entries (entry ∷ queue) fits = (canonical_list_from_fits entry.list fits.0, kept_entries queue fits.1)

-- so a queue that was read can be followed
pub canonical_queue_from_fits : (queue : List QueueDiffs) → FitsQueue queue → IsCanonicalQueue queue
canonical_queue_from_fits queue fits = All-from_recursion (λ entry. IsCanonicalList entry.list) queue (kept_entries queue fits.each)

-- ---- what encoding asks

known_tree : (tree : Option Node) → IfSome tree (λ t. IsTrue (has_canonical_numbers t)) → IfSome tree (λ t. IsTrue (is_within 64 t)) → IfSome tree IsKnownNode
known_tree None kept shallow = tt
known_tree (Some tree) kept shallow = record { canonical = kept; depth = shallow }

known_name : (name : Option DefinedName) → IfSome name IsCanonicalName → IfSome name (λ n. IsTrue (is_within 64 n.formula)) → IfSome name IsKnownName
known_name None kept shallow = tt
known_name (Some name) kept shallow = record { canonical = kept; depth = shallow }

known_formatting : (rule : Option ConditionalFormatting) → IfSome rule IsCanonicalFormatting → IfSome rule (λ r. IsTrue (is_shallow_rule r)) → IfSome rule IsKnownFormatting
known_formatting None kept shallow = tt
known_formatting (Some rule) kept shallow = rule_known rule.rule kept shallow

known_sheet : (kept : KeptSheet) → IsCanonicalSheet kept → IsShallowSheet kept → HasOwnLines kept → IsKnownKeptSheet kept
known_sheet kept numbers shallow own = record {
  sheet = record {
    rows = own.rows;
    columns = own.columns;
    cells = shallow.cells;
    formattings = shallow.formattings;
  };
  names = λ place. known_name (get kept.names place) (numbers.names place) (shallow.names place);
}

known_trees : (trees : KeptTrees) → AreCanonicalTrees trees → AreShallowTrees trees → AreKnownTrees trees
known_trees trees kept shallow = record {
  formulas = λ place. known_tree (get trees.formulas place) (kept.formulas place) (shallow.formulas place);
  names = λ place. known_tree (get trees.names place) (kept.names place) (shallow.names place);
  formattings = λ place. known_formatting (get trees.formattings place) (kept.formattings place) (shallow.formattings place);
}

-- a diff whose numbers are canonical, and whose formulas are at most 64 deep, can be encoded
pub known_diff : (diff : Diff) → IsCanonicalDiff diff → IsShallowDiff diff → IsKeptOfDiff diff → IsKnownDiff diff
known_diff (CellDiff sheet place old new) kept shallow of_lines = (known_entry old kept.0 shallow.0, known_entry new kept.1 shallow.1)
known_diff (LinkDiff sheet place old new) kept shallow of_lines = tt
known_diff (MergesDiff sheet old new) kept shallow of_lines = tt
known_diff (FieldDiff sheet change) kept shallow of_lines = tt
known_diff (AttrDiff sheet axis line old new) kept shallow of_lines = of_lines
known_diff (NewDiff sheet index name) kept shallow of_lines = tt
known_diff (CopyDiff source sheet index name) kept shallow of_lines = tt
known_diff (DeletionDiff index part) kept shallow of_lines = known_sheet part kept shallow of_lines
known_diff (MoveDiff sheet from to) kept shallow of_lines = tt
known_diff (RenameDiff sheet old new trees) kept shallow of_lines = known_trees trees kept shallow
known_diff (SettingDiff change) kept shallow of_lines = tt
known_diff (NameDiff change trees) kept shallow of_lines = record {
  old = known_name change.old kept.0.old shallow.0.old;
  new = known_name change.new kept.0.new shallow.0.new;
  kept = known_trees trees kept.1 shallow.1;
}
known_diff (RuleDiff sheet change) kept shallow of_lines = record {
  old = known_formatting change.old kept.old shallow.old;
  new = known_formatting change.new kept.new shallow.new;
}
known_diff (LinesDiff sheet axis edit lines) kept shallow of_lines = record {
  cells = λ place. known_entry (get lines.cells place) (kept.cells place) (shallow.cells place);
  lines = of_lines;
  formulas = λ place. known_tree (get lines.formulas place) (kept.formulas place) (shallow.formulas place);
  formattings = λ index. known_formatting (get lines.formattings index) (kept.formattings index) (shallow.formattings index);
}
