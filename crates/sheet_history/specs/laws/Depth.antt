-- Formulas that are at most 64 deep, as bytes have them.
use Rattle.std.specs.Prelude.{◌≡◌, ℕ, Bool, true, IsTrue, IfSome}
use Rattle.std.specs.List.{list_all}
use Rattle.std.specs.FinMap.{get}
use Rattle.base_values.specs.declared.Position.{Position}
use Rattle.base_maps.specs.declared.SheetPlace.{SheetPlace}
use Rattle.formula_tree.specs.Depth.{is_within}
use Rattle.format_rules.specs.declared.ConditionalFormatting.{ConditionalFormatting}
use Rattle.format_rules.specs.RuleTrees.{each_tree}
use Rattle.base_maps.specs.declared.SheetIndex.{SheetIndex}
use Rattle.sheet_grid.specs.laws.FittingCells.{is_shallow_entry}
use Rattle.sheet_lines.specs.declared.KeptLines.{KeptLines}
use Rattle.book_sheets.specs.declared.KeptSheet.{KeptSheet}
use Rattle.book_names.specs.declared.KeptTrees.{KeptTrees}
use Rattle.name_edits.specs.declared.NameChange.{NameChange}
use Rattle.rule_edits.specs.declared.RuleChange.{RuleChange}
use Rattle.sheet_history.specs.declared.diff.Diff.{Diff}
use Rattle.sheet_history.specs.declared.diff.Diff.TheVariants.{Cell as CellDiff, Link as LinkDiff, Merges as MergesDiff, Field as FieldDiff, Lines as LinesDiff, NewSheet as NewDiff, DuplicateSheet as CopyDiff, DeleteSheet as DeletionDiff, MoveSheet as MoveDiff, RenameSheet as RenameDiff, ChangeName as NameDiff, Rule as RuleDiff, Attributes as AttrDiff, Setting as SettingDiff}

-- each formula of a conditional rule is
abbrev pub is_shallow_rule : ConditionalFormatting → Bool
is_shallow_rule formatting = each_tree (is_within 64) formatting.rule

-- so is each kept formula
pub record AreShallowLines (kept : KeptLines) : Type 0 where
  pub cells : (place : Position) → IsTrue (is_shallow_entry (get kept.cells place))
  pub formulas : (place : SheetPlace) → IfSome (get kept.formulas place) (λ tree. IsTrue (is_within 64 tree))
  pub formattings : (index : ℕ) → IfSome (get kept.formattings index) (λ formatting. IsTrue (is_shallow_rule formatting))

-- so is each formula of a kept sheet, and each tree of its names
pub record IsShallowSheet (kept : KeptSheet) : Type 0 where
  pub cells : (place : Position) → IsTrue (is_shallow_entry (get kept.sheet.cells place))
  pub names : (place : ℕ) → IfSome (get kept.names place) (λ name. IsTrue (is_within 64 name.formula))
  pub formattings : list_all is_shallow_rule kept.sheet.formattings ≡ true

-- so is each kept tree of a renaming
pub record AreShallowTrees (kept : KeptTrees) : Type 0 where
  pub formulas : (place : SheetPlace) → IfSome (get kept.formulas place) (λ tree. IsTrue (is_within 64 tree))
  pub names : (place : ℕ) → IfSome (get kept.names place) (λ tree. IsTrue (is_within 64 tree))
  pub formattings : (place : SheetIndex) → IfSome (get kept.formattings place) (λ formatting. IsTrue (is_shallow_rule formatting))

-- and the tree of each name of a change
pub record IsShallowChange (change : NameChange) : Type 0 where
  pub old : IfSome change.old (λ name. IsTrue (is_within 64 name.formula))
  pub new : IfSome change.new (λ name. IsTrue (is_within 64 name.formula))

-- and so are the formulas of each conditional rule of a change
pub record IsShallowRuleChange (change : RuleChange) : Type 0 where
  pub old : IfSome change.old (λ formatting. IsTrue (is_shallow_rule formatting))
  pub new : IfSome change.new (λ formatting. IsTrue (is_shallow_rule formatting))

-- and each formula of a diff
abbrev pub IsShallowDiff : Diff → Type 0
IsShallowDiff (CellDiff sheet place old new) = IsTrue (is_shallow_entry old) × IsTrue (is_shallow_entry new)
IsShallowDiff (LinkDiff sheet place old new) = Unit {0}
IsShallowDiff (MergesDiff sheet old new) = Unit {0}
IsShallowDiff (FieldDiff sheet change) = Unit {0}
IsShallowDiff (AttrDiff sheet axis line old new) = Unit {0}
IsShallowDiff (RuleDiff sheet change) = IsShallowRuleChange change
IsShallowDiff (LinesDiff sheet axis edit kept) = AreShallowLines kept
IsShallowDiff (NewDiff sheet index name) = Unit {0}
IsShallowDiff (CopyDiff source sheet index name) = Unit {0}
IsShallowDiff (DeletionDiff index kept) = IsShallowSheet kept
IsShallowDiff (MoveDiff sheet from to) = Unit {0}
IsShallowDiff (RenameDiff sheet old new kept) = AreShallowTrees kept
IsShallowDiff (NameDiff change kept) = IsShallowChange change × AreShallowTrees kept
IsShallowDiff (SettingDiff change) = Unit {0}
