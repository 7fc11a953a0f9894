-- Reading queues and their parts. Serves proofs alone.
use Rattle.std.specs.Prelude.{ℕ, ℤ, List, Option, [], ◌∷◌, Bool, Result, ◌==◌, if◌then◌else◌}
use Rattle.std.specs.Int.{w32, w64}
use Rattle.sheet_grid.specs.declared.LineAttr.{LineAttr}
use Rattle.base_wire.specs.laws.Reading.{Reader, ◌⊗◌, number_at, option_at, signed_at, code_at, map_at, text_at, boolean_at, refused, tagged_at, list_at, after, whole}
use Rattle.grid_wire.specs.laws.Reading.{line_at, name_at, states, sheet_at}
use Rattle.base_values.specs.declared.Position.{Position}
use Rattle.grid_wire.specs.laws.CellReading.{position_at, cell_at, color_at, link_at, merges_at}
use Rattle.line_edits.specs.declared.EditKind.{EditKind}
use Rattle.sheet_lines.specs.declared.KeptLines.{KeptLines}
use Rattle.sheet_history.specs.declared.LineAxis.{LineAxis}
use Rattle.sheet_history.specs.declared.LineAxis.TheVariants.{Rows, Columns}
use Rattle.sheet_wire.specs.laws.LinesReading.{edit_at, kept_at, sheet_index_at, formulas_at}
use Rattle.sheet_history.specs.declared.SettingChange.TheVariants as setting
use Rattle.format_rules.specs.declared.ConditionalFormatting.{ConditionalFormatting}
use Rattle.rule_edits.specs.declared.RuleChange.{RuleChange}
use Rattle.grid_wire.specs.laws.RuleReading.{formatting_at}
use Rattle.std.specs.Ordering.{nat_cmp}
use Rattle.std.specs.FinMap.{FinMap}
use Rattle.base_maps.specs.SheetPlaces.{sheet_place_cmp}
use Rattle.base_maps.specs.SheetIndexes.{sheet_index_cmp}
use Rattle.formula_tree.specs.declared.Node.{Node}
use Rattle.defined_names.specs.declared.DefinedName.{DefinedName}
use Rattle.book_names.specs.declared.KeptTrees.{KeptTrees}
use Rattle.formula_wire.specs.laws.Reading.{node_at}
use Rattle.base_wire.specs.laws.MapReading.{map_of_at}
use Rattle.base_styles.specs.declared.Color.{Color}
use Rattle.sheet_grid.specs.Sheet.{Sheet}
use Rattle.sheet_grid.specs.declared.SheetState.{SheetState}
use Rattle.book_sheets.specs.declared.KeptSheet.{KeptSheet}
use Rattle.sheet_history.specs.declared.FieldChange.TheVariants as change
use Rattle.grid_wire.specs.StateBytes.{state_code}
use Rattle.base_axis.specs.declared.MergedCell.{MergedCell}
use Rattle.base_values.specs.declared.EditError.{EditError}
use Rattle.sheet_grid.specs.declared.Cell.{Cell}
use Rattle.sheet_grid.specs.declared.Link.{Link}
use Rattle.base_styles.specs.declared.Theme.{Theme}
use Rattle.base_tables.specs.declared.Locale.{Locale}
use Rattle.base_tables.specs.declared.Zone.{Zone}
use Rattle.sheet_history.specs.declared.Diff.{Diff}
use Rattle.sheet_history.specs.declared.Diff.TheVariants.{Cell as CellDiff, Link as LinkDiff, Merges as MergesDiff, Field as FieldDiff, Lines as LinesDiff, NewSheet as NewDiff, DuplicateSheet as CopyDiff, DeleteSheet as DeletionDiff, MoveSheet as MoveDiff, RenameSheet as RenameDiff, ChangeName as NameDiff, Rule as RuleDiff, Attributes as AttrDiff, Setting as SettingDiff}
use Rattle.sheet_history.specs.declared.DiffType.{DiffType}
use Rattle.sheet_history.specs.declared.DiffType.TheVariants.{Undo, Redo}
use Rattle.sheet_history.specs.declared.QueueDiffs.{QueueDiffs}
use Rattle.grid_wire.specs.laws.SettingReading.{locale_at, zone_at, theme_at}
use Rattle.sheet_wire.specs.LinesBytes.{axis_code}
use Rattle.sheet_wire.specs.QueueBytes.{direction_code, magic}

-- ---- changes of what lines have of their own

-- what a line has, or nothing
unfoldable pub own_at : Reader (Option LineAttr)
own_at = option_at line_at

abbrev pub attr_parts_at : Reader (ℕ × (ℤ × (Option LineAttr × Option LineAttr)))
attr_parts_at = number_at w32 ⊗ signed_at w32 ⊗ own_at ⊗ own_at

-- ---- changes of what stands at a position

-- what stands at a position, or nothing
unfoldable pub standing_at : {A : Type 0} → Reader A → Reader (Option A)
standing_at read = option_at read

abbrev pub change_at : {A : Type 0} → Reader A → Reader (ℕ × (Position × (Option A × Option A)))
change_at read = number_at w32 ⊗ position_at ⊗ standing_at read ⊗ standing_at read

-- ---- changes of what a sheet has

abbrev pub sheet_change_at : {A : Type 0} → Reader A → Reader (ℕ × (A × A))
sheet_change_at read = number_at w32 ⊗ read ⊗ read

-- ---- edits of lines

abbrev pub axes : List LineAxis
axes = Rows ∷ Columns ∷ []

abbrev pub lines_parts_at : Reader (ℕ × (LineAxis × (EditKind × KeptLines)))
lines_parts_at = number_at w32 ⊗ code_at axis_code axes ⊗ edit_at ⊗ kept_at

-- ---- changes of settings

abbrev pub pair_at : {A : Type 0} → Reader A → Reader (A × A)
pair_at read = read ⊗ read

-- ---- changes of conditional rules

-- a rule, or none
unfoldable pub rule_there_at : Reader (Option ConditionalFormatting)
rule_there_at = option_at formatting_at

abbrev pub rule_change_made : ℕ × (Option ConditionalFormatting × Option ConditionalFormatting) → RuleChange
rule_change_made x = record { index = x.0; old = x.1.0; new = x.1.1 }

unfoldable pub rule_change_at : Reader RuleChange
rule_change_at = map_at rule_change_made (number_at w64 ⊗ rule_there_at ⊗ rule_there_at)

abbrev pub rule_parts_at : Reader (ℕ × RuleChange)
rule_parts_at = number_at w32 ⊗ rule_change_at

-- ---- kept trees

unfoldable pub renamed_rules_at : Reader (FinMap sheet_index_cmp ConditionalFormatting)
renamed_rules_at = map_of_at sheet_index_cmp (λ m. m) sheet_index_at formatting_at

unfoldable pub name_trees_at : Reader (FinMap nat_cmp Node)
name_trees_at = map_of_at nat_cmp (λ m. m) (number_at w64) node_at

abbrev pub trees_made : FinMap sheet_place_cmp Node × (FinMap sheet_index_cmp ConditionalFormatting × FinMap nat_cmp Node) → KeptTrees
trees_made x = record { formulas = x.0; names = x.1.1; formattings = x.1.0 }

unfoldable pub trees_at : Reader KeptTrees
trees_at = map_at trees_made (formulas_at ⊗ renamed_rules_at ⊗ name_trees_at)

-- ---- renamed sheets

abbrev pub rename_parts_at : Reader (ℕ × (List ℕ × (List ℕ × KeptTrees)))
rename_parts_at = number_at w32 ⊗ text_at ⊗ text_at ⊗ trees_at

-- ---- changed names

-- a name, or none
unfoldable pub name_there_at : Reader (Option DefinedName)
name_there_at = option_at name_at

abbrev pub name_parts_at : Reader (ℕ × (Option DefinedName × (Option DefinedName × KeptTrees)))
name_parts_at = number_at w64 ⊗ name_there_at ⊗ name_there_at ⊗ trees_at

-- ---- fields of a sheet

unfoldable pub state_at : Reader SheetState
state_at = code_at state_code states

-- ---- new sheets and copies

abbrev pub new_parts_at : Reader (ℕ × (ℕ × List ℕ))
new_parts_at = number_at w32 ⊗ number_at w32 ⊗ text_at

abbrev pub copy_parts_at : Reader (ℕ × (ℕ × (ℕ × List ℕ)))
copy_parts_at = number_at w32 ⊗ new_parts_at

-- ---- deleted sheets

unfoldable pub placed_names_at : Reader (FinMap nat_cmp DefinedName)
placed_names_at = map_of_at nat_cmp (λ m. m) (number_at w64) name_at

abbrev pub kept_sheet_made : Sheet × FinMap nat_cmp DefinedName → KeptSheet
kept_sheet_made x = record { sheet = x.0; names = x.1 }

unfoldable pub kept_sheet_at : Reader KeptSheet
kept_sheet_at = map_at kept_sheet_made (sheet_at ⊗ placed_names_at)

abbrev pub deletion_parts_at : Reader (ℕ × KeptSheet)
deletion_parts_at = number_at w32 ⊗ kept_sheet_at

-- ---- moved sheets

abbrev pub move_parts_at : Reader (ℕ × (ℕ × ℕ))
move_parts_at = number_at w32 ⊗ number_at w32 ⊗ number_at w32

-- ---- diffs

abbrev pub cell_diff_made : ℕ × (Position × (Option Cell × Option Cell)) → Diff
cell_diff_made x = CellDiff x.0 x.1.0 x.1.1.0 x.1.1.1

unfoldable pub cell_diff_at : Reader Diff
cell_diff_at = map_at cell_diff_made (change_at cell_at)

abbrev pub link_diff_made : ℕ × (Position × (Option Link × Option Link)) → Diff
link_diff_made x = LinkDiff x.0 x.1.0 x.1.1.0 x.1.1.1

unfoldable pub link_diff_at : Reader Diff
link_diff_at = map_at link_diff_made (change_at link_at)

abbrev pub attr_diff_made : LineAxis → ℕ × (ℤ × (Option LineAttr × Option LineAttr)) → Diff
attr_diff_made axis x = AttrDiff x.0 axis x.1.0 x.1.1.0 x.1.1.1

unfoldable pub attr_diff_at : LineAxis → Reader Diff
attr_diff_at axis = map_at (attr_diff_made axis) attr_parts_at

abbrev pub merges_diff_made : ℕ × (List MergedCell × List MergedCell) → Diff
merges_diff_made x = MergesDiff x.0 x.1.0 x.1.1

unfoldable pub merges_diff_at : Reader Diff
merges_diff_at = map_at merges_diff_made (sheet_change_at merges_at)

abbrev pub rule_diff_made : ℕ × RuleChange → Diff
rule_diff_made x = RuleDiff x.0 x.1

unfoldable pub rule_diff_at : Reader Diff
rule_diff_at = map_at rule_diff_made rule_parts_at

abbrev pub lines_diff_made : ℕ × (LineAxis × (EditKind × KeptLines)) → Diff
lines_diff_made x = LinesDiff x.0 x.1.0 x.1.1.0 x.1.1.1

unfoldable pub lines_diff_at : Reader Diff
lines_diff_at = map_at lines_diff_made lines_parts_at

abbrev pub new_diff_made : ℕ × (ℕ × List ℕ) → Diff
new_diff_made x = NewDiff x.0 x.1.0 x.1.1

unfoldable pub new_diff_at : Reader Diff
new_diff_at = map_at new_diff_made new_parts_at

abbrev pub copy_diff_made : ℕ × (ℕ × (ℕ × List ℕ)) → Diff
copy_diff_made x = CopyDiff x.0 x.1.0 x.1.1.0 x.1.1.1

unfoldable pub copy_diff_at : Reader Diff
copy_diff_at = map_at copy_diff_made copy_parts_at

abbrev pub deletion_diff_made : ℕ × KeptSheet → Diff
deletion_diff_made x = DeletionDiff x.0 x.1

unfoldable pub deletion_diff_at : Reader Diff
deletion_diff_at = map_at deletion_diff_made deletion_parts_at

abbrev pub rename_diff_made : ℕ × (List ℕ × (List ℕ × KeptTrees)) → Diff
rename_diff_made x = RenameDiff x.0 x.1.0 x.1.1.0 x.1.1.1

unfoldable pub rename_diff_at : Reader Diff
rename_diff_at = map_at rename_diff_made rename_parts_at

abbrev pub move_diff_made : ℕ × (ℕ × ℕ) → Diff
move_diff_made x = MoveDiff x.0 x.1.0 x.1.1

unfoldable pub move_diff_at : Reader Diff
move_diff_at = map_at move_diff_made move_parts_at

abbrev pub color_diff_made : ℕ × (Color × Color) → Diff
color_diff_made x = FieldDiff x.0 (change.Color x.1.0 x.1.1)

unfoldable pub color_diff_at : Reader Diff
color_diff_at = map_at color_diff_made (sheet_change_at color_at)

abbrev pub state_diff_made : ℕ × (SheetState × SheetState) → Diff
state_diff_made x = FieldDiff x.0 (change.State x.1.0 x.1.1)

unfoldable pub state_diff_at : Reader Diff
state_diff_at = map_at state_diff_made (sheet_change_at state_at)

abbrev pub grid_diff_made : ℕ × (Bool × Bool) → Diff
grid_diff_made x = FieldDiff x.0 (change.GridLines x.1.0 x.1.1)

unfoldable pub grid_diff_at : Reader Diff
grid_diff_at = map_at grid_diff_made (sheet_change_at boolean_at)

abbrev pub name_diff_made : ℕ × (Option DefinedName × (Option DefinedName × KeptTrees)) → Diff
name_diff_made x = NameDiff (record { index = x.0; old = x.1.0; new = x.1.1.0 }) x.1.1.1

unfoldable pub name_diff_at : Reader Diff
name_diff_at = map_at name_diff_made name_parts_at

abbrev pub frozen_rows_diff_made : ℕ × (ℤ × ℤ) → Diff
frozen_rows_diff_made x = FieldDiff x.0 (change.FrozenRows x.1.0 x.1.1)

unfoldable pub frozen_rows_diff_at : Reader Diff
frozen_rows_diff_at = map_at frozen_rows_diff_made (sheet_change_at (signed_at w32))

abbrev pub frozen_columns_diff_made : ℕ × (ℤ × ℤ) → Diff
frozen_columns_diff_made x = FieldDiff x.0 (change.FrozenColumns x.1.0 x.1.1)

unfoldable pub frozen_columns_diff_at : Reader Diff
frozen_columns_diff_at = map_at frozen_columns_diff_made (sheet_change_at (signed_at w32))

abbrev pub theme_diff_made : Theme × Theme → Diff
theme_diff_made x = SettingDiff (setting.Theme x.0 x.1)

unfoldable pub theme_diff_at : Reader Diff
theme_diff_at = map_at theme_diff_made (pair_at theme_at)

abbrev pub title_diff_made : List ℕ × List ℕ → Diff
title_diff_made x = SettingDiff (setting.Name x.0 x.1)

unfoldable pub title_diff_at : Reader Diff
title_diff_at = map_at title_diff_made (pair_at text_at)

abbrev pub locale_diff_made : Locale × Locale → Diff
locale_diff_made x = SettingDiff (setting.Locale x.0 x.1)

unfoldable pub locale_diff_at : Reader Diff
locale_diff_at = map_at locale_diff_made (pair_at locale_at)

abbrev pub zone_diff_made : Zone × Zone → Diff
zone_diff_made x = SettingDiff (setting.Zone x.0 x.1)

unfoldable pub zone_diff_at : Reader Diff
zone_diff_at = map_at zone_diff_made (pair_at zone_at)

-- what follows each tag
abbrev pub diff_of : ℕ → Reader Diff
diff_of tag =
    if tag == 1 then cell_diff_at
    else if tag == 2 then link_diff_at
    else if tag == 3 then attr_diff_at Columns
    else if tag == 4 then attr_diff_at Rows
    else if tag == 5 then merges_diff_at
    else if tag == 6 then rule_diff_at
    else if tag == 7 then lines_diff_at
    else if tag == 8 then new_diff_at
    else if tag == 9 then copy_diff_at
    else if tag == 10 then deletion_diff_at
    else if tag == 11 then rename_diff_at
    else if tag == 12 then move_diff_at
    else if tag == 13 then color_diff_at
    else if tag == 14 then state_diff_at
    else if tag == 15 then grid_diff_at
    else if tag == 16 then frozen_rows_diff_at
    else if tag == 17 then frozen_columns_diff_at
    else if tag == 18 then theme_diff_at
    else if tag == 19 then title_diff_at
    else if tag == 20 then locale_diff_at
    else if tag == 21 then zone_diff_at
    else if tag == 22 then name_diff_at
    else refused

unfoldable pub diff_at : Reader Diff
diff_at = tagged_at diff_of

-- ---- entries

abbrev pub directions : List DiffType
directions = Undo ∷ Redo ∷ []

abbrev pub entry_made : DiffType × List Diff → QueueDiffs
entry_made x = record { kind = x.0; list = x.1 }

unfoldable pub list_of_diffs_at : Reader (List Diff)
list_of_diffs_at = list_at diff_at

unfoldable pub entry_at : Reader QueueDiffs
entry_at = map_at entry_made (code_at direction_code directions ⊗ list_of_diffs_at)

-- ---- queues

-- the queue that all of the bytes encode
unfoldable pub queue_of : List ℕ → Result (List QueueDiffs) EditError
queue_of = whole (after magic (list_at entry_at))
