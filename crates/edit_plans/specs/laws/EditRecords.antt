-- The diffs of edits of entries, in the order in which they are pushed. Serves private contracts and proofs.
use Rattle.std.proofs.Common.{ℕ, List, [], ◌∷◌, ◌++◌, Option, Some, None}
use Rattle.std.specs.Prelude.{if◌then◌else◌}
use Rattle.std.specs.List.{filter_map}
use Rattle.std.specs.FinMap as fin
use Rattle.base_values.specs.declared.Position.{Position}
use Rattle.base_axis.specs.declared.MergedCell.{MergedCell}
use Rattle.base_axis.specs.Rectangles.{anchor_place}
use Rattle.formula_tree.specs.declared.Node.{Node}
use Rattle.cell_content.specs.declared.Content.{Content}
use Rattle.cell_content.specs.declared.Content.TheVariants.{Array}
use Rattle.sheet_grid.specs.declared.Cell.{Cell}
use Rattle.sheet_grid.specs.declared.Link.{Link}
use Rattle.sheet_grid.specs.Merges.{is_empty}
use Rattle.sheet_grid.specs.Sheet.{Sheet}
use Rattle.sheet_fill.specs.declared.FillPlan.{FillPlan}
use Rattle.sheet_history.specs.declared.Diff.{Diff}
use Rattle.sheet_history.specs.declared.Diff.TheVariants.{Cell as CellDiff, Merges as MergesDiff}
use Rattle.sheet_history.specs.declared.LineAxis.TheVariants.{Rows}
use Rattle.sheet_history.specs.declared.SheetField.{SheetField}
use Rattle.sheet_history.specs.Entries.EntryKey.{CellKey, FieldKey, LinkKey, MergesKey}
use Rattle.sheet_history.specs.Entries.EntryValue.{CellValue, FieldValue, LinkValue, MergesValue}
use Rattle.sheet_history.specs.Fields.{field_of, field_in}
use Rattle.sheet_history.specs.Records.{entry_record}
use Rattle.edit_plans.specs.LineRecords.{attr_record}
use Rattle.edit_plans.specs.SheetPlans.{plan_diffs}
use Rattle.edit_plans.specs.Blanked.{blank_cell, loses}
use Rattle.edit_plans.specs.Fills.{places_plan}
use Rattle.edit_plans.specs.Inputs.{cell_entered, row_raised}

-- the change of the cell at a place that gets a content
abbrev pub cell_record : Content → Sheet → Position → List Diff
cell_record content sheet place = entry_record (CellKey sheet.id place) (CellValue (fin.get sheet.cells place)) (CellValue (cell_entered sheet place content))

-- the change where a link, or none, goes to a place: nothing where it stays
abbrev pub link_change : Sheet → Position → Option Link → List Diff
link_change sheet place entry = entry_record (LinkKey sheet.id place) (LinkValue (fin.get sheet.links place)) (LinkValue entry)

-- the change of the link of such a place
abbrev pub link_record : Content → Sheet → Position → List Diff
link_record content sheet place = if is_empty content then link_change sheet place None else []

-- the change of its row
abbrev pub height_record : ℕ → Sheet → Position → List Diff
height_record feeds sheet place = attr_record sheet.id Rows place.row (fin.get sheet.rows place.row) (row_raised sheet place feeds)

-- the record of an input at a place
abbrev pub input_record : Content → ℕ → Sheet → Position → List Diff
input_record content feeds sheet place = (cell_record content sheet place ++ link_record content sheet place) ++ height_record feeds sheet place

-- the diff of a cell whose content a rectangle takes away, on the sheet of an id
abbrev pub blank_diff : ℕ → MergedCell → Position × Cell → Option Diff
blank_diff id r entry = if loses r entry.0 entry.1 then Some (CellDiff id entry.0 (Some entry.1) (Some (blank_cell entry.1))) else None

-- those of all of them, by place
abbrev pub blank_diffs : MergedCell → Sheet → List Diff
blank_diffs r sheet = filter_map (blank_diff sheet.id r) (fin.entries sheet.cells)

-- the record of a merge: the cells that lose their contents, and then the merges
abbrev pub merge_diffs : MergedCell → Sheet → List Diff
merge_diffs r sheet = blank_diffs r sheet ++ MergesDiff sheet.id sheet.merges (sheet.merges ++ r ∷ []) ∷ []

-- the record of an array that may fill a rectangle: the change of its first cell, and then the cells that lose their contents
abbrev pub array_diffs : MergedCell → Node → Sheet → List Diff
array_diffs r tree sheet = cell_record (Array tree r.width r.height) sheet (anchor_place r) ++ blank_diffs r sheet

-- the change of the merges of a sheet
abbrev pub merges_record : Sheet → List MergedCell → List Diff
merges_record sheet merges = entry_record (MergesKey sheet.id) (MergesValue sheet.merges) (MergesValue merges)

-- the record of a fill: the cells that change, the links, and the merges
abbrev pub fill_record : Sheet → FillPlan → List Diff
fill_record sheet plan = plan_diffs (places_plan plan.cells plan.links) sheet ++ merges_record sheet plan.merges

-- the change where a field gets a value: nothing where it stays
abbrev pub field_change : Sheet → SheetField → List Diff
field_change sheet value = entry_record (FieldKey sheet.id (field_of value)) (FieldValue (field_in (field_of value) sheet)) (FieldValue value)
