-- Lists whose results need no test: nothing, one link, one setting, or one field of a sheet or one cell that cannot break a rule.
use Rattle.std.proofs.Common.{Bool, true, false, ◌&&◌, List, [], ◌∷◌, Option, Some, None}
use Rattle.std.specs.Prelude.{is_none}
use Rattle.base_values.specs.declared.Position.{Position}
use Rattle.sheet_grid.specs.Arrays.{array_at}
use Rattle.sheet_grid.specs.declared.Cell.{Cell}
use Rattle.sheet_grid.specs.Sheet.{Sheet}
use Rattle.sheet_grid.specs.Book.{Book}
use Rattle.sheet_rules.specs.Occupied.{may_stand}
use Rattle.sheet_rules.specs.WellFormed.{has_font}
use Rattle.sheet_ids.specs.Ids.{sheet_of}
use Rattle.sheet_history.specs.declared.diff.DiffType.{DiffType}
use Rattle.sheet_history.specs.declared.diff.DiffType.TheVariants.{Undo, Redo}
use Rattle.sheet_history.specs.declared.diff.Diff.{Diff}
use Rattle.sheet_history.specs.declared.diff.Diff.TheVariants.{Cell as CellDiff, Link as LinkDiff, Merges as MergesDiff, Field as FieldDiff, Lines as LinesDiff, NewSheet as NewDiff, DuplicateSheet as CopyDiff, DeleteSheet as DeletionDiff, MoveSheet as MoveDiff, RenameSheet as RenameDiff, ChangeName as NameDiff, Rule as RuleDiff, Attributes as AttrDiff, Setting as SettingDiff}
use Rattle.sheet_history.specs.declared.field.FieldChange.{FieldChange}
use Rattle.sheet_history.specs.declared.field.SheetField.{SheetField}
use Rattle.sheet_history.specs.Fields.{may_have, new_of, old_of}

-- what is put, a cell or none, has a font of at least size 1
abbrev pub entry_has_font : Option Cell → Bool
entry_has_font None = true
entry_has_font (Some cell) = has_font cell.style

-- what is put, a cell or none, is no array
abbrev pub is_no_array : Position → Option Cell → Bool
is_no_array place None = true
is_no_array place (Some cell) = is_none (array_at place cell.content)

-- it may stand at a place of a sheet, if there is one: it is no array, and has no content where the place is hidden
abbrev pub may_stand_on : Option Sheet → Position → Option Cell → Bool
may_stand_on None place entry = is_no_array place entry
may_stand_on (Some sheet) place entry = may_stand sheet place entry

-- a cell, or none, that a well-formed workbook can take at a place of a sheet without a test of the result
abbrev pub cell_keeps_rules : Option Sheet → Position → Option Cell → Bool
cell_keeps_rules sheet place entry = entry_has_font entry && may_stand_on sheet place entry

-- of what stood at a place and what stands there then, what is put where a list is followed
abbrev pub put_by : DiffType → Option Cell → Option Cell → Option Cell
put_by Undo old new = old
put_by Redo old new = new

-- of a change of a field, the value that is put
abbrev pub field_put_by : DiffType → FieldChange → SheetField
field_put_by Undo change = old_of change
field_put_by Redo change = new_of change

-- a diff that, followed in a well-formed workbook, leaves one for sure
abbrev pub diff_keeps_rules : DiffType → Book → Diff → Bool
diff_keeps_rules kind book (CellDiff id place old new) = cell_keeps_rules (sheet_of book id) place (put_by kind old new)
diff_keeps_rules kind book (LinkDiff id place old new) = true
diff_keeps_rules kind book (MergesDiff id old new) = false
diff_keeps_rules kind book (FieldDiff id change) = may_have (field_put_by kind change)
diff_keeps_rules kind book (AttrDiff id axis line old new) = false
diff_keeps_rules kind book (RuleDiff id change) = false
diff_keeps_rules kind book (LinesDiff id axis edit kept) = false
diff_keeps_rules kind book (NewDiff id index name) = false
diff_keeps_rules kind book (CopyDiff source id index name) = false
diff_keeps_rules kind book (DeletionDiff index kept) = false
diff_keeps_rules kind book (MoveDiff id from to) = false
diff_keeps_rules kind book (RenameDiff id old new kept) = false
diff_keeps_rules kind book (NameDiff change kept) = false
diff_keeps_rules kind book (SettingDiff change) = true

-- a list that does: it is empty, or has one such diff
abbrev pub keeps_rules : DiffType → Book → List Diff → Bool
keeps_rules kind book [] = true
keeps_rules kind book (diff ∷ []) = diff_keeps_rules kind book diff
keeps_rules kind book (first ∷ second ∷ rest) = false
