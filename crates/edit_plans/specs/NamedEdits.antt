-- Edits of the defined names of a workbook: what each changes, and its diff.
use Rattle.std.specs.Prelude.{List, Result}
use Rattle.base_values.specs.declared.EditError.{EditError}
use Rattle.base_values.specs.Answers.{map_ok}
use Rattle.sheet_grid.specs.Book.{Book}
use Rattle.name_edits.specs.declared.NameChange.{NameChange}
use Rattle.name_edits.specs.NameChanges.{name_made, trees_lost}
use Rattle.name_edits.specs.NameEdits.{NameEdit, name_change}
use Rattle.sheet_history.specs.declared.Diff.{Diff}
use Rattle.sheet_history.specs.declared.Diff.TheVariants.{ChangeName as NameDiff}
use Rattle.edit_plans.specs.SheetEdits.{one_diff}

-- the workbook after an edit of its names, or the edit's first refusal
unfoldable pub names_edited : NameEdit → Book → Result Book EditError
names_edited edit book = map_ok (λ change. name_made change book) (name_change edit book)

-- the diff of a change, of the workbook before it
abbrev pub name_diff : Book → NameChange → Diff
name_diff book change = NameDiff change (trees_lost change book)

abbrev pub names_record : NameEdit → Book → List Diff
names_record edit book = one_diff (map_ok (name_diff book) (name_change edit book))
