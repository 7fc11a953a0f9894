-- Which sheet is selected after a list of diffs is followed: the one that was, wherever sheets are taken.
use Rattle.std.specs.Prelude.{ℕ, ◌==◌, Bool, true, false, List, [], ◌∷◌, map, reverse, position, Option, Some, None}
use Rattle.std.specs.List.{insert, list_any, remove}
use Rattle.sheet_ids.specs.Moved.{selected_sheet_after_move}
use Rattle.sheet_history.specs.declared.diff.Diff.{Diff}
use Rattle.sheet_history.specs.declared.diff.Diff.TheVariants.{Cell as CellDiff, Link as LinkDiff, Merges as MergesDiff, Field as FieldDiff, Lines as LinesDiff, NewSheet as NewDiff, DuplicateSheet as CopyDiff, DeleteSheet as DeletionDiff, MoveSheet as MoveDiff, RenameSheet as RenameDiff, ChangeName as NameDiff, Rule as RuleDiff, Attributes as AttrDiff, Setting as SettingDiff}
use Rattle.sheet_history.specs.declared.diff.DiffType.{DiffType}
use Rattle.sheet_history.specs.declared.diff.DiffType.TheVariants.{Undo, Redo}
use Rattle.sheet_history.specs.declared.selection.ListStep.{ListStep}
use Rattle.sheet_history.specs.declared.selection.ListStep.TheVariants.{Stays, Comes, Goes, Moves}

-- ---- what a diff does to the list of the sheets

-- forward a sheet comes, goes or is taken to its later index
abbrev pub forward_step : Diff → ListStep
forward_step (CellDiff sheet place old new) = Stays
forward_step (LinkDiff sheet place old new) = Stays
forward_step (MergesDiff sheet old new) = Stays
forward_step (FieldDiff sheet change) = Stays
forward_step (AttrDiff sheet axis line old new) = Stays
forward_step (RuleDiff sheet change) = Stays
forward_step (LinesDiff sheet axis edit kept) = Stays
forward_step (NewDiff sheet index name) = Comes sheet index
forward_step (CopyDiff source sheet index name) = Comes sheet index
forward_step (DeletionDiff index kept) = Goes kept.sheet.id
forward_step (MoveDiff sheet from to) = Moves sheet to
forward_step (RenameDiff sheet old new kept) = Stays
forward_step (NameDiff change kept) = Stays
forward_step (SettingDiff change) = Stays

-- back it goes, comes or is taken to its earlier index
abbrev pub back_step : Diff → ListStep
back_step (CellDiff sheet place old new) = Stays
back_step (LinkDiff sheet place old new) = Stays
back_step (MergesDiff sheet old new) = Stays
back_step (FieldDiff sheet change) = Stays
back_step (AttrDiff sheet axis line old new) = Stays
back_step (RuleDiff sheet change) = Stays
back_step (LinesDiff sheet axis edit kept) = Stays
back_step (NewDiff sheet index name) = Goes sheet
back_step (CopyDiff source sheet index name) = Goes sheet
back_step (DeletionDiff index kept) = Comes kept.sheet.id index
back_step (MoveDiff sheet from to) = Moves sheet from
back_step (RenameDiff sheet old new kept) = Stays
back_step (NameDiff change kept) = Stays
back_step (SettingDiff change) = Stays

-- the steps of a list that is followed: undone it is followed from its end
abbrev pub steps_of : DiffType → List Diff → List ListStep
steps_of Undo list = map back_step (reverse list)
steps_of Redo list = map forward_step list

-- ---- what a step does

-- where the sheet of an id stands among the ids of the sheets
abbrev pub index_in : List ℕ → ℕ → Option ℕ
index_in ids sheet = position (λ id. id == sheet) ids

abbrev pub ids_without : Option ℕ → List ℕ → List ℕ
ids_without None ids = ids
ids_without (Some index) ids = remove ids index

abbrev pub ids_moved : Option ℕ → ℕ → ℕ → List ℕ → List ℕ
ids_moved None sheet to ids = ids
ids_moved (Some from) sheet to ids = insert (remove ids from) to sheet

-- the ids of the sheets after a step
abbrev pub ids_after : ListStep → List ℕ → List ℕ
ids_after Stays ids = ids
ids_after (Comes sheet index) ids = insert ids index sheet
ids_after (Goes sheet) ids = ids_without (index_in ids sheet) ids
ids_after (Moves sheet to) ids = ids_moved (index_in ids sheet) sheet to ids

abbrev pub selected_of : Option ℕ → ℕ → ℕ → ℕ
selected_of None to selected = selected
selected_of (Some from) to selected = selected_sheet_after_move selected from to

-- the selected index after a step, among the ids before it: only a move changes it
abbrev pub selected_after : ListStep → List ℕ → ℕ → ℕ
selected_after Stays ids selected = selected
selected_after (Comes sheet index) ids selected = selected
selected_after (Goes sheet) ids selected = selected
selected_after (Moves sheet to) ids selected = selected_of (index_in ids sheet) to selected

-- the selected index after one step after another
abbrev pub selected_along : List ListStep → List ℕ → ℕ → ℕ
selected_along [] ids selected = selected
selected_along (step ∷ steps) ids selected = selected_along steps (ids_after step ids) (selected_after step ids selected)

-- ---- what a list does

-- the index that is selected after a list is followed, from the ids of the sheets and the selected index before
unfoldable pub selection_followed : DiffType → List ℕ → List Diff → ℕ → ℕ
selection_followed kind ids list selected = selected_along (steps_of kind list) ids selected

abbrev pub is_move : Diff → Bool
is_move (CellDiff sheet place old new) = false
is_move (LinkDiff sheet place old new) = false
is_move (MergesDiff sheet old new) = false
is_move (FieldDiff sheet change) = false
is_move (AttrDiff sheet axis line old new) = false
is_move (RuleDiff sheet change) = false
is_move (LinesDiff sheet axis edit kept) = false
is_move (NewDiff sheet index name) = false
is_move (CopyDiff source sheet index name) = false
is_move (DeletionDiff index kept) = false
is_move (MoveDiff sheet from to) = true
is_move (RenameDiff sheet old new kept) = false
is_move (NameDiff change kept) = false
is_move (SettingDiff change) = false

-- whether a list moves a sheet
abbrev pub has_move : List Diff → Bool
has_move list = list_any is_move list
