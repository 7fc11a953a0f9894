-- When the change of a defined name is made, and when it is taken back.
use Rattle.std.proofs.Common.{ℕ, Bool, true, length, Result, Ok, Err}
use Rattle.std.specs.Prelude.{◌&&◌, ◌||◌, ◌==◌, is_some, nat_le, nat_lt, if◌then◌else◌}
use Rattle.std.specs.Option.{option_map_or}
use Rattle.std.specs.FinMap.{len}
use Rattle.base_values.specs.declared.EditError.{EditError}
use Rattle.base_values.specs.declared.EditError.TheVariants.{DiffRefused}
use Rattle.cell_content.specs.Fitting.{tree_fits_at}
use Rattle.defined_names.specs.declared.DefinedName.{DefinedName}
use Rattle.sheet_grid.specs.Book.{Book}
use Rattle.sheet_rules.specs.Names.{first_place}
use Rattle.book_names.specs.declared.KeptTrees.{KeptTrees}
use Rattle.book_names.specs.RenameDiffs.{are_in_sheets, may_stand}
use Rattle.name_edits.specs.declared.name_change.NameChange.{NameChange}
use Rattle.name_edits.specs.NameChanges.{name_made, name_unmade, opposite}

-- a name goes, or one comes
abbrev pub is_change : NameChange → Bool
is_change change = is_some change.old || is_some change.new

-- one does, and another one comes in its place
abbrev pub is_replacement : NameChange → Bool
is_replacement change = is_some change.old && is_some change.new

-- among so many names the index is that of one, or where none goes also that behind the last one
abbrev pub has_place : NameChange → ℕ → Bool
has_place change count = if is_some change.old then nat_lt change.index count else nat_le change.index count

-- the tree of the name that comes may stand at A1
abbrev pub comes_fitting : NameChange → Bool
comes_fitting change = option_map_or (λ (name : DefinedName). tree_fits_at first_place name.formula) change.new true

-- no tree is kept, and no conditional rule
abbrev pub keeps_nothing : KeptTrees → Bool
keeps_nothing kept = (len kept.formulas == 0) && (len kept.names == 0) && (len kept.formattings == 0)

-- whether a change can be made. Trees and conditional rules are kept of a replacement alone, and are inside their sheets
unfoldable pub goes_forward : NameChange → KeptTrees → Book → Bool
goes_forward change kept book =
    is_change change && has_place change (length book.names) && comes_fitting change && (is_replacement change || keeps_nothing kept) && are_in_sheets kept

-- whether it can be taken back
unfoldable pub goes_back : NameChange → KeptTrees → Book → Bool
goes_back change kept book = goes_forward (opposite change) kept book && may_stand kept book

-- the workbook after a change, or the diff of that number is refused
unfoldable pub name_forward : ℕ → NameChange → KeptTrees → Book → Result Book EditError
name_forward at change kept book = if goes_forward change kept book then Ok (name_made change book) else Err (DiffRefused 0 at)

-- the workbook before it, or the diff of that number is refused
unfoldable pub name_back : ℕ → NameChange → KeptTrees → Book → Result Book EditError
name_back at change kept book = if goes_back change kept book then Ok (name_unmade change kept book) else Err (DiffRefused 0 at)
