-- Edits of defined names: which change each makes, and when it is refused. A scope is the index of a sheet, or none for the whole workbook.
use Rattle.std.specs.Prelude.{ℕ, ◌&&◌, not, slice_get, Bool, List, length, Option, Some, None, Result, Ok, Err, if◌then◌else◌}
use Rattle.std.specs.List.{list_any, remove}
use Rattle.base_values.specs.declared.EditError.{EditError}
use Rattle.base_values.specs.declared.EditError.TheVariants.{UnknownName, NameTaken, BadName, BadFormula}
use Rattle.base_values.specs.Answers.{and_then, map_ok, ok_or}
use Rattle.formula_tree.specs.declared.Node.{Node}
use Rattle.formula_tree.specs.ParseError.{is_parse_error}
use Rattle.cell_content.specs.Fitting.{tree_fits_at}
use Rattle.defined_names.specs.declared.DefinedName.{DefinedName}
use Rattle.defined_names.specs.Legal.{is_defined_name}
use Rattle.sheet_grid.specs.Sheet.{Sheet}
use Rattle.sheet_grid.specs.Book.{Book, sheet_at}
use Rattle.sheet_rules.specs.Names.{first_place}
use Rattle.name_edits.specs.declared.name_change.NameChange.{NameChange}
use Rattle.name_edits.specs.LookUp.{is_named, place_of}

-- an edit of the defined names with its arguments
pub data NameEdit : Type 0 where
  -- the scope, the name and the formula of a new one
  Add : Option ℕ → List ℕ → Node → NameEdit
  -- the scope and the name of the one that goes
  Remove : Option ℕ → List ℕ → NameEdit
  -- the scope and the name of one, and the scope, the name and the formula that it gets
  Update : Option ℕ → List ℕ → Option ℕ → List ℕ → Node → NameEdit

-- ---- what is tested

-- the id of the sheet at an index, or none for the whole workbook: there is no such sheet
abbrev pub scope_id : Option ℕ → Book → Result (Option ℕ) EditError
scope_id None book = Ok None
scope_id (Some index) book = map_ok (λ (sheet : Sheet). Some sheet.id) (sheet_at book index)

-- the scope of a name, which is taken there or not: it may not be a name, or is taken
abbrev pub free_name : Option ℕ → List ℕ → Bool → Result (Option ℕ) EditError
free_name id text taken = if is_defined_name text then (if taken then Err NameTaken else Ok id) else Err BadName

-- the place of the name of a scope: there is none
abbrev pub known_place : Option ℕ → List ℕ → List DefinedName → Result ℕ EditError
known_place id text names = ok_or UnknownName (place_of id text names)

-- the name at a place
abbrev pub name_at : ℕ → List DefinedName → Result DefinedName EditError
name_at place names = ok_or UnknownName (slice_get names place)

-- a tree is no text outside the grammar, and may stand at A1
abbrev pub is_name_formula : Node → Bool
is_name_formula tree = not (is_parse_error tree) && tree_fits_at first_place tree

-- the name of that scope and text with that formula: it is none
abbrev pub with_formula : Option ℕ → List ℕ → Node → Result DefinedName EditError
with_formula id text tree = if is_name_formula tree then Ok (record { name = text; scope = id; formula = tree }) else Err BadFormula

-- ---- before the formula is known

-- the scope of a new name: there is no such sheet, it may not be a name, or it is taken
unfoldable pub name_goes : Option ℕ → List ℕ → Book → Result (Option ℕ) EditError
name_goes scope text book = and_then (scope_id scope book) (λ id. free_name id text (list_any (is_named id text) book.names))

-- the place of a name, and the scope of the one that it becomes: a sheet is not there, the name is not known, or the new one may not be
-- a name, or is another one
unfoldable pub update_goes : Option ℕ → List ℕ → Option ℕ → List ℕ → Book → Result (ℕ × Option ℕ) EditError
update_goes scope text new_scope new_text book =
    and_then (scope_id scope book) (λ id.
    and_then (scope_id new_scope book) (λ new_id.
    and_then (known_place id text book.names) (λ place.
    map_ok (λ found. (place, found)) (free_name new_id new_text (list_any (is_named new_id new_text) (remove book.names place))))))

-- ---- the changes

-- a new name of a workbook
unfoldable pub valid_name : Option ℕ → List ℕ → Node → Book → Result DefinedName EditError
valid_name scope text tree book = and_then (name_goes scope text book) (λ id. with_formula id text tree)

-- it comes behind the others
unfoldable pub name_added : Option ℕ → List ℕ → Node → Book → Result NameChange EditError
name_added scope text tree book = map_ok (λ name. record { index = length book.names; old = None; new = Some name }) (valid_name scope text tree book)

-- a name goes
unfoldable pub name_removed : Option ℕ → List ℕ → Book → Result NameChange EditError
name_removed scope text book =
    and_then (scope_id scope book) (λ id.
    and_then (known_place id text book.names) (λ place.
    map_ok (λ old. record { index = place; old = Some old; new = None }) (name_at place book.names)))

-- a name becomes another one, in its place
unfoldable pub name_updated : Option ℕ → List ℕ → Option ℕ → List ℕ → Node → Book → Result NameChange EditError
name_updated scope text new_scope new_text tree book =
    and_then (update_goes scope text new_scope new_text book) (λ found.
    and_then (name_at found.0 book.names) (λ old.
    map_ok (λ new. record { index = found.0; old = Some old; new = Some new }) (with_formula found.1 new_text tree)))

-- the change that an edit makes, or its first refusal
abbrev pub name_change : NameEdit → Book → Result NameChange EditError
name_change (Add scope text tree) book = name_added scope text tree book
name_change (Remove scope text) book = name_removed scope text book
name_change (Update scope text new_scope new_text tree) book = name_updated scope text new_scope new_text tree book
