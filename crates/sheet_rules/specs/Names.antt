-- When the defined names of a workbook are well-formed.
use Rattle.std.specs.Prelude.{ℕ, pos, Bool, true, ◌&&◌, ◌==◌, List}
use Rattle.std.specs.List.{list_all, list_any}
use Rattle.std.specs.Option.{option_map_or}
use Rattle.base_values.specs.declared.Position.{Position}
use Rattle.cell_content.specs.Fitting.{tree_fits_at}
use Rattle.defined_names.specs.declared.DefinedName.{DefinedName}
use Rattle.defined_names.specs.Legal.{is_defined_name}
use Rattle.defined_names.specs.Names.{is_same_name}
use Rattle.sheet_rules.specs.Distinct.{are_distinct}

-- A1, where the trees of defined names stand
abbrev pub first_place : Position
first_place = record { row = pos 1; column = pos 1 }

-- rule 6 of defined names: each tree may stand at A1
unfoldable pub have_name_trees : List DefinedName → Bool
have_name_trees names = list_all (λ (name : DefinedName). tree_fits_at first_place name.formula) names

-- the sheet of an id is there
abbrev pub is_id_of : List ℕ → ℕ → Bool
is_id_of ids id = list_any (λ other. id == other) ids

-- the sheet where a name is known, if it is not the whole workbook, is there
abbrev pub has_living_scope : List ℕ → DefinedName → Bool
has_living_scope ids name = option_map_or (is_id_of ids) name.scope true

-- rule 8: each name is legal, no two of one scope are equal by folding, and their sheets, which have these ids, are there
unfoldable pub are_names : List ℕ → List DefinedName → Bool
are_names ids names = list_all (λ (name : DefinedName). is_defined_name name.name) names && are_distinct is_same_name names && list_all (has_living_scope ids) names
