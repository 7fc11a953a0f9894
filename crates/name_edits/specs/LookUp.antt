-- Looking defined names up: which name a formula of a sheet means.
use Rattle.std.specs.Prelude.{ℕ, ◌&&◌, Bool, nat_eq, List, Option, Some, None, if◌then◌else◌}
use Rattle.std.specs.List.{position}
use Rattle.std.specs.Option.{option_eq, option_or}
use Rattle.base_tables.specs.Folding.{same_folded}
use Rattle.formula_names.specs.declared.Reach.{Reach}
use Rattle.formula_names.specs.declared.Reach.TheVariants.{Names, Nothing}
use Rattle.defined_names.specs.declared.DefinedName.{DefinedName}

-- a name is known in the sheet of an id alone, or without an id in the whole workbook, and is equal to a text by folding
abbrev pub is_named : Option ℕ → List ℕ → DefinedName → Bool
is_named scope text name = option_eq nat_eq scope name.scope && same_folded text name.name

-- the place of the first such name
unfoldable pub place_of : Option ℕ → List ℕ → List DefinedName → Option ℕ
place_of scope text names = position (is_named scope text) names

-- the place of the name that a formula of a sheet means by a text: the sheet's own name comes before that of the whole workbook
unfoldable pub looked_up : ℕ → List ℕ → List DefinedName → Option ℕ
looked_up id text names = option_or (place_of (Some id) text names) (place_of None text names)

-- whether it is the name at a place
abbrev pub is_found : ℕ → List ℕ → List DefinedName → ℕ → Bool
is_found place text names id = option_eq nat_eq (looked_up id text names) (Some place)

-- where the name at a place is renamed, its text becomes another one in the sheets whose formulas mean it, and in no other
abbrev pub reach_at : ℕ → List ℕ → List DefinedName → ℕ → Reach
reach_at place text names id = if is_found place text names id then Names else Nothing
