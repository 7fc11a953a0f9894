-- Defined names, and what becomes of them where a sheet goes, comes back or is copied.
use Rattle.std.specs.Prelude.{ℕ, ◌==◌, ◌&&◌, Bool, false, not, nat_eq, List, ◌++◌, Option, Some, None, IfSome, IsTrue, All, if◌then◌else◌}
use Rattle.std.specs.List.{enumerate_from, filter, filter_map, fold, insert}
use Rattle.std.specs.Option.{option_eq, option_map_or}
use Rattle.std.specs.Ordering.{nat_cmp}
use Rattle.std.specs.FinMap.{FinMap, from_entries, entries, get}
use Rattle.base_tables.specs.Folding.{same_folded}
use Rattle.formula_tree.specs.Numbers.{has_canonical_numbers}
use Rattle.defined_names.specs.declared.defined_name.DefinedName.{DefinedName}

-- every number of its tree is canonical
abbrev pub IsCanonicalName : DefinedName → Type 0
IsCanonicalName name = IsTrue (has_canonical_numbers name.formula)

abbrev pub AreCanonicalNames : List DefinedName → Type 0
AreCanonicalNames names = All IsCanonicalName names

-- known in the sheet of an id alone
abbrev pub is_scoped_to : ℕ → DefinedName → Bool
is_scoped_to id name = option_map_or (λ scope. scope == id) name.scope false

-- known in the same sheet, or both in the whole workbook, and equal by folding
abbrev pub is_same_name : DefinedName → DefinedName → Bool
is_same_name a b = option_eq nat_eq a.scope b.scope && same_folded a.name b.name

-- ---- where a sheet goes

-- the names but for those of a sheet
abbrev pub names_left : ℕ → List DefinedName → List DefinedName
names_left id names = filter (λ name. not (is_scoped_to id name)) names

-- those of a sheet with their places, where the first name has the place at
abbrev pub placed_names : ℕ → ℕ → List DefinedName → List (ℕ × DefinedName)
placed_names id at names = filter (λ (entry : ℕ × DefinedName). is_scoped_to id entry.1) (enumerate_from at names)

-- those of a sheet by their places
abbrev pub kept_names : ℕ → List DefinedName → FinMap nat_cmp DefinedName
kept_names id names = from_entries (placed_names id 0 names)

-- ---- where it comes back

-- the numbers of their trees are canonical
abbrev pub AreCanonicalPlaced : FinMap nat_cmp DefinedName → Type 0
AreCanonicalPlaced kept = (place : ℕ) → IfSome (get kept place) IsCanonicalName

-- names put into a list one after another, each at its place
abbrev pub names_put : List (ℕ × DefinedName) → List DefinedName → List DefinedName
names_put placed names = fold (λ (put : List DefinedName) (entry : ℕ × DefinedName). insert put entry.0 entry.1) names placed

-- kept names put back at their places
abbrev pub names_restored : FinMap nat_cmp DefinedName → List DefinedName → List DefinedName
names_restored kept names = names_put (entries kept) names

-- ---- where it is copied

-- the same name, known in the sheet of an id
abbrev pub name_in : ℕ → DefinedName → DefinedName
name_in id name = record name { scope = Some id }

-- the copy of a name for a sheet, where the name is one of its source
abbrev pub copied_name : ℕ → ℕ → DefinedName → Option DefinedName
copied_name source id name = if is_scoped_to source name then Some (name_in id name) else None

-- the names of a sheet come behind all names once more, known in the copy of that sheet
abbrev pub names_copied : ℕ → ℕ → List DefinedName → List DefinedName
names_copied source id names = names ++ filter_map (copied_name source id) names
