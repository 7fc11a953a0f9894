-- A tree after a sheet or a defined name was renamed: what becomes of the names in it, and which trees the opposite renaming does not give back.
use Rattle.std.specs.Prelude.{ℕ, Bool, true, false, not, ◌&&◌, if◌then◌else◌, List, Option, None, Some}
use Rattle.std.specs.Option.{option_map, option_map_or}
use Rattle.base_tables.specs.Folding.{same_folded}
use Rattle.base_tables.specs.Tables.{same_text}
use Rattle.base_values.specs.CodedEq.{same_value}
use Rattle.formula_tree.specs.declared.Node.{Node}
use Rattle.formula_tree.specs.contracts.node.Node.{the_row}
use Rattle.formula_names.specs.declared.reach.Reach.{Reach}
use Rattle.formula_names.specs.declared.reach.Reach.TheVariants.{Sheets, Names, Nothing}
use Rattle.formula_names.specs.Named.{Naming, named}
use Rattle.formula_back.specs.Leaves.{LeafTests}

-- ---- names

-- whether a renaming reaches the sheets that references and ranges name
abbrev pub reaches_sheets : Reach → Bool
reaches_sheets Sheets = true
reaches_sheets Names = false
reaches_sheets Nothing = false

-- whether it reaches the names, variables among them
abbrev pub reaches_names : Reach → Bool
reaches_names Sheets = false
reaches_names Names = true
reaches_names Nothing = false

-- a name that is reached and is equal to the old one by folding becomes the new one, and any other stays
unfoldable pub renamed_name : Bool → List ℕ → List ℕ → List ℕ → List ℕ
renamed_name reached old new name = if reached && same_folded name old then new else name

-- so it is of a node that may name a sheet
abbrev pub renamed_sheet : Bool → List ℕ → List ℕ → Option (List ℕ) → Option (List ℕ)
renamed_sheet reached old new = option_map (renamed_name reached old new)

-- ---- trees

abbrev pub naming : Reach → List ℕ → List ℕ → Naming
naming reach old new = record { sheet = renamed_sheet (reaches_sheets reach) old new; name = renamed_name (reaches_names reach) old new }

-- so it is of each reference, range and name of a tree, and no other node changes
abbrev pub tree_renamed : Reach → List ℕ → List ℕ → Node → Node
tree_renamed reach old new = named (naming reach old new)

-- the tree after a renaming and the opposite one, each with what it reaches
abbrev pub renamed_and_back : Reach → Reach → List ℕ → List ℕ → Node → Node
renamed_and_back there back old new tree = tree_renamed back new old (tree_renamed there old new tree)

-- what is kept of a tree: the tree itself, where the opposite renaming does not give it
unfoldable pub tree_kept : Reach → Reach → List ℕ → List ℕ → Node → Option Node
tree_kept there back old new tree = if same_value the_row.coded (renamed_and_back there back old new tree) tree then None else Some tree

-- ---- told by the names in a tree

-- a name is lost where the two renamings don't give it
unfoldable pub is_lost_name : Bool → Bool → List ℕ → List ℕ → List ℕ → Bool
is_lost_name there back old new name = not (same_text (renamed_name back new old (renamed_name there old new name)) name)

-- so is a node that names a sheet
abbrev pub is_lost_sheet : Bool → Bool → List ℕ → List ℕ → Option (List ℕ) → Bool
is_lost_sheet there back old new sheet = option_map_or (is_lost_name there back old new) sheet false

abbrev pub lost_names : Reach → Reach → List ℕ → List ℕ → LeafTests
lost_names there back old new = record {
  reference = λ sheet corner. is_lost_sheet (reaches_sheets there) (reaches_sheets back) old new sheet;
  range = λ sheet first second. is_lost_sheet (reaches_sheets there) (reaches_sheets back) old new sheet;
  name = is_lost_name (reaches_names there) (reaches_names back) old new;
}
