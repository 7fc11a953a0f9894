-- The bytes of defined names.
use Rattle.std.specs.Prelude.{◌≡◌, ℕ, ◌<◌, ◌^◌, List, ◌++◌, IfSome, true}
use Rattle.std.specs.List.{list_all}
use Rattle.formula_tree.specs.Depth.{is_within}
use Rattle.std.specs.Int.{w32, to_be_bytes}
use Rattle.defined_names.specs.declared.DefinedName.{DefinedName}
use Rattle.base_wire.specs.Encoding.{encode_list, encode_text, encode_option, FitsItems, FitsText}
use Rattle.formula_wire.specs.NodeBytes.{encode_node}
use Rattle.formula_wire.specs.Carried.{FitsNode, IsKnownNode}

-- the name, the id of the sheet where it is known, and what it stands for
unfoldable pub encode_name : DefinedName → List ℕ
encode_name name = encode_text name.name ++ (encode_option (to_be_bytes w32) name.scope ++ encode_node name.formula)

-- a text of Rust, an id of 32 bits, and a tree that bytes can carry
pub record FitsName (one : DefinedName) : Type 0 where
  pub name : FitsText one.name
  pub scope : IfSome one.scope (λ id. id < 2 ^ 32)
  pub formula : FitsNode one.formula

-- what writing asks: the numbers of its tree are canonical, and the tree is at most 64 deep
abbrev pub IsKnownName : DefinedName → Type 0
IsKnownName name = IsKnownNode name.formula

-- the defined names of a workbook, in their order
abbrev pub encode_names : List DefinedName → List ℕ
encode_names = encode_list encode_name

abbrev pub FitsNames : List DefinedName → Type 0
FitsNames = FitsItems FitsName

-- what writing asks of them, whose numbers are canonical: their trees are at most 64 deep
abbrev pub AreKnownNames : List DefinedName → Type 0
AreKnownNames names = list_all (λ (name : DefinedName). is_within 64 name.formula) names ≡ true
