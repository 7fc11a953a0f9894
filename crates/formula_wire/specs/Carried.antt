-- Trees whose parts bytes can carry.
use Rattle.std.specs.Prelude.{◌^◌, ℤ, pos, negsuc, Bool, true, ◌&&◌, nat_lt, IsTrue}
use Rattle.base_decimal.specs.Canonical.{is_canonical}
use Rattle.formula_tree.specs.declared.ArrayItem.{ArrayItem}
use Rattle.formula_tree.specs.declared.ArrayItem.TheVariants as item
use Rattle.formula_tree.specs.declared.Corner.{Corner}
use Rattle.formula_tree.specs.declared.Parameter.{Parameter}
use Rattle.formula_tree.specs.declared.Node.{Node, fold-Node}
use Rattle.formula_tree.specs.declared.Node.TheOpen.{Node-F}
use Rattle.formula_tree.specs.declared.Node.TheOpen as layer
use Rattle.formula_tree.specs.Depth.{is_within}
use Rattle.formula_tree.specs.Numbers.{has_canonical_numbers}
use Rattle.base_wire.specs.Forms.{if_passes, is_text, is_list}

-- a number of 32 bits
abbrev pub is_signed : ℤ → Bool
is_signed (pos n) = nat_lt n (2 ^ 31)
is_signed (negsuc n) = nat_lt n (2 ^ 31)

abbrev pub is_corner : Corner → Bool
is_corner corner = is_signed corner.row && is_signed corner.column

-- constants whose numbers are canonical, and texts of Rust
abbrev pub is_item : ArrayItem → Bool
is_item (item.Boolean value) = true
is_item (item.Number value) = is_canonical value
is_item (item.Text text) = is_text text
is_item (item.Error error) = true

abbrev pub is_parameter : Parameter → Bool
is_parameter parameter = is_text parameter.name

-- one node, whose children are tested
abbrev pub carried_layer : Node-F Bool → Bool
carried_layer (layer.Boolean value) = true
carried_layer (layer.Number value) = is_canonical value
carried_layer (layer.Text text) = is_text text
carried_layer (layer.Reference sheet corner) = if_passes is_text sheet && is_corner corner
carried_layer (layer.Range sheet first second) = if_passes is_text sheet && (is_corner first && is_corner second)
carried_layer (layer.Colon a b) = a && b
carried_layer (layer.Concatenate a b) = a && b
carried_layer (layer.Compare kind a b) = a && b
carried_layer (layer.Sum kind a b) = a && b
carried_layer (layer.Product kind a b) = a && b
carried_layer (layer.Power a b) = a && b
carried_layer (layer.Unary kind a) = a
carried_layer (layer.Call function all) = is_list (λ test. test) all
carried_layer (layer.NamedCall name all) = is_text name && is_list (λ test. test) all
carried_layer (layer.Array lines) = is_list (is_list is_item) lines
carried_layer (layer.Name name) = is_text name
carried_layer (layer.Error error) = true
carried_layer (layer.ParseError text) = is_text text
carried_layer layer.EmptyArgument = true
carried_layer (layer.Spill a) = a
carried_layer (layer.Lambda parameters a) = is_list is_parameter parameters && a
carried_layer (layer.LambdaCall a all) = a && is_list (λ test. test) all
carried_layer (layer.ImplicitIntersection a) = a

-- each number of the tree is canonical, each text and list is one of Rust, and each corner has numbers of 32 bits
unfoldable pub is_carried : Node → Bool
is_carried = fold-Node Bool carried_layer

-- a tree that bytes can carry: at most 64 deep, of parts that they can carry
pub record FitsNode (node : Node) : Type 0 where
  pub carried : IsTrue (is_carried node)
  pub depth : IsTrue (is_within 64 node)

-- what writing asks of a tree: its numbers are canonical, and it is at most 64 deep
pub record IsKnownNode (node : Node) : Type 0 where
  pub canonical : IsTrue (has_canonical_numbers node)
  pub depth : IsTrue (is_within 64 node)
