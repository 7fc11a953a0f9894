-- What is told of a tree by its references, ranges and names.
use Rattle.std.specs.Prelude.{ℕ, Bool, false, ◌||◌, List, Option}
use Rattle.std.specs.List.{list_any}
use Rattle.formula_tree.specs.declared.Corner.{Corner}
use Rattle.formula_tree.specs.declared.Node.{Node, fold-Node}
use Rattle.formula_tree.specs.declared.Node.TheOpen.{Node-F}
use Rattle.formula_tree.specs.declared.Node.TheOpen as layer

-- a test of references and one of ranges, beside the sheet that they name, and one of names
pub record LeafTests : Type 0 where
  pub reference : Option (List ℕ) → Corner → Bool
  pub range : Option (List ℕ) → Corner → Corner → Bool
  pub name : List ℕ → Bool

-- one node, whose children are tested
abbrev pub leaf_layer : LeafTests → Node-F Bool → Bool
leaf_layer t (layer.Reference sheet corner) = t.reference sheet corner
leaf_layer t (layer.Range sheet first second) = t.range sheet first second
leaf_layer t (layer.Boolean value) = false
leaf_layer t (layer.Number value) = false
leaf_layer t (layer.Text text) = false
leaf_layer t (layer.Colon a b) = a || b
leaf_layer t (layer.Concatenate a b) = a || b
leaf_layer t (layer.Compare kind a b) = a || b
leaf_layer t (layer.Sum kind a b) = a || b
leaf_layer t (layer.Product kind a b) = a || b
leaf_layer t (layer.Power a b) = a || b
leaf_layer t (layer.Unary kind a) = a
leaf_layer t (layer.Call function all) = list_any (λ test. test) all
leaf_layer t (layer.NamedCall name all) = list_any (λ test. test) all
leaf_layer t (layer.Array lines) = false
leaf_layer t (layer.Name name) = t.name name
leaf_layer t (layer.Error error) = false
leaf_layer t (layer.ParseError text) = false
leaf_layer t layer.EmptyArgument = false
leaf_layer t (layer.Spill a) = a
leaf_layer t (layer.Lambda parameters a) = a
leaf_layer t (layer.LambdaCall a all) = a || list_any (λ test. test) all
leaf_layer t (layer.ImplicitIntersection a) = a

-- some reference, range or name of the tree passes its test
unfoldable pub has_leaf : LeafTests → Node → Bool
has_leaf t = fold-Node Bool (leaf_layer t)
