-- A tree whose leaves name other things.
use Rattle.std.specs.Prelude.{ℕ, List, Option}
use Rattle.formula_tree.specs.declared.Node.{Node, fold-Node}
use Rattle.formula_tree.specs.declared.Node.TheVariants as node
use Rattle.formula_tree.specs.declared.Node.TheOpen.{Node-F}
use Rattle.formula_tree.specs.declared.Node.TheOpen as layer

-- what the leaves of a tree name in place of what they named: the sheets of references and ranges, and names
pub record Naming : Type 0 where
  pub sheet : Option (List ℕ) → Option (List ℕ)
  pub name : List ℕ → List ℕ

-- one node that names something else, whose children do
abbrev pub named_layer : Naming → Node-F Node → Node
named_layer f (layer.Reference sheet corner) = node.Reference (f.sheet sheet) corner
named_layer f (layer.Range sheet first second) = node.Range (f.sheet sheet) first second
named_layer f (layer.Boolean value) = node.Boolean value
named_layer f (layer.Number value) = node.Number value
named_layer f (layer.Text text) = node.Text text
named_layer f (layer.Colon a b) = node.Colon a b
named_layer f (layer.Concatenate a b) = node.Concatenate a b
named_layer f (layer.Compare kind a b) = node.Compare kind a b
named_layer f (layer.Sum kind a b) = node.Sum kind a b
named_layer f (layer.Product kind a b) = node.Product kind a b
named_layer f (layer.Power a b) = node.Power a b
named_layer f (layer.Unary kind a) = node.Unary kind a
named_layer f (layer.Call function all) = node.Call function all
named_layer f (layer.NamedCall name all) = node.NamedCall name all
named_layer f (layer.Array lines) = node.Array lines
named_layer f (layer.Name name) = node.Name (f.name name)
named_layer f (layer.Error error) = node.Error error
named_layer f (layer.ParseError text) = node.ParseError text
named_layer f layer.EmptyArgument = node.EmptyArgument
named_layer f (layer.Spill a) = node.Spill a
named_layer f (layer.Lambda parameters a) = node.Lambda parameters a
named_layer f (layer.LambdaCall a all) = node.LambdaCall a all
named_layer f (layer.ImplicitIntersection a) = node.ImplicitIntersection a

-- the tree whose references, ranges and names have these in place of their own, and that is the same in all else
unfoldable pub named : Naming → Node → Node
named f = fold-Node Node (named_layer f)
