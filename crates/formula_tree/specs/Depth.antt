-- How deep a tree is.
use Rattle.std.specs.Prelude.{ℕ, ◌+◌, max, Bool, nat_le, List, [], ◌∷◌}
use Rattle.formula_tree.specs.declared.node.Node.{Node, fold-Node}
use Rattle.formula_tree.specs.declared.node.Node.TheOpen.{Node-F}
use Rattle.formula_tree.specs.declared.node.Node.TheOpen as layer

-- the greatest of some numbers, or 0
abbrev pub greatest : List ℕ → ℕ
greatest [] = 0
greatest (x ∷ xs) = max x (greatest xs)

-- a leaf is 1 deep and a range 2, any other node one more than its deepest child; a call without arguments is a leaf
abbrev pub layer_depth : Node-F ℕ → ℕ
layer_depth (layer.Boolean value) = 1
layer_depth (layer.Number value) = 1
layer_depth (layer.Text text) = 1
layer_depth (layer.Reference sheet corner) = 1
layer_depth (layer.Range sheet first second) = 2
layer_depth (layer.Colon a b) = max a b + 1
layer_depth (layer.Concatenate a b) = max a b + 1
layer_depth (layer.Compare kind a b) = max a b + 1
layer_depth (layer.Sum kind a b) = max a b + 1
layer_depth (layer.Product kind a b) = max a b + 1
layer_depth (layer.Power a b) = max a b + 1
layer_depth (layer.Unary kind a) = a + 1
layer_depth (layer.Call function all) = greatest all + 1
layer_depth (layer.NamedCall name all) = greatest all + 1
layer_depth (layer.Array lines) = 1
layer_depth (layer.Name name) = 1
layer_depth (layer.Error error) = 1
layer_depth (layer.ParseError text) = 1
layer_depth layer.EmptyArgument = 1
layer_depth (layer.Spill a) = a + 1
layer_depth (layer.Lambda parameters a) = a + 1
layer_depth (layer.LambdaCall a all) = max a (greatest all) + 1
layer_depth (layer.ImplicitIntersection a) = a + 1

-- how deep a tree is
unfoldable pub depth_of : Node → ℕ
depth_of = fold-Node ℕ layer_depth

-- a tree is at most this deep
unfoldable pub is_within : ℕ → Node → Bool
is_within most n = nat_le (depth_of n) most
