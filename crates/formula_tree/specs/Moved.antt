-- A tree whose corners move: the corners of each reference and range go through a mapping.
use Rattle.std.specs.Prelude.{ℕ, List, Option, Some, None}
use Rattle.base_values.specs.declared.Position.{Position}
use Rattle.base_tables.specs.declared.Error.TheVariants.{Ref}
use Rattle.formula_tree.specs.declared.corner.Corner.{Corner}
use Rattle.formula_tree.specs.declared.node.Node.{Node, fold-Node}
use Rattle.formula_tree.specs.declared.node.Node.TheVariants as node
use Rattle.formula_tree.specs.declared.node.Node.TheOpen.{Node-F}
use Rattle.formula_tree.specs.declared.node.Node.TheOpen as layer
use Rattle.formula_tree.specs.Corners.{lower_corner, higher_corner}

-- where corners go, beside the sheet that their node names: that of a reference, and the two of a range. None is lost
pub record Mapping : Type 0 where
  pub reference : Option (List ℕ) → Corner → Option Corner
  pub first : Option (List ℕ) → Corner → Corner → Option Corner
  pub second : Option (List ℕ) → Corner → Corner → Option Corner

-- a reference to where its corner went: `#REF!` where that is lost
unfoldable pub reference_to : Option (List ℕ) → Option Corner → Node
reference_to sheet (Some corner) = node.Reference sheet corner
reference_to sheet None = node.Error Ref

-- a range between where its corners went, in order for a formula at that place. Where one is lost, each side of `:` stands alone
unfoldable pub range_to : Position → Option (List ℕ) → Option Corner → Option Corner → Node
range_to to sheet (Some first) (Some second) = node.Range sheet (lower_corner to first second) (higher_corner to first second)
range_to to sheet first second = node.Colon (reference_to sheet first) (reference_to sheet second)

-- one node, whose children are moved
abbrev pub move_layer : Position → Mapping → Node-F Node → Node
move_layer to m (layer.Reference sheet corner) = reference_to sheet (m.reference sheet corner)
move_layer to m (layer.Range sheet first second) = range_to to sheet (m.first sheet first second) (m.second sheet first second)
move_layer to m (layer.Boolean value) = node.Boolean value
move_layer to m (layer.Number value) = node.Number value
move_layer to m (layer.Text text) = node.Text text
move_layer to m (layer.Colon a b) = node.Colon a b
move_layer to m (layer.Concatenate a b) = node.Concatenate a b
move_layer to m (layer.Compare kind a b) = node.Compare kind a b
move_layer to m (layer.Sum kind a b) = node.Sum kind a b
move_layer to m (layer.Product kind a b) = node.Product kind a b
move_layer to m (layer.Power a b) = node.Power a b
move_layer to m (layer.Unary kind a) = node.Unary kind a
move_layer to m (layer.Call function all) = node.Call function all
move_layer to m (layer.NamedCall name all) = node.NamedCall name all
move_layer to m (layer.Array lines) = node.Array lines
move_layer to m (layer.Name name) = node.Name name
move_layer to m (layer.Error error) = node.Error error
move_layer to m (layer.ParseError text) = node.ParseError text
move_layer to m layer.EmptyArgument = node.EmptyArgument
move_layer to m (layer.Spill a) = node.Spill a
move_layer to m (layer.Lambda parameters a) = node.Lambda parameters a
move_layer to m (layer.LambdaCall a all) = node.LambdaCall a all
move_layer to m (layer.ImplicitIntersection a) = node.ImplicitIntersection a

-- the tree of a formula that then stands at that place
unfoldable pub moved : Position → Mapping → Node → Node
moved to m = fold-Node Node (move_layer to m)
